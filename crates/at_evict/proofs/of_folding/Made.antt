-- What comes of a folding: the entries that stay stand for what they stood for.
use Rattle.at_evict.proofs.Common.{◌≡◌, inl, inr, ℕ, zero, suc, ◌≤◌, ◌+◌, List, Option, None, Some, Contains, refl, sym, ap, ◌∙◌, subst, arith, cases_eq, none-some, same_Some, Location, Edge, AreLinks, Folded, Folds, IsLeft, IsRelinked, Linked, Refolded, Relinks, Remains, Rewritten, Stays, Info, Memory, is_current, edge_to, Index, Standing, kept_at, current, told_of}
use Rattle.at_evict.proofs.of_folding.Folded.{folded_indexed, kept_folded}

module _ {lists later : Location ℕ → List Edge} {puts : ℕ} {m mid n : Memory} {into links : ℕ → List ℕ} (i : Index lists puts m) (plan : Folds m into) (readers : (l : Location ℕ) → Refolded (is_current m) into (lists l) (later l)) (linked : AreLinks m into links) (relinked : Relinks into links m mid) (left : Remains into mid n) where
  -- an entry into which one is folded is there, and stays
  ends : (far s r : ℕ) (e : Info) → m s ≡ Some e → puts ≤ far + e.since → Contains (into s) r → Stays into r × ((g : Info) × (m r ≡ Some g))
  ends zero s r e there past c = let before = i.ordered s e there in absurd (omega arith)
  ends (suc far) s r e there past c = elim (plan.used s r e there c) [
    | inl same ↦ (subst (λ k. Contains (into k) r) (sym same) c, (e, ap m same ∙ there))
    | inr (t, f, user, link, d) ↦
        let (g, found, before, edge) = i.used t f user s link in
        let same = ap (λ (x : Info). x.since) (same_Some g e (sym found ∙ there)) in
        ends far t r f user (omega arith) d
  ]

  record Left (r : ℕ) (f : Info) : Type 0 where
    e : Info
    there : m r ≡ Some e
    same : IsLeft e f
    its_links : Linked into e.links (links r) f.links
    users : Refolded (is_current m) into e.users f.users

  -- what is left was there
  left_of : (r : ℕ) (f : Info) → n r ≡ Some f → Left r f
  left_of r f here = by (m r) refl (relinked r stays)
    where
      stays : Stays into r
      stays = left.only r f here

      at_mid : mid r ≡ Some f
      at_mid = sym (left.stays r stays) ∙ here

      by : (o : Option Info) → m r ≡ o → IsRelinked (is_current m) into (links r) o (mid r) → Left r f
      by None none gone = absurd (none-some f (sym gone ∙ at_mid))
      by (Some e) there (g, is, same, its, users) =
          let one : g ≡ f = same_Some g f (sym is ∙ at_mid) in record {
            e = e;
            there = there;
            same = subst (IsLeft e) one same;
            its_links = subst (λ (h : Info). Linked into e.links (links r) h.links) one its;
            users = subst (λ (h : Info). Refolded (is_current m) into e.users h.users) one users;
          }

  -- what stays is left
  left_there : (r : ℕ) (e : Info) → m r ≡ Some e → Stays into r → (f : Info) × (n r ≡ Some f)
  left_there r e there stays =
      let (g, is, same, its, users) = subst (λ o. IsRelinked (is_current m) into (links r) o (mid r)) there (relinked r stays) in
      (g, left.stays r stays ∙ is)

  rewritten : (old new : List Edge) → Refolded (is_current m) into old new → Rewritten m into n old new
  rewritten old new h = record {
    has = λ r f here u.
        let (s, e, there, c, d) = u in
        let l = left_of r f here in
        h.has (edge_to r f) (edge_to s e, d, current m (edge_to s e) e there refl, c) (current m (edge_to r f) l.e l.there (sym l.same.stamp));
    from = λ x c.
        let (is, (z, d, k, t)) = h.from x c in
        let (e, there, stamp) = told_of m z k in
        (z.slot, e, there, t, subst (Contains old) (λ j. record { slot = z.slot; stamp = sym stamp j }) d);
    tells = λ x c.
        let (is, (z, d, k, t)) = h.from x c in
        let (e, there, stamp) = told_of m z k in
        let (g, found, of_x) = told_of m x is in
        let (stays, more) = ends puts z.slot x.slot e there (omega arith) t in
        let (f, here) = left_there x.slot g found stays in
        let l = left_of x.slot f here in
        let one : l.e ≡ g = same_Some l.e g (sym l.there ∙ found) in
        (f, here, l.same.stamp ∙ ap (λ (y : Info). y.stamp) one ∙ of_x);
  }

  pub folded_by : Folded lists m into later n
  folded_by = record {
    from = λ r f here. let l = left_of r f here in (left.only r f here, (l.e, l.there, l.same, rewritten l.e.users f.users l.users));
    stays = left_there;
    readers = λ l. rewritten (lists l) (later l) (readers l);
    links = λ r f here p u.
        let l = left_of r f here in
        let (stays, (s, e, there, c, used)) = u in
        elim (cases_eq r s) [
          | inl same ↦ l.its_links.has p (subst (λ (x : Info). Contains x.links p) (same_Some e l.e (sym there ∙ ap m (sym same) ∙ l.there)) used) stays
          | inr other ↦ l.its_links.kept p (linked.has s r p e there c other used stays)
        ];
    link = λ r f here p c.
        let l = left_of r f here in
        elim (l.its_links.from p c) [ inl d ↦ linked.from r p d | inr (stays, used) ↦ (stays, (r, l.e, l.there, left.only r f here, used)) ];
  }

  pub indexed_then : Index later puts n
  indexed_then = folded_indexed i plan folded_by

  pub kept_then : (s : ℕ) (x : Standing) → kept_at later n puts s ≡ Some x → kept_at lists m puts s ≡ Some x
  kept_then = kept_folded i plan folded_by
