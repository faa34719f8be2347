-- An entry that stays stands for what it stood for, where others are folded into it.
use Rattle.at_evict.proofs.Common.{◌≡◌, inl, inr, ℕ, zero, suc, ◌<◌, ◌≤◌, ◌+◌, List, true, true≢false, Option, None, Some, Contains, option_map, refl, sym, ap, ◌∙◌, subst, arith, list_any, none-some, same_Some, Location, Edge, Folded, Folds, IsLeft, Rewritten, Tells, Info, Memory, covers, edge_to, is_listed, agree, any_of, some_of, or_cases, or_left, or_right, has, is_in, Index, Standing, kept_at, standing}
use Rattle.at_cache.proofs.Ending.{far_enough, opened}
use Rattle.at_cache.proofs.Entered.{kept_of}

module _ {lists later : Location ℕ → List Edge} {puts : ℕ} {m n : Memory} {into : ℕ → List ℕ} (i : Index lists puts m) (j : Index later puts n) (plan : Folds m into) (d : Folded lists m into later n) (l : Location ℕ) where
  old_more : (s : ℕ) (e : Info) → m s ≡ Some e → covers lists m (suc puts) s l ≡ true → covers lists m puts s l ≡ true
  old_more s e there h = sym (far_enough i puts s e there (i.ordered s e there) l) ∙ h

  new_more : (s : ℕ) (e : Info) → n s ≡ Some e → covers later n (suc puts) s l ≡ true → covers later n puts s l ≡ true
  new_more s e there h = sym (far_enough j puts s e there (j.ordered s e there) l) ∙ h

  old_read : (s : ℕ) (e : Info) → m s ≡ Some e → Contains (lists l) (edge_to s e) → covers lists m puts s l ≡ true
  old_read s e there c = old_more s e there (opened lists m puts s e there l ∙ or_left _ (list_any (λ p. covers lists m puts p l) e.links) (has (lists l) (edge_to s e) c))

  old_link : (s p : ℕ) (e : Info) → m s ≡ Some e → Contains e.links p → covers lists m puts p l ≡ true → covers lists m puts s l ≡ true
  old_link s p e there c h = old_more s e there (opened lists m puts s e there l ∙ or_right (is_listed (edge_to s e) (lists l)) _ (any_of (λ p. covers lists m puts p l) e.links p c h))

  new_read : (s : ℕ) (e : Info) → n s ≡ Some e → Contains (later l) (edge_to s e) → covers later n puts s l ≡ true
  new_read s e there c = new_more s e there (opened later n puts s e there l ∙ or_left _ (list_any (λ p. covers later n puts p l) e.links) (has (later l) (edge_to s e) c))

  new_link : (s p : ℕ) (e : Info) → n s ≡ Some e → Contains e.links p → covers later n puts p l ≡ true → covers later n puts s l ≡ true
  new_link s p e there c h = new_more s e there (opened later n puts s e there l ∙ or_right (is_listed (edge_to s e) (later l)) _ (any_of (λ p. covers later n puts p l) e.links p c h))

  -- what one stands for that is folded into r is what r stood for
  climbs : (left s r : ℕ) (e : Info) → m s ≡ Some e → puts ≤ left + e.since → Contains (into s) r → covers lists m puts s l ≡ true → covers lists m puts r l ≡ true
  climbs zero s r e there far c h = let before = i.ordered s e there in absurd (omega arith)
  climbs (suc left) s r e there far c h = elim (plan.used s r e there c) [
    | inl same ↦ subst (λ k. covers lists m puts k l ≡ true) (sym same) h
    | inr (t, f, user, link, d) ↦
        let (g, found, before, edge) = i.used t f user s link in
        let same = ap (λ (x : Info). x.since) (same_Some g e (sym found ∙ there)) in
        climbs left t r f user (omega arith) d (old_link t s f user link h)
  ]

  -- what one stands for that is folded into r is what r stands for
  goes_down : (far s r : ℕ) (e f : Info) → m s ≡ Some e → n r ≡ Some f → Contains (into s) r → covers lists m far s l ≡ true → covers later n puts r l ≡ true
  goes_down zero s r e f there here c h = absurd (true≢false (sym h))
  goes_down (suc far) s r e f there here c h = elim (or_cases _ _ (sym (opened lists m far s e there l) ∙ h)) [
    | inl read ↦ new_read r f here ((d.readers l).has r f here (s, e, there, c, is_in (lists l) (edge_to s e) read))
    | inr linked ↦
        let (p, link, is) = some_of (λ p. covers lists m far p l) e.links linked in
        let (g, found, before, edge) = i.used s e there p link in
        elim (plan.below s r e there c p link) [
          | inl stays ↦ let (k, new) = d.stays p g found stays in new_link r p f here (d.links r f here p (stays, (s, e, there, c, link))) (goes_down far p p g k found new stays is)
          | inr folded ↦ goes_down far p r g f found here folded is
        ]
  ]

  -- and what r stands for it stood for
  goes_up : (far r : ℕ) (f : Info) → n r ≡ Some f → covers later n far r l ≡ true → covers lists m puts r l ≡ true
  goes_up zero r f here h = absurd (true≢false (sym h))
  goes_up (suc far) r f here h = elim (or_cases _ _ (sym (opened later n far r f here l) ∙ h)) [
    | inl read ↦ let (s, e, there, c, edge) = (d.readers l).from (edge_to r f) (is_in (later l) (edge_to r f) read) in climbs puts s r e there (omega arith) c (old_read s e there edge)
    | inr linked ↦
        let (p, link, is) = some_of (λ p. covers later n far p l) f.links linked in
        let (stays, (s, e, there, c, used)) = d.link r f here p link in
        let (g, new, before, edge) = j.used r f here p link in
        climbs puts s r e there (omega arith) c (old_link s p e there used (goes_up far p g new is))
  ]

  pub same_covers : (r : ℕ) (f : Info) → n r ≡ Some f → covers later n puts r l ≡ covers lists m puts r l
  same_covers r f here =
      let (stays, (e, there, left, users)) = d.from r f here in
      agree _ _ (goes_up puts r f here) (goes_down puts r r e f there here stays)

-- the entries are indexed as before
module _ {lists later : Location ℕ → List Edge} {puts : ℕ} {m n : Memory} {into : ℕ → List ℕ} (i : Index lists puts m) (plan : Folds m into) (d : Folded lists m into later n) where
  -- what is folded into r came no later
  is_older : (left s r : ℕ) (e g : Info) → m s ≡ Some e → m r ≡ Some g → puts ≤ left + e.since → Contains (into s) r → e.since ≤ g.since
  is_older zero s r e g there here far c = let before = i.ordered s e there in absurd (omega arith)
  is_older (suc left) s r e g there here far c = elim (plan.used s r e there c) [
    | inl same ↦ let is = ap (λ (x : Info). x.since) (same_Some e g (sym there ∙ ap m (sym same) ∙ here)) in omega arith
    | inr (t, f, user, link, d) ↦
        let (h, found, before, edge) = i.used t f user s link in
        let same = ap (λ (x : Info). x.since) (same_Some h e (sym found ∙ there)) in
        let later = is_older left t r f g user here (omega arith) d in
        omega arith
  ]

  was : (s : ℕ) (f e : Info) → n s ≡ Some f → m s ≡ Some e → IsLeft e f × Rewritten m into n e.users f.users
  was s f e here there =
      let (stays, (g, found, left, users)) = d.from s f here in
      subst (λ (x : Info). IsLeft x f × Rewritten m into n x.users f.users) (same_Some g e (sym found ∙ there)) (left, users)

  is_past : (x : Edge) → Tells n x → x.stamp < puts
  is_past x (f, here, same) =
      let (stays, (e, there, left, users)) = d.from x.slot f here in
      let known = i.known x.slot e there in
      let stamp = left.stamp in
      omega arith

  used_still : (s : ℕ) (f : Info) → n s ≡ Some f → (p : ℕ) → Contains f.links p → (h : Info) × (n p ≡ Some h) × (h.since < f.since) × Contains h.users (edge_to s f)
  used_still s f here p link =
      let (stays, (t, e, there, c, used)) = d.link s f here p link in
      let (g, found, before, edge) = i.used t e there p used in
      let (h, new) = d.stays p g found stays in
      let (kept, (o, origin, left, users)) = d.from s f here in
      let (same, rewritten) = was p h g new found in
      let older = is_older puts t s e o there origin (omega arith) c in
      let a = same.since in
      let b = left.since in
      (h, new, omega arith, rewritten.has s f here (t, e, there, c, edge))

  uses_still : (p : ℕ) (f : Info) → n p ≡ Some f → (x : Edge) → Contains f.users x → (e : Info) → n x.slot ≡ Some e → e.stamp ≡ x.stamp → Contains e.links p
  uses_still p f here x c e there same =
      let (stays, (g, had, left, users)) = d.from p f here in
      let (s, o, origin, into_x, edge) = users.from x c in
      d.links x.slot e there p (stays, (s, o, origin, into_x, i.uses p g had (edge_to s o) edge o origin refl))

  pub folded_indexed : Index later puts n
  folded_indexed = record {
    idle = λ s f here. let (stays, (e, there, left, users)) = d.from s f here in left.going ∙ i.idle s e there;
    known = λ s f here. let (stays, (e, there, left, users)) = d.from s f here in let known = i.known s e there in let a = left.stamp in omega arith;
    ordered = λ s f here. let (stays, (e, there, left, users)) = d.from s f here in let ordered = i.ordered s e there in let a = left.since in omega arith;
    used = used_still;
    uses = uses_still;
    past_readers = λ l x c. is_past x ((d.readers l).tells x c);
    past_users = λ p f here x c. let (stays, (g, had, left, users)) = d.from p f here in is_past x (users.tells x c);
  }

-- what is kept was kept just so
pub kept_folded : {lists later : Location ℕ → List Edge} {puts : ℕ} {m n : Memory} {into : ℕ → List ℕ} → Index lists puts m → Folds m into → Folded lists m into later n
    → (s : ℕ) (x : Standing) → kept_at later n puts s ≡ Some x → kept_at lists m puts s ≡ Some x
kept_folded {lists} {later} {puts} {m} {n} i plan d s x h = by (n s) refl
  where
    by : (o : Option Info) → n s ≡ o → kept_at lists m puts s ≡ Some x
    by None none = absurd (none-some x (sym (ap (option_map (standing later n puts s)) none) ∙ h))
    by (Some f) here =
        let (stays, (e, there, left, users)) = d.from s f here in
        kept_of lists m puts s e there
        ∙ ap Some (λ k. record { instance = sym left.instance k; kept = record { value = sym left.value k; covers = λ l. sym (same_covers i (folded_indexed i plan d) plan d l s f here) k } })
        ∙ sym (kept_of later n puts s f here)
        ∙ h
