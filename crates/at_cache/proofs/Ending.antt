-- Where a flush has ended: just what stands for none of the locations is left, and is found as before.
use Rattle.at_cache.proofs.Common.{◌≡◌, ◌⊎◌, inl, inr, ℕ, zero, suc, ◌<◌, List, [], ◌∷◌, ◌||◌, Bool, true, false, Option, None, Some, option_map, Contains, refl, sym, ap, ◌∙◌, subst, arith, list_any, eq-eqb, or_left, or_cases, and_from, or_right, none-some, same_Some, Location, Edge, Info, Memory, Reached, Work, IsChain, IsDoomed, IsSame, Begins, covers, edge_to, is_listed, same_edge, is_in, none_in, any_of, some_of, any_same}
use Rattle.at_cache.specs.Flushing as flushing
use Rattle.at_cache.proofs.Index.{Index, LeavesSlots, LosesSlots, Standing, kept_at, standing}

-- where nothing is to do any more, nothing goes
pub none_goes : {old m : Memory} {start : List Edge} → Work old start [] None m
    → (s : ℕ) (e : Info) → m s ≡ Some e → e.going ≡ true → ⊥
none_goes {m = m} w s e there going = by w.chain w.linked (w.all s e there going)
  where
    by : (ss : List ℕ) → IsChain m None ss → Contains ss s → ⊥
    by [] h c = none_in s c
    by (t ∷ ts) h c = none-some t (h.0)

-- an edge of the location to the entry
pub has_edge : (edges : List Edge) (x : Edge) (e : Info) → Contains edges x → e.stamp ≡ x.stamp → is_listed (edge_to x.slot e) edges ≡ true
has_edge edges x e c same = any_of (same_edge (edge_to x.slot e)) edges x c (and_from _ _ (eq-eqb x.slot x.slot refl) (eq-eqb e.stamp x.stamp same))

module _ (lists : Location ℕ → List Edge) where
  -- what an entry covers
  pub opened : (m : Memory) (far s : ℕ) (e : Info) → m s ≡ Some e → (l : Location ℕ) → covers lists m (suc far) s l ≡ (is_listed (edge_to s e) (lists l) || list_any (λ p. covers lists m far p l) e.links)
  opened m far s e there l = ap (λ (o : Option Info). elim o as (λ _. Bool) [ None ↦ false | Some e ↦ is_listed (edge_to s e) (lists l) || list_any (λ p. covers lists m far p l) e.links ]) there

module _ {lists : Location ℕ → List Edge} {puts : ℕ} {old : Memory} (indexed : Index lists puts old) where
  -- links lead to earlier entries, so that one doesn't have to look further than those
  pub far_enough : (far s : ℕ) (e : Info) → old s ≡ Some e → e.since < far → (l : Location ℕ) → covers lists old (suc far) s l ≡ covers lists old far s l
  far_enough zero s e there h l = absurd (omega arith)
  far_enough (suc far) s e there h l =
      opened lists old (suc far) s e there l
      ∙ ap (λ b. is_listed (edge_to s e) (lists l) || b) (any_same (λ p. covers lists old (suc far) p l) (λ p. covers lists old far p l) e.links (λ p c. let (f, found, before, edge) = indexed.used s e there p c in far_enough far p f found (omega arith) l))
      ∙ sym (opened lists old far s e there l)

  covers_more : (s : ℕ) (e : Info) → old s ≡ Some e → (l : Location ℕ) → covers lists old (suc puts) s l ≡ true → covers lists old puts s l ≡ true
  covers_more s e there l h = sym (far_enough puts s e there (indexed.ordered s e there) l) ∙ h

  module _ (says : Location ℕ → Bool → Type 0) {start : List Edge} (begins : Begins says lists start) where
    -- what is reached stands for a location with the answer `true`
    touches : (s : ℕ) → Reached old start s → (l : Location ℕ) × (covers lists old puts s l ≡ true) × says l true
    touches _ (flushing.by_start x c e there same) =
        let (l, said, d) = begins.from x c in
        let direct = has_edge (lists l) x e d same in
        (l, covers_more x.slot e there l (opened lists old puts x.slot e there l ∙ or_left _ (list_any (λ p. covers lists old puts p l) e.links) direct), said)
    touches _ (flushing.by_user p r f found x c e there same) =
        let (l, is, said) = touches p r in
        let linked : list_any (λ p. covers lists old puts p l) e.links ≡ true = any_of (λ p. covers lists old puts p l) e.links p (indexed.uses p f found x c e there same) is in
        (l, covers_more x.slot e there l (opened lists old puts x.slot e there l ∙ or_right (is_listed (edge_to x.slot e) (lists l)) _ linked), said)

    module _ {m : Memory} (w : Work old start [] None m) where
      quiet_false : (s : ℕ) (e : Info) → m s ≡ Some e → e.going ≡ false
      quiet_false s e there = by e.going refl
        where
          by : (b : Bool) → e.going ≡ b → e.going ≡ false
          by true h = absurd (none_goes w s e there h)
          by false h = h

      -- what is left isn't doomed
      not_doomed : (s : ℕ) (e f : Info) → m s ≡ Some e → e.stamp ≡ f.stamp → IsDoomed m (edge_to s f) ⊎ Contains [] (edge_to s f) → ⊥
      not_doomed s e f there same (inl d) = none_goes w s e there (d e there same)
      not_doomed s e f there same (inr c) = none_in (edge_to s f) c

      -- nor is what it links to gone
      link_there : (s : ℕ) (e : Info) → m s ≡ Some e → (p : ℕ) → Contains e.links p → (f : Info) × (m p ≡ Some f)
      link_there s e there p c = by (m p) refl
        where
          by : (o : Option Info) → m p ≡ o → (f : Info) × (m p ≡ Some f)
          by (Some f) found = (f, found)
          by None none =
              let (o, was, alike) = w.same s e there in
              let (f, found, before, edge) = indexed.used s o was p (subst (λ ls. Contains ls p) alike.links c) in
              absurd (not_doomed s e o there alike.stamp (w.left p f found none (edge_to s o) edge))

      -- what is left stands for no location with another answer than `false`
      pub safe : (far s : ℕ) (e : Info) → m s ≡ Some e → (l : Location ℕ) → covers lists old far s l ≡ true → says l false
      safe zero s e there l h = absurd (cc)
      safe (suc far) s e there l h =
          let (o, was, alike) = w.same s e there in
          elim (or_cases _ _ (sym (opened lists old far s o was l) ∙ h)) [
            | inl direct ↦ untouched l (edge_to s o) (is_in (lists l) (edge_to s o) direct) (λ c. not_doomed s e o there alike.stamp (w.started (edge_to s o) c))
            | inr linked ↦
                let (p, in_links, is) = some_of (λ p. covers lists old far p l) o.links linked in
                let (f, found) = link_there s e there p (subst (λ ls. Contains ls p) (sym alike.links) in_links) in
                safe far p f found l is
          ]
        where
          untouched : (l : Location ℕ) (x : Edge) → Contains (lists l) x → (Contains start x → ⊥) → says l false
          untouched l x edge out = elim (begins.all l) [ inl said ↦ said | inr all ↦ absurd (out (all x edge)) ]

      -- and stands for the same locations
      pub covers_same : (far s : ℕ) (e : Info) → m s ≡ Some e → (l : Location ℕ) → covers lists m far s l ≡ covers lists old far s l
      covers_same zero s e there l = refl
      covers_same (suc far) s e there l =
          let (o, was, alike) = w.same s e there in
          opened lists m far s e there l
          ∙ ap (λ n. is_listed (record { slot = s; stamp = n }) (lists l) || list_any (λ p. covers lists m far p l) e.links) alike.stamp
          ∙ ap (λ b. is_listed (edge_to s o) (lists l) || b) (any_same (λ p. covers lists m far p l) (λ p. covers lists old far p l) e.links (λ p c. let (f, found) = link_there s e there p c in covers_same far p f found l))
          ∙ ap (λ (ls : List ℕ). is_listed (edge_to s o) (lists l) || list_any (λ p. covers lists old far p l) ls) alike.links
          ∙ sym (opened lists old far s o was l)

      pub indexed_after : Index lists puts m
      indexed_after = record {
        idle = quiet_false;
        known = λ s e there. let (o, was, alike) = w.same s e there in subst (λ n. n < puts) (sym alike.stamp) (indexed.known s o was);
        ordered = λ s e there. let (o, was, alike) = w.same s e there in subst (λ n. n < puts) (sym alike.since) (indexed.ordered s o was);
        used = λ s e there p c.
            let (o, was, alike) = w.same s e there in
            let (f, found) = link_there s e there p c in
            let (g, was_found, alike_found) = w.same p f found in
            let (h, had, before, edge) = indexed.used s o was p (subst (λ v. Contains v p) alike.links c) in
            let same : h ≡ g = same_Some h g (sym had ∙ was_found) in (
              f,
              found,
              let a : g.since < o.since = subst (λ (n : Info). n.since < o.since) same before in let b = alike.since in let d = alike_found.since in omega arith,
              subst (λ n. Contains f.users (record { slot = s; stamp = n })) (sym alike.stamp) (subst (λ v. Contains v (edge_to s o)) (sym alike_found.users) (subst (λ (n : Info). Contains n.users (edge_to s o)) same edge)),
            );
        uses = λ p f found x c e there same.
            let (o, was, alike) = w.same x.slot e there in
            let (g, was_found, alike_found) = w.same p f found in
            subst (λ v. Contains v p) (sym alike.links) (indexed.uses p g was_found x (subst (λ v. Contains v x) alike_found.users c) o was (sym alike.stamp ∙ same));
        past_readers = indexed.past_readers;
        past_users = λ p f found x c. let (g, was_found, alike_found) = w.same p f found in indexed.past_users p g was_found x (subst (λ v. Contains v x) alike_found.users c);
      }

      pub kept_same : (s : ℕ) (e : Info) → m s ≡ Some e → kept_at lists m puts s ≡ kept_at lists old puts s
      kept_same s e there =
          let (o, was, alike) = w.same s e there in
          ap (option_map (standing lists m puts s)) there ∙ ap Some (same_kept o alike) ∙ sym (ap (option_map (standing lists old puts s)) was)
        where
          same_kept : (o : Info) → IsSame o e → standing lists m puts s e ≡ standing lists old puts s o
          same_kept o h i = record { instance = h.instance i; kept = record { value = h.value i; covers = λ l. covers_same puts s e there l i } }

      entry_of : (m : Memory) (s : ℕ) (x : Standing) → kept_at lists m puts s ≡ Some x → (e : Info) × (m s ≡ Some e) × (x.kept.covers ≡ covers lists m puts s)
      entry_of m s x h = by (m s) refl
        where
          by : (o : Option Info) → m s ≡ o → (e : Info) × (m s ≡ Some e) × (x.kept.covers ≡ covers lists m puts s)
          by None none = absurd (none-some x (sym (ap (option_map (standing lists m puts s)) none) ∙ h))
          by (Some e) there = (e, there, sym (ap (λ (y : Standing). y.kept.covers) (same_Some (standing lists m puts s e) x (sym (ap (option_map (standing lists m puts s)) there) ∙ h))))

      pub leaves : LeavesSlots says (kept_at lists old puts) (kept_at lists m puts)
      leaves s x h =
          let (e, there, covers_is) = entry_of m s x h in
          (sym (kept_same s e there) ∙ h, λ l is. safe puts s e there l (sym (covers_same puts s e there l) ∙ ap (λ f. f l) (sym covers_is) ∙ is))

      pub loses : LosesSlots says (kept_at lists old puts) (kept_at lists m puts)
      loses s x h = let (o, was, covers_is) = entry_of old s x h in by o was covers_is (m s) refl
        where
          by : (o : Info) → old s ≡ Some o → x.kept.covers ≡ covers lists old puts s → (n : Option Info) → m s ≡ n → (kept_at lists m puts s ≡ Some x) ⊎ ((l : Location ℕ) × (x.kept.covers l ≡ true) × says l true)
          by o was covers_is (Some e) there = inl (kept_same s e there ∙ h)
          by o was covers_is None none = let (l, is, said) = touches s (w.gone s o was none) in inr (l, ap (λ f. f l) covers_is ∙ is, said)
