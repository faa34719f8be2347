-- What is kept of instances is what is kept in slots.
use Rattle.at_cache.proofs.Common.{◌≡◌, ℕ, zero, suc, List, [], ◌∷◌, Bool, true, false, cond, Option, None, Some, option_map, IsSome, is_some, slice_get, refl, sym, ap, ◌∙◌, subst, arith, lookup, none-some, same_Some, get, Instance, same_instance, instances_equiv, same_true, Entry, Table, Info, info, memory_of}
use Rattle.at_cache.proofs.Moving.{at_none, at_some, table_by}

pub entry_at : (test : Instance ℕ → Bool) (es : List (Instance ℕ × Entry)) (e : Entry) → lookup test es ≡ Some e → (p : ℕ) × (j : Instance ℕ) × (slice_get es p ≡ Some (j, e)) × (test j ≡ true)
entry_at test [] e h = absurd (none-some e h)
entry_at test (x ∷ xs) e h = by (test x.0) refl h (entry_at test xs e)
  where
    by : (b : Bool) → test x.0 ≡ b → cond b (Some x.1) (lookup test xs) ≡ Some e → (lookup test xs ≡ Some e → (p : ℕ) × (j : Instance ℕ) × (slice_get xs p ≡ Some (j, e)) × (test j ≡ true))
        → (p : ℕ) × (j : Instance ℕ) × (slice_get (x ∷ xs) p ≡ Some (j, e)) × (test j ≡ true)
    by true t is rest = (zero, x.0, ap (λ (v : Entry). Some (x.0, v)) (same_Some x.1 e is), t)
    by false t is rest = let (p, j, there, passes) = rest is in (suc p, j, there, passes)

pub first_at : (test : Instance ℕ → Bool) (es : List (Instance ℕ × Entry)) (p : ℕ) (e : Instance ℕ × Entry) → slice_get es p ≡ Some e → test e.0 ≡ true
    → ((q : ℕ) (f : Instance ℕ × Entry) → slice_get es q ≡ Some f → test f.0 ≡ true → q ≡ p) → lookup test es ≡ Some e.1
first_at test [] p e h t only = absurd (none-some e h)
first_at test (x ∷ xs) zero e h t only = ap (λ b. cond b (Some x.1) (lookup test xs)) (ap (λ (y : Instance ℕ × Entry). test y.0) (same_Some x e h) ∙ t) ∙ ap (λ (y : Instance ℕ × Entry). Some y.1) (same_Some x e h)
first_at test (x ∷ xs) (suc p) e h t only = by (test x.0) refl (first_at test xs p e h t (λ q f found passes. let same = only (suc q) f found passes in omega (arith, same)))
  where
    by : (b : Bool) → test x.0 ≡ b → lookup test xs ≡ Some e.1 → cond (test x.0) (Some x.1) (lookup test xs) ≡ Some e.1
    by true is rest = absurd (let no = only zero x refl is in omega (arith, no))
    by false is rest = ap (λ b. cond b (Some x.1) (lookup test xs)) is ∙ rest

-- what stands at a place is the entry of its instance
pub looked_up : (t : Table) (p : ℕ) (j i : Instance ℕ) (e : Entry) → slice_get t.entries.entries p ≡ Some (j, e) →
    same_instance j i ≡ true → lookup (same_instance i) t.entries.entries ≡ Some e
looked_up t p j i e there same = subst (λ (x : Instance ℕ). lookup (same_instance x) t.entries.entries ≡ Some e)
    (same_true j i same)
    (first_at (same_instance j) t.entries.entries p (j, e) there (instances_equiv.refl j)
    (λ q f at_q its. sym (t.placed.apart p q (j, e) f there at_q its)))

-- where the entry of an instance is
pub slot_taken : (t : Table) (p : ℕ) (e : Instance ℕ × Entry) → slice_get t.entries.entries p ≡ Some e → memory_of t e.1.slot ≡ Some (info e)
slot_taken t p e there = ap (option_map info) (at_some t.entries.entries (get t.places) e.1.slot p (t.placed.to p e there) ∙ there)

-- the entry of an instance, by its slot
pub found_by : (t : Table) (i : Instance ℕ) (e : Entry) → lookup (same_instance i) t.entries.entries ≡ Some e → (j : Instance ℕ) × (memory_of t e.slot ≡ Some (info (j, e))) × (same_instance i j ≡ true)
found_by t i e found = let (p, j, there, same) = entry_at (same_instance i) t.entries.entries e found in (j, slot_taken t p (j, e) there, same)

-- and what is in a slot, by its instance
pub held_by : (t : Table) (i : Instance ℕ) (s : ℕ) (f : Info) → memory_of t s ≡ Some f → same_instance i f.instance ≡ true
    → (e : Entry) × (j : Instance ℕ) × (lookup (same_instance i) t.entries.entries ≡ Some e) × (e.slot ≡ s) × (info (j, e) ≡ f)
held_by t i s f h same = by (get t.places s) refl
  where
    by : (o : Option ℕ) → get t.places s ≡ o → (e : Entry) × (j : Instance ℕ) × (lookup (same_instance i) t.entries.entries ≡ Some e) × (e.slot ≡ s) × (info (j, e) ≡ f)
    by None none = absurd (none-some f (sym (ap (option_map info) (at_none t.entries.entries (get t.places) s none)) ∙ h))
    by (Some p) is =
        let (e, there, of_slot) = (table_by t.placed).from s p is in
        let is_f : info e ≡ f = same_Some (info e) f (sym (ap (option_map info) (at_some t.entries.entries (get t.places) s p is ∙ there)) ∙ h) in
        let passes : same_instance i e.0 ≡ true = ap (λ (y : Info). same_instance i y.instance) is_f ∙ same in
        let found : lookup (same_instance i) t.entries.entries ≡ Some e.1 = first_at (same_instance i) t.entries.entries p e there passes (λ q g at_q its. t.placed.apart q p g e at_q there (sym (instances_equiv.congr i g.0 e.0 its) ∙ passes)) in
        (e.1, e.0, found, of_slot, is_f)

pub slot_there : (t : Table) (i : Instance ℕ) (e : Entry) → lookup (same_instance i) t.entries.entries ≡ Some e → IsSome (memory_of t e.slot)
slot_there t i e found = let (p, j, there, same) = entry_at (same_instance i) t.entries.entries e found in ap is_some (slot_taken t p (j, e) there)
