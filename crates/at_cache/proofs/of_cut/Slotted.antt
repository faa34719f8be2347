-- The slot of an instance's entry.
use Rattle.at_cache.proofs.Common.{◌≡◌, ℕ, Bool, List, [], Option, None, Some, IfSome, ap, if◌then◌else◌, is_some, option_map, refl, subst, sym, false, true, ◌∙◌, lookup, none-some, same_Some, get, Instance, same_instance, same_true, Entry, Standing, Table, Edge, edges_in, Info, info, memory_of, at, users_at, held_of, standing_of, HasSlot}
use Rattle.at_cache.proofs.of_cut.HeldSlots.{entry_in}

-- the users of what is in the slot
pub users_there : (t : Table) (s : ℕ) (x : Instance ℕ × Entry) → Some x ≡ at t.entries.entries (get t.places) s
    → edges_in x.1.users ≡ users_at (memory_of t) s
users_there t s x found = ap (λ (o : Option Info). elim o as (λ _. List Edge) [ None ↦ [] | Some e ↦ e.users ])
    (ap (option_map info) found)

-- what is in the slot is of the instance
pub its_slot : (t : Table) (s : ℕ) (i : Instance ℕ) (x : Instance ℕ × Entry) → Some x ≡ at t.entries.entries (get t.places) s
    → same_instance x.0 i ≡ true → HasSlot t i s
its_slot t s i x found same =
    let (e, looked, there, value) = entry_in t s (info x) (ap (option_map info) (sym found)) in
    record {
      entry = e;
      found = subst (λ j. lookup (same_instance j) t.entries.entries ≡ Some e) (same_true x.0 i same) looked;
      there = there;
    }

-- the slot of the entry that is looked up
pub slot_is : (t : Table) (i : Instance ℕ) (s : ℕ) → HasSlot t i s
    → Some s ≡ option_map (λ (e : Entry). e.slot) (lookup (same_instance i) t.entries.entries)
slot_is t i s has = sym (ap (option_map (λ (e : Entry). e.slot)) has.found ∙ ap Some has.there)

-- and the other way round
pub has_slot : (t : Table) (i : Instance ℕ) (s : ℕ)
    → Some s ≡ option_map (λ (e : Entry). e.slot) (lookup (same_instance i) t.entries.entries) → HasSlot t i s
has_slot t i s is = by (lookup (same_instance i) t.entries.entries) refl is
  where
    by : (o : Option Entry) → lookup (same_instance i) t.entries.entries ≡ o → Some s ≡ option_map (λ (e : Entry). e.slot) o
        → HasSlot t i s
    by None looked is = absurd (none-some s (sym is))
    by (Some e) looked is = record { entry = e; found = looked; there = sym (same_Some s e.slot is) }

pub no_slot : (t : Table) (i : Instance ℕ)
    → None ≡ option_map (λ (e : Entry). e.slot) (lookup (same_instance i) t.entries.entries)
    → lookup (same_instance i) t.entries.entries ≡ None
no_slot t i is = by (lookup (same_instance i) t.entries.entries) refl is
  where
    by : (o : Option Entry) → lookup (same_instance i) t.entries.entries ≡ o → None ≡ option_map (λ (e : Entry). e.slot) o
        → lookup (same_instance i) t.entries.entries ≡ None
    by None looked is = looked
    by (Some e) looked is = absurd (none-some e.slot is)

pub has_slots : (t : Table) (i : Instance ℕ) (o : Option ℕ)
    → o ≡ option_map (λ (e : Entry). e.slot) (lookup (same_instance i) t.entries.entries) → IfSome o (HasSlot t i)
has_slots t i (Some s) is = has_slot t i s is
has_slots t i None is = tt

-- whether it is kept is told by its slot
pub held_at : (t : Table) (i : Instance ℕ) (standings : List Standing) (s : ℕ) (r : Standing)
    → Some s ≡ option_map (λ (e : Entry). e.slot) (lookup (same_instance i) t.entries.entries)
    → r ≡ standing_of standings s
    → r.holds ≡ is_some (held_of standings (lookup (same_instance i) t.entries.entries))
held_at t i standings s r is stands =
    let has = has_slot t i s is in
    rw has.found (ap (λ (z : Standing). z.holds) stands ∙ ap (λ n. (standing_of standings n).holds) (sym has.there)
    ∙ shown (standing_of standings has.entry.slot).holds has.entry)
  where
    shown : (b : Bool) (e : Entry) → b ≡ is_some (if b then Some e else None)
    shown true e = refl
    shown false e = refl

pub none_held : (t : Table) (i : Instance ℕ) (standings : List Standing)
    → None ≡ option_map (λ (e : Entry). e.slot) (lookup (same_instance i) t.entries.entries)
    → false ≡ is_some (held_of standings (lookup (same_instance i) t.entries.entries))
none_held t i standings is = rw (no_slot t i is) refl
