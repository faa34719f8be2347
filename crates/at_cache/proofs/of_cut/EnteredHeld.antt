-- An entry that is kept from now on, by what its steps have said.
use Rattle.at_cache.proofs.Common.{◌≡◌, ℕ, List, Bool, true, false, Option, None, Some, IsSome, is_some, option_map, nat_eq, Contains, refl, sym, ap, ◌∙◌, subst, true≢false, list_any, lookup, option_and_then, none-some, same_Some, Instance, Location, Value, same_instance, instances_equiv, value_view, Edge, Entry, Standing, Table, Info, Memory, info, memory_of, AreKept, AreTaken, Uses, fresh_entry, IsAwaited, IsSlotFor, PutsIn, held, instances_in, kept_held, shown, standing_of, AreTheirs, HasSlot}
use Rattle.at_cache.proofs.of_cut.Again.{held_off}
use Rattle.at_cache.proofs.of_cut.Goes.{instance_among}
use Rattle.at_cache.proofs.of_cut.HeldSlots.{kept_none, off_slot, slot_of, not_kept}
use Rattle.at_cache.proofs.of_cut.Renewed.{among_is}
use Rattle.at_cache.proofs.Shown.{held_by}

-- what is in the slot of an instance is its entry
pub its_entry : (t : Table) (i : Instance ℕ) (x : Entry) → lookup (same_instance i) t.entries.entries ≡ Some x
    → (e : Info) → memory_of t x.slot ≡ Some e → e.instance ≡ i
its_entry t i x found e there =
    let (f, had, is) = slot_of t i x found in
    ap (λ (n : Info). n.instance) (same_Some e f (sym there ∙ had)) ∙ is

pub its_slot_is : (t : Table) (i : Instance ℕ) (slot : ℕ) → HasSlot t i slot
    → (e : Info) → memory_of t slot ≡ Some e → e.instance ≡ i
its_slot_is t i slot has = subst (λ s. (e : Info) → memory_of t s ≡ Some e → e.instance ≡ i) has.there
    (its_entry t i has.entry has.found)

pub is_slot : (t : Table) (i : Instance ℕ) (slot : ℕ) → HasSlot t i slot → IsSlotFor t i slot
is_slot t i slot has = rw (IsSlotFor, has.found) (sym has.there)

pub is_next : (t : Table) (i : Instance ℕ) (slot : ℕ) → lookup (same_instance i) t.entries.entries ≡ None
    → slot ≡ t.places.vacant_key → IsSlotFor t i slot
is_next t i slot none is = rw (IsSlotFor, none) is

-- the slot of an instance is so also with edges to those that used others
module _ (t mid : Table) {live : Memory} {x : Edge} {links : List ℕ} (i : Instance ℕ) (slot : ℕ)
    (u : Uses live x links (memory_of t) (memory_of mid)) (key : mid.places.vacant_key ≡ t.places.vacant_key) where
  abbrev Stands : Table → Option Entry → Type 0
  Stands t o = elim o as (λ _. Type 0) [ None ↦ slot ≡ t.places.vacant_key | Some e ↦ slot ≡ e.slot ]

  was_there : (y : Entry) → lookup (same_instance i) mid.entries.entries ≡ Some y
      → (z : Entry) × (lookup (same_instance i) t.entries.entries ≡ Some z) × (z.slot ≡ y.slot)
  was_there y now = by (memory_of t y.slot) refl
    where
      by : (o : Option Info) → memory_of t y.slot ≡ o
          → (z : Entry) × (lookup (same_instance i) t.entries.entries ≡ Some z) × (z.slot ≡ y.slot)
      by None none =
          let (f, at_y, its) = slot_of mid i y now in
          absurd (none-some f (sym (u.free y.slot none) ∙ at_y))
      by (Some g) had =
          let (f, at_y, its) = slot_of mid i y now in
          let (n, is_there, alike) = u.there y.slot g had in
          let same : f ≡ n = same_Some f n (sym at_y ∙ is_there) in
          let (z, j, found, of_slot, is) = held_by t i y.slot g had
          (ap (same_instance i) (ap (λ (n : Info). n.instance) (sym alike)
          ∙ ap (λ (n : Info). n.instance) (sym same) ∙ its) ∙ instances_equiv.refl i) in
          (z, found, of_slot)

  stays_there : (z : Entry) → lookup (same_instance i) t.entries.entries ≡ Some z
      → lookup (same_instance i) mid.entries.entries ≡ None → ⊥
  stays_there z was none =
      let (g, had, its) = slot_of t i z was in
      let (f, now, alike) = u.there z.slot g had in
      let (y, j, found, of_slot, is) = held_by mid i z.slot f now
      (ap (same_instance i) (ap (λ (n : Info). n.instance) alike ∙ its) ∙ instances_equiv.refl i) in
      none-some y (sym none ∙ found)

  pub slot_still : IsSlotFor t i slot → IsSlotFor mid i slot
  slot_still stands = by (lookup (same_instance i) t.entries.entries) refl stands
      (lookup (same_instance i) mid.entries.entries) refl
    where
      by : (a : Option Entry) → lookup (same_instance i) t.entries.entries ≡ a → Stands t a
          → (b : Option Entry) → lookup (same_instance i) mid.entries.entries ≡ b → Stands mid b
      by None was is None now = is ∙ sym key
      by None was is (Some y) now =
          let (z, found, of_slot) = was_there y now in
          absurd (none-some z (sym was ∙ found))
      by (Some z) was is None now = absurd (stays_there z was now)
      by (Some z) was is (Some y) now =
          let (w, found, of_slot) = was_there y now in
          is ∙ ap (λ (v : Entry). v.slot) (same_Some z w (sym was ∙ found)) ∙ of_slot

-- nor is what is in the slot kept
pub not_held : (lists : Location ℕ → List Edge) (t : Table) (st : List Standing) (puts : ℕ) (i : Instance ℕ) (slot : ℕ) → IsAwaited lists t st puts i slot
    → (m : Memory) (ts : List Standing) → ((k : ℕ) → standing_of ts k ≡ standing_of st k) → {live : Memory} {x : Edge} {links : List ℕ} → Uses live x links (memory_of t) m
    → held ts m slot ≡ None
not_held lists t st puts i slot a m ts same u = by (memory_of t slot) refl
  where
    by : (o : Option Info) → memory_of t slot ≡ o → held ts m slot ≡ None
    by None none = ap (option_and_then (shown (standing_of ts slot))) (u.free slot none)
    by (Some e) there = held_off ts m slot (ap (λ (s : Standing). s.holds) (same slot)
        ∙ not_kept lists t st puts slot e there (ap (kept_held lists t st puts) (a.its e there) ∙ a.absent))

-- an entry that is to come, by what it has
module _ (i : Instance ℕ) (e : Entry) (value : Option (Value ℕ)) (links : List ℕ) (stamp : ℕ)
    (is : info (i, e) ≡ fresh_entry i value links stamp) where
  pub made_so : info (i, e) ≡ fresh_entry i (option_map value_view e.value) e.links.items e.stamp
  made_so =
      let same : fresh_entry i value links stamp ≡ fresh_entry i (option_map value_view e.value) e.links.items e.stamp
      = λ n. fresh_entry i (ap (λ (x : Info). x.value) (sym is) n) (ap (λ (x : Info). x.links) (sym is) n)
      (ap (λ (x : Info). x.stamp) (sym is) n) in
      is ∙ same

  pub puts_so : (slot : ℕ) (one_st two_st : List Standing) (mid new : Memory) → e.slot ≡ slot
      → PutsIn e.slot i (option_map value_view e.value) e.links.items e.stamp one_st mid two_st new
      → PutsIn slot i value links stamp one_st mid two_st new
  puts_so slot one_st two_st mid new at_slot p =
      subst (λ s. PutsIn s i value links stamp one_st mid two_st new) at_slot
      (subst (λ v. PutsIn e.slot i v links stamp one_st mid two_st new) (ap (λ (x : Info). x.value) is)
      (subst (λ ls. PutsIn e.slot i (option_map value_view e.value) ls stamp one_st mid two_st new)
      (ap (λ (x : Info). x.links) is)
      (subst (λ n. PutsIn e.slot i (option_map value_view e.value) e.links.items n one_st mid two_st new)
      (ap (λ (x : Info). x.stamp) is) p)))

-- what is kept of instances is so in their slots
module _ (lists : Location ℕ → List Edge) (t : Table) (st : List Standing) (puts : ℕ)
    (uses : List (Instance ℕ)) (links : List ℕ)
    (present : AreKept (kept_held lists t st puts) uses) (taken : AreTaken (memory_of t) links)
    (theirs : AreTheirs t uses links) where
  pub they_are : instances_in (memory_of t) links ≡ uses
  they_are = theirs (λ u c. there u (present u c) (lookup (same_instance u) t.entries.entries) refl)
    where
      there : (u : Instance ℕ) → IsSome (kept_held lists t st puts u) → (o : Option Entry)
          → lookup (same_instance u) t.entries.entries ≡ o → IsSome (lookup (same_instance u) t.entries.entries)
      there u some None none = absurd (true≢false (sym some ∙ ap is_some (kept_none lists t st puts u none)))
      there u some (Some e) found = ap is_some found

  pub they_hold : (p : ℕ) → list_any (nat_eq p) links ≡ true → (f : Info) × (memory_of t p ≡ Some f)
      × ((standing_of st p).holds ≡ true)
  they_hold p h = by (memory_of t p) refl (taken p (among_is links p h))
    where
      on : (f : Info) → memory_of t p ≡ Some f → (b : Bool) → (standing_of st p).holds ≡ b
          → (standing_of st p).holds ≡ true
      on f there true is = is
      on f there false is = absurd (true≢false (sym (present f.instance (subst (λ us. Contains us f.instance) they_are
          (instance_among lists t links p f there h))) ∙ ap is_some (off_slot lists t st puts p f there is)))

      by : (o : Option Info) → memory_of t p ≡ o → IsSome (memory_of t p) → (f : Info) × (memory_of t p ≡ Some f)
          × ((standing_of st p).holds ≡ true)
      by None none some = absurd (true≢false (sym some ∙ ap is_some none))
      by (Some f) there some = (f, there, on f there (standing_of st p).holds refl)
