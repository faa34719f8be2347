-- What is kept of instances, by the slots of their entries.
use Rattle.at_cache.proofs.Common.{◌≡◌, [], ◌+◌, ◌++◌, ◌∷◌, ℕ, List, Bool, true, false, ◌||◌, Option, Some, None, IsSome, is_some, option_map, nat_eq, if◌then◌else◌, refl, sym, ap, ◌∙◌, subst, true≢false, list_any, lookup, none-some, same_Some, get, Instance, Location, Value, same_instance, instances_equiv, value_view, Edge, Entry, Standing, Table, Info, Memory, info, memory_of, Kept, PutsBy, covered_by, covers_at, value_at, IsIndexed, covers, edge_to, is_listed, IsTied, held, held_of, instances_in, kept_held, standing_of, head_of, or_right, same_true}
use Rattle.at_cache.proofs.of_cut.Again.{again, covers_it, covers_still, held_as, held_on, is_among}
use Rattle.at_cache.proofs.Moving.{at_none, at_some, table_by}
use Rattle.at_cache.proofs.Shown.{entry_at, first_at, slot_taken}

-- the entry of a slot is that of its instance
pub entry_in : (t : Table) (s : ℕ) (e : Info) → memory_of t s ≡ Some e
    → (x : Entry) × (lookup (same_instance e.instance) t.entries.entries ≡ Some x) × (x.slot ≡ s)
    × (option_map value_view x.value ≡ e.value)
entry_in t s e there = by (get t.places s) refl
  where
    by : (o : Option ℕ) → get t.places s ≡ o
        → (x : Entry) × (lookup (same_instance e.instance) t.entries.entries ≡ Some x) × (x.slot ≡ s)
        × (option_map value_view x.value ≡ e.value)
    by None none = absurd (none-some e (sym (ap (option_map info) (at_none t.entries.entries (get t.places) s none))
        ∙ there))
    by (Some p) is =
        let (x, at_p, of_slot) = (table_by t.placed).from s p is in
        let it : info x ≡ e = same_Some (info x) e (sym (ap (option_map info)
        (at_some t.entries.entries (get t.places) s p is ∙ at_p)) ∙ there) in
        let passes : same_instance e.instance x.0 ≡ true = ap (λ (y : Info). same_instance y.instance x.0) (sym it)
        ∙ instances_equiv.refl x.0 in (
          x.1,
          first_at (same_instance e.instance) t.entries.entries p x at_p passes
              (λ q f at_q its. t.placed.apart q p f x at_q at_p
              (sym (instances_equiv.congr e.instance f.0 x.0 its) ∙ passes)),
          of_slot,
          ap (λ (y : Info). y.value) it,
        )

-- and that of an instance is in its slot
pub slot_of : (t : Table) (i : Instance ℕ) (x : Entry) → lookup (same_instance i) t.entries.entries ≡ Some x
    → (e : Info) × (memory_of t x.slot ≡ Some e) × (e.instance ≡ i)
slot_of t i x found = let (p, j, there, same) = entry_at (same_instance i) t.entries.entries x found in
    (info (j, x), slot_taken t p (j, x) there, sym (same_true i j same))

module _ (lists : Location ℕ → List Edge) (t : Table) (st : List Standing) (puts : ℕ) where
  -- what the entry in the slot is kept as
  abbrev pub as_kept : Option (Value ℕ) → ℕ → Kept
  as_kept v s = record { value = v; covers = covers lists (held st (memory_of t)) puts s }

  pub kept_none : (i : Instance ℕ) → lookup (same_instance i) t.entries.entries ≡ None
      → kept_held lists t st puts i ≡ None
  kept_none i none = ap (λ (o : Option Entry). option_map (λ (e : Entry). as_kept (option_map value_view e.value)
      e.slot) (held_of st o)) none

  pub kept_by : (i : Instance ℕ) (x : Entry) → lookup (same_instance i) t.entries.entries ≡ Some x → (b : Bool)
      → (standing_of st x.slot).holds ≡ b
      → kept_held lists t st puts i ≡ (if b then Some (as_kept (option_map value_view x.value) x.slot) else None)
  kept_by i x found b is =
      ap (λ (o : Option Entry). option_map (λ (e : Entry). as_kept (option_map value_view e.value) e.slot)
      (held_of st o)) found
      ∙ ap (λ b. option_map (λ (e : Entry). as_kept (option_map value_view e.value) e.slot)
      (if b then Some x else None)) is
      ∙ by b
    where
      by : (b : Bool) → option_map (λ (e : Entry). as_kept (option_map value_view e.value) e.slot)
          (if b then Some x else None)
          ≡ (if b then Some (as_kept (option_map value_view x.value) x.slot) else None)
      by true = refl
      by false = refl

  -- of the entry in the slot
  pub kept_slot : (s : ℕ) (e : Info) → memory_of t s ≡ Some e → (standing_of st s).holds ≡ true
      → kept_held lists t st puts e.instance ≡ Some (as_kept e.value s)
  kept_slot s e there on =
      let (x, found, at_s, valued) = entry_in t s e there in
      kept_by e.instance x found true (ap (λ k. (standing_of st k).holds) at_s ∙ on)
      ∙ λ k. Some (as_kept (valued k) (at_s k))

  pub off_slot : (s : ℕ) (e : Info) → memory_of t s ≡ Some e → (standing_of st s).holds ≡ false
      → kept_held lists t st puts e.instance ≡ None
  off_slot s e there off =
      let (x, found, at_s, valued) = entry_in t s e there in
      kept_by e.instance x found false (ap (λ k. (standing_of st k).holds) at_s ∙ off)

  -- an entry of an instance of which nothing is kept isn't
  pub not_kept : (s : ℕ) (e : Info) → memory_of t s ≡ Some e → kept_held lists t st puts e.instance ≡ None
      → (standing_of st s).holds ≡ false
  not_kept s e there none = by (standing_of st s).holds refl
    where
      by : (b : Bool) → (standing_of st s).holds ≡ b → (standing_of st s).holds ≡ false
      by false is = is
      by true is = absurd (none-some _ (sym none ∙ kept_slot s e there is))

  -- what is kept of an instance holds in its slot
  pub holds_slot : (s : ℕ) (e : Info) → memory_of t s ≡ Some e
      → IsSome (value_at (kept_held lists t st puts e.instance)) → (standing_of st s).holds ≡ true
  holds_slot s e there some = by (standing_of st s).holds refl
    where
      by : (b : Bool) → (standing_of st s).holds ≡ b → (standing_of st s).holds ≡ true
      by true is = is
      by false is = absurd (true≢false (sym some ∙ ap (λ o. is_some (value_at o)) (off_slot s e there is)))

  -- what the entries of slots stand for is what those of their instances stand for
  pub covers_slots : (ps : List ℕ) → ((p : ℕ) → list_any (nat_eq p) ps ≡ true → (e : Info) × (memory_of t p ≡ Some e)
      × ((standing_of st p).holds ≡ true))
      → (l : Location ℕ) → list_any (λ u. covers_at (kept_held lists t st puts u) l) (instances_in (memory_of t) ps)
      ≡ list_any (λ p. covers lists (held st (memory_of t)) puts p l) ps
  covers_slots [] on l = refl
  covers_slots (p ∷ ps) on l =
      let (e, there, holds) = on p (on_head p ps) in
      ap (λ (o : Option Info). list_any (λ u. covers_at (kept_held lists t st puts u) l)
      ((elim o as (λ _. List (Instance ℕ)) [ None ↦ [] | Some e ↦ e.instance ∷ [] ]) ++ instances_in (memory_of t) ps))
      there
      ∙ ap (λ b. b || list_any (λ u. covers_at (kept_held lists t st puts u) l) (instances_in (memory_of t) ps))
      (ap (λ o. covers_at o l) (kept_slot p e there holds))
      ∙ ap (λ b. covers lists (held st (memory_of t)) puts p l || b)
      (covers_slots ps (λ q h. on q (on_tail p ps q h)) l)
    where
      on_head : (p : ℕ) (ps : List ℕ) → list_any (nat_eq p) (p ∷ ps) ≡ true
      on_head p ps = is_among (p ∷ ps) p (head_of p ps)

      on_tail : (p : ℕ) (ps : List ℕ) (q : ℕ) → list_any (nat_eq q) ps ≡ true → list_any (nat_eq q) (p ∷ ps) ≡ true
      on_tail p ps q h = or_right (nat_eq q p) (list_any (nat_eq q) ps) h

module _ (lists : Location ℕ → List Edge) (t : Table) (old new : List Standing) (puts s : ℕ) (e : Info)
    (there : memory_of t s ≡ Some e)
    (off : (standing_of old s).holds ≡ false) (traced : (standing_of old s).traced ≡ true) (here : standing_of new s ≡ again puts)
    (others : (k : ℕ) → (k ≡ s → ⊥) → standing_of new k ≡ standing_of old k)
    (indexed : IsIndexed lists puts (held old (memory_of t))) (tied : IsTied lists puts old (memory_of t))
    (links : (p : ℕ) → list_any (nat_eq p) e.links ≡ true → (f : Info) × (memory_of t p ≡ Some f)
    × ((standing_of old p).holds ≡ true)) where
  on : (p : ℕ) → list_any (nat_eq p) e.links ≡ true → (standing_of old p).holds ≡ true
  on p h = let (f, in_p, holds) = links p h in holds

  abbrev m : Memory
  m = memory_of t

  abbrev entry : Kept
  entry = as_kept lists t new (puts + 1) e.value s

  -- what the instance is kept as, and each other one
  adds : (j : Instance ℕ) → kept_held lists t new (puts + 1) j ≡
      (if same_instance e.instance j then Some entry else kept_held lists t old puts j)
  adds j = by (same_instance e.instance j) refl
    where
      differs : (x : Entry) → same_instance e.instance j ≡ false → lookup (same_instance j) t.entries.entries ≡ Some x
          → x.slot ≡ s → ⊥
      differs x apart found same =
          let (g, at_x, it) = slot_of t j x found in
          let is : g ≡ e = same_Some g e (sym at_x ∙ ap m same ∙ there) in
          true≢false (sym (instances_equiv.refl e.instance) ∙ ap (same_instance e.instance)
          (ap (λ (y : Info). y.instance) (sym is) ∙ it) ∙ apart)

      other : (x : Entry) → same_instance e.instance j ≡ false → lookup (same_instance j) t.entries.entries ≡ Some x
          → (b : Bool) → (standing_of old x.slot).holds ≡ b
          → kept_held lists t new (puts + 1) j ≡ kept_held lists t old puts j
      other x apart found true is =
          let (g, at_x, it) = slot_of t j x found in
          kept_by lists t new (puts + 1) j x found true (ap (λ (y : Standing). y.holds)
          (others x.slot (differs x apart found)) ∙ is)
          ∙ (λ k. let kept : Kept = record {
            value = option_map value_view x.value;
            covers = λ l. covers_still lists m old new puts s e there off traced here others indexed tied on x.slot
                (held_as old x.slot g) (held_on old m x.slot g at_x is) l k;
          } in Some kept)
          ∙ sym (kept_by lists t old puts j x found true is)
      other x apart found false is =
          kept_by lists t new (puts + 1) j x found false (ap (λ (y : Standing). y.holds)
          (others x.slot (differs x apart found)) ∙ is)
          ∙ sym (kept_by lists t old puts j x found false is)

      among : same_instance e.instance j ≡ false → (o : Option Entry) → lookup (same_instance j) t.entries.entries ≡ o
          → kept_held lists t new (puts + 1) j ≡ kept_held lists t old puts j
      among apart None none = kept_none lists t new (puts + 1) j none ∙ sym (kept_none lists t old puts j none)
      among apart (Some x) found = other x apart found (standing_of old x.slot).holds refl

      by : (b : Bool) → same_instance e.instance j ≡ b → kept_held lists t new (puts + 1) j ≡
          (if b then Some entry else kept_held lists t old puts j)
      by true is =
          subst (λ i. kept_held lists t new (puts + 1) i ≡ Some entry) (same_true e.instance j is)
          (kept_slot lists t new (puts + 1) s e there (ap (λ (y : Standing). y.holds) here))
      by false is = among is (lookup (same_instance j) t.entries.entries) refl

  covers_all : (l : Location ℕ) → entry.covers l
      ≡ covered_by (kept_held lists t old puts) (λ l. is_listed (edge_to s e) (lists l)) (instances_in m e.links) l
  covers_all l =
      covers_it lists m old new puts s e there off traced here others indexed tied on l
      ∙ ap (λ b. is_listed (edge_to s e) (lists l) || b) (sym (covers_slots lists t old puts e.links links l))

  pub puts_again : PutsBy (kept_held lists t old puts) e.instance e.value (λ l. is_listed (edge_to s e) (lists l))
      (instances_in m e.links)
      (kept_held lists t new (puts + 1))
  puts_again = record {
    entry = entry;
    value = refl;
    covers = λ l h. covers_all l ∙ h;
    only = λ l h. sym (covers_all l) ∙ h;
    adds = adds;
  }
