-- Entries that came to be kept again, one behind the other.
use Rattle.at_cache.proofs.Common.{◌≡◌, ◌<◌, ◌-◌, ◌+◌, ◌^◌, ◌++◌, ◌∷◌, ℕ, zero, suc, List, Bool, true, false, Option, Some, None, IsSome, is_some, min, if◌then◌else◌, refl, sym, ap, ◌∙◌, arith, true≢false, none-some, Instance, Location, Value, same_instance, Entries, Kept, PutsBy, value_at, AreAllKept, IsNext, Memories, Settled, Trace, below, itself, nothing, one_more, Settles, same_true}

-- what is kept is kept on
abbrev pub KeepsOn : (old new : Entries) → Type 0
KeepsOn old new = (i : Instance ℕ) (k : Kept) → old i ≡ Some k → new i ≡ Some k

pub all_kept_on : (old new : Entries) → KeepsOn old new → (us : List (Instance ℕ)) → AreAllKept old us
    → AreAllKept new us
all_kept_on old new on us all u c = by (old u) refl
  where
    by : (o : Option Kept) → old u ≡ o → IsSome (value_at (new u))
    by None is = absurd (true≢false (sym (all u c) ∙ ap (λ o. is_some (value_at o)) is))
    by (Some k) is = ap (λ o. is_some (value_at o)) (on u k is ∙ sym is) ∙ all u c

pub next_on : (m : Memories) (old new : Entries) (q i : Instance ℕ) → KeepsOn old new → IsNext m old q i
    → IsNext m new q i
next_on m old new q _ on itself = itself
next_on m old new q _ on (below j u t front back comes traced is all) =
    below j u t front back (next_on m old new q j on comes) traced is (all_kept_on old new on front all)

-- an instance that is put had no entry
pub puts_on : (old new : Entries) (i : Instance ℕ) (v : Option (Value ℕ)) (reads : Location ℕ → Bool)
    (uses : List (Instance ℕ))
    → old i ≡ None → PutsBy old i v reads uses new → KeepsOn old new
puts_on old new i v reads uses none puts j k there = puts.adds j ∙ by (same_instance i j) refl
  where
    by : (b : Bool) → same_instance i j ≡ b → (if b then Some puts.entry else old j) ≡ Some k
    by true is = absurd (none-some k (sym none ∙ ap old (same_true i j is) ∙ there))
    by false is = there

pub settled_on : (m : Memories) (q : Instance ℕ) (n : ℕ) (old new : Entries) → Settled m q n old new → KeepsOn old new
settled_on m q _ _ _ (nothing entries) i k there = there
settled_on m q _ _ _ (one_more n old mid new j t rest comes traced none all puts) i k there =
    puts_on mid new j (Some t.value) t.reads t.uses none puts i k (settled_on m q n old mid rest i k there)

-- nothing was settled
pub settles_nothing : (m : Memories) (q : Instance ℕ) (entries : Entries) (work : ℕ) → work < 2 ^ 64
    → (n : ℕ) × Settled m q n entries entries × (work ≡ min (work + n) (2 ^ 64 - 1))
settles_nothing m q entries work fits = (zero, nothing entries, omega (arith, fits))

-- two behind each other
settled_behind : (m : Memories) (q : Instance ℕ) (n k : ℕ) (old mid new : Entries) → Settled m q n old mid
    → Settled m q k mid new
    → (s : ℕ) × Settled m q s old new × (s ≡ n + k)
settled_behind m q n _ old mid _ first (nothing entries) = (n, first, omega arith)
settled_behind m q n _ old mid _ first (one_more k from to new j t rest comes traced none all puts) =
    let (s, before, sum) = settled_behind m q n k old from to first rest in
    (suc s, one_more s old to new j t before comes traced none all puts, omega (arith, sum))

module _ (m : Memories) (i : Instance ℕ) where
  -- nothing is settled
  pub settles_none : (entries : Entries) (work : ℕ) → work < 2 ^ 64 → Settles m i entries entries work work
  settles_none entries work fits q comes = settles_nothing m q entries work fits

  pub settles_on : (old new : Entries) (work done : ℕ) → Settles m i old new work done → KeepsOn old new
  settles_on old new work done settles = let (n, settled, grows) = settles i itself in settled_on m i n old new settled

  -- of i one use behind those that are kept is settled, too
  pub settles_below : (u : Instance ℕ) (t : Trace) (front back : List (Instance ℕ)) (old mid new : Entries)
      (work half done : ℕ) → m.traced i ≡ Some t
      → t.uses ≡ front ++ u ∷ back → AreAllKept mid front → Settles m i old mid work half
      → Settles m u mid new half done → Settles m i old new work done
  settles_below u t front back old mid new work half done traced is all first second q comes =
      let (n, before, grows) = first q comes in
      let (k, after, more) = second q (below i u t front back
      (next_on m old mid q i (settled_on m q n old mid before) comes) traced is all) in
      let (s, both, sum) = settled_behind m q n k old mid new before after in
      (s, both, omega (arith, grows, more, sum))

  -- of i all uses are kept, and it comes itself
  pub settles_itself : (t : Trace) (old mid new : Entries) (work half done : ℕ) → m.traced i ≡ Some t → mid i ≡ None
      → AreAllKept mid t.uses
      → PutsBy mid i (Some t.value) t.reads t.uses new → done ≡ min (half + 1) (2 ^ 64 - 1)
      → Settles m i old mid work half → Settles m i old new work done
  settles_itself t old mid new work half done traced none all puts more first q comes =
      let (n, before, grows) = first q comes in (
        suc n,
        one_more n old mid new i t before (next_on m old mid q i (settled_on m q n old mid before) comes)
            traced none all puts,
        omega (arith, grows, more),
      )

  pub settles_then : (old mid new : Entries) (work half done : ℕ) → Settles m i old mid work half
      → Settles m i mid new half done → Settles m i old new work done
  settles_then old mid new work half done first second q comes =
      let (n, before, grows) = first q comes in
      let (k, after, more) = second q (next_on m old mid q i (settled_on m q n old mid before) comes) in
      let (s, both, sum) = settled_behind m q n k old mid new before after in
      (s, both, omega (arith, grows, more, sum))
