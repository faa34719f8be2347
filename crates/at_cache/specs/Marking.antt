-- What an edit takes away, by marks of what goes.
use Rattle.std.specs.Prelude.{◌≡◌, ◌⊎◌, ℕ, List, [], ◌++◌, length, Bool, true, false, Option, None, Some, option_map, Contains}
use Rattle.at_model.specs.Run.{Location}
use Rattle.at_cache.specs.declared.cut.Cut.{Cut}
use Rattle.at_cache.specs.declared.cut.Loss.{Loss}
use Rattle.at_cache.specs.declared.cut.Loss.TheVariants as loss
use Rattle.at_index.specs.declared.edge.Edge.{Edge}
use Rattle.at_cache.specs.declared.mark.Mark.{Mark}
use Rattle.at_cache.specs.declared.standing.Standing.{Standing}
use Rattle.at_index.specs.Asking.{Asked}
use Rattle.at_cache.specs.Info.{Info, Memory, is_going, memory_of, next_of, table_len}
use Rattle.at_cache.specs.Flushing.{Begins, Work}
use Rattle.at_cache.specs.Standings.{held, held_among, standing_of, untraced}

-- an entry but for its mark
abbrev pub unmarked : Info → Info
unmarked e = record e { going = false; next = None }

abbrev pub held_count : Cut → ℕ
held_count c = held_among c.standings.items

abbrev pub held_in : Cut → Memory
held_in c k = held c.standings.items (memory_of c.entries) k

-- How many entries there are, and what is in the slots beside what can be marked; how entries stand but for traces, how many can stand
-- so, and how many are kept.
pub record Aside : Type 0 where
  pub len : ℕ
  pub entries : ℕ → Option Info
  pub standings : ℕ → Standing
  pub room : ℕ
  pub count : ℕ

-- the entries that are kept but for their marks, and the others as they are
abbrev pub beside : List Standing → Memory → Memory
beside standings m k = elim (held standings m k) [ None ↦ m k | Some e ↦ option_map unmarked (m k) ]

abbrev pub aside_cut : Cut → Aside
aside_cut c = record {
  len = table_len c.entries;
  entries = beside c.standings.items (memory_of c.entries);
  standings = λ k. untraced (standing_of c.standings.items k);
  room = length c.standings.items;
  count = held_count c;
}

-- what isn't kept isn't going
abbrev pub IsQuiet : List Standing → Memory → Type 0
IsQuiet standings m = (k : ℕ) (e : Info) → m k ≡ Some e → held standings m k ≡ None → e.going ≡ false

-- the numbers of the entries
abbrev pub stamps_of : Memory → ℕ → Option ℕ
stamps_of m k = option_map (λ (e : Info). e.stamp) (m k)

-- Over entries with these numbers, none is traced any more that one of the edges tells of; each other one is as it was.
pub record Untraces (edges : List Edge) (stamps : ℕ → Option ℕ) (old new : List Standing) : Type 0 where
  pub fewer : (k : ℕ) → (standing_of new k).traced ≡ true → (standing_of old k).traced ≡ true
  pub lost : (x : Edge) → Contains edges x → stamps x.slot ≡ Some x.stamp → (standing_of new x.slot).traced ≡ false
  pub spared : (k : ℕ) → (standing_of old k).traced ≡ true
      → ((standing_of new k).traced ≡ true) ⊎ ((x : Edge) × Contains edges x × (x.slot ≡ k) × (stamps x.slot ≡ Some x.stamp))

-- by which of these edges a trace is lost, and by which a value
abbrev pub of_trace : Loss → List Edge → List Edge
of_trace loss.Trace xs = xs
of_trace loss.Value xs = []
of_trace loss.Both xs = xs

abbrev pub of_value : Loss → List Edge → List Edge
of_value loss.Trace xs = []
of_value loss.Value xs = xs
of_value loss.Both xs = xs

-- These edges were gone over: what they tell of lost its trace, and goes where it is kept, and all else is as it was.
pub record GoesOver (l : Loss) (edges : List Edge) (first : Option ℕ) (old : Cut) (later : Option ℕ) (new : Cut) : Type 0 where
  pub works : (m : Memory) (start left : List Edge) → Work m start (of_value l edges ++ left) first (held_in old)
      → Work m start left later (held_in new)
  pub traces : Untraces (of_trace l edges) (stamps_of (memory_of old.entries)) old.standings.items new.standings.items
  pub aside : aside_cut new ≡ aside_cut old

-- A flush goes on: entries are the same but for their marks, and traced as they were.
pub record Passes (old new : Cut) : Type 0 where
  pub entries : (k : ℕ) → option_map unmarked (memory_of new.entries k) ≡ option_map unmarked (memory_of old.entries k)
  pub traces : Untraces [] (stamps_of (memory_of old.entries)) old.standings.items new.standings.items
  pub quiet : IsQuiet old.standings.items (memory_of old.entries) → IsQuiet new.standings.items (memory_of new.entries)

-- the entry is there, with the mark
abbrev pub HasMark : Option Info → Mark → Type 0
HasMark o mark = (e : Info) × (o ≡ Some e) × (e.going ≡ is_going mark) × (e.next ≡ next_of mark)

-- What an edit takes away, where no flush is under way: from what reads a location with the answer `true` its trace, and what is kept from that
-- and from all that used it. The entries are the same.
pub record TakesAway (says : Location ℕ → Bool → Type 0) (lists : Location ℕ → List Edge)
    (standings : List Standing) (m : Memory) (later : List Standing) (n : Memory) : Type 0 where
  pub start : List Edge
  pub begins : Begins says lists start
  pub works : Work (held standings m) start [] None (held later n)
  pub traces : Untraces start (stamps_of m) standings later
  pub entries : (k : ℕ) → n k ≡ m k

-- All edges of what reads a location that is seen and touched were gone over.
abbrev pub GoesOn : (says : Location ℕ → Bool → Type 0) (seen : Location ℕ → Bool) (lists : Location ℕ → List Edge)
    → (first : Option ℕ) (old : Cut) (later : Option ℕ) (new : Cut) → Type 0
GoesOn says seen lists first old later new = (edges : List Edge) × GoesOver loss.Both edges first old later new × Asked says seen lists edges
