-- What becomes of a find that is to be kept.
use Rattle.std.specs.Prelude.{◌≡◌, ◌⊎◌, ℕ, Bool, false, true, List, map, Some, IsSome, IfOk, OnErr, OnOk, Result}
use Rattle.at_model.specs.Run.{Instance, Location, Contents}
use Rattle.at_model.specs.Rules.{Rules, is_lazy}
use Rattle.at_store.specs.Located.{loc_view}
use Rattle.at_body.specs.Values.{value_view}
use Rattle.at_body.specs.declared.value.Value.{Value as ValueCode}
use Rattle.at_cache.specs.Kept.{AreKept, Entries, KeepsAll, Puts}
use Rattle.at_cache.specs.Traced.{Memories}
use Rattle.at_demand.specs.declared.evaluation.Find.{Find}
use Rattle.at_demand.specs.declared.gathering.Sources.{Sources}
use Rattle.at_demand.specs.InTurns.{PutsInTurns}
use Rattle.at_evaluate.specs.Valued.{kept_values, ArePlain, IsKept, KeepsEntries}
use Rattle.at_demand.specs.Known.{IsFound, MayAdd}
use Rattle.at_evaluate.specs.Right.{AreCovered}
use Rattle.at_demand.specs.Covering.{AreGathered, AreWhole, IsWhole}
use Rattle.at_demand.specs.Only.{AreFrom, AreLean, IsLean}
use Rattle.at_evaluate.specs.Sparing.{AreOnly, Counts}
use Rattle.at_demand.specs.Worth.{MayGain}

-- `new` has what `old` has, and may have entries without a value of instances that were found: for all that supports these and for
-- nothing else.
pub record Shares (rules : Rules) (found : List (Instance ℕ × Find)) (old new : Entries) : Type 0 where
  pub stays : KeepsEntries old new
  pub same : (i : Instance ℕ) → kept_values new i ≡ kept_values old i
  pub comes : (i : Instance ℕ) → IsSome (new i) → IsSome (old i) ⊎ IsFound found i
  pub plain : ArePlain rules old → ArePlain rules new
  pub covers : (look : Contents ℕ) → AreWhole rules look found → AreCovered rules look old → AreCovered rules look new
  pub only : (look : Contents ℕ) → AreLean rules look found → AreOnly rules look old → AreOnly rules look new

-- the sources are all that the find rests on, and nothing else
pub record HasGathered (entries : Entries) (found : List (Instance ℕ × Find)) (f : Find) (s : Sources) : Type 0 where
  pub gathered : AreGathered found f s
  pub from : AreFrom found f s
  pub kept : AreKept entries s.kept.items

-- the find's value is put for all that the find rests on, and nothing else, once what is shared has its entries
abbrev pub HasPlaced : (rules : Rules) (old : Entries) (found : List (Instance ℕ × Find)) → Instance ℕ → Find → (new : Entries)
    → Type 0
HasPlaced rules old found i f new = (mid : Entries) × Shares rules found old mid × (s : Sources) × HasGathered mid found f s
    × Puts mid i (Some (value_view f.value)) (map loc_view s.reads.items) s.kept.items new

-- where its value is said to be kept, it is
abbrev pub SaysKept : Entries → Instance ℕ → Find → (kept : Bool) → Type 0
SaysKept entries i f true = kept_values entries i ≡ Some (value_view f.value)
SaysKept entries i f false = Unit {0}

-- The value of a find is kept where its attribute is lazy, for all that supports it and for nothing else; the work counts it. Or it is found still.
pub record KeepsWhereLazy {E : Type 0} (rules : Rules) (before after : Entries) (earlier later : ℕ)
    (found : List (Instance ℕ × Find)) (i : Instance ℕ) (f : Find) (r : Result Bool E) : Type 0 where
  pub adds : MayAdd before after i (value_view f.value)
  pub covers : (look : Contents ℕ) → AreWhole rules look found → IsWhole rules look found i f → AreCovered rules look before → AreCovered rules look after
  pub gains : MayGain rules found before after i
  pub keeps : is_lazy rules i.attribute ≡ true → OnOk r (IsKept after i)
  pub only : (look : Contents ℕ) → AreLean rules look found → IsLean rules look found i f → AreOnly rules look before → AreOnly rules look after
  pub plain : ArePlain rules after
  pub counts : Counts before after earlier later
  pub says : IfOk r (SaysKept after i f)

-- what is shared gets its entries; no value is counted, and nothing is traced
pub record SharesAlone (rules : Rules) (found : List (Instance ℕ × Find)) (before after : Entries) (former latter : Memories)
    (earlier later : ℕ) : Type 0 where
  pub shares : Shares rules found before after
  pub work : later ≡ earlier
  pub traces : PutsInTurns former latter

-- so it is once the sources of a find are gathered
pub record IsGathered {E : Type 0} (rules : Rules) (before after : Entries) (former latter : Memories) (earlier later : ℕ)
    (found : List (Instance ℕ × Find)) (f : Find) (r : Result Sources E) : Type 0 where
  pub shares : Shares rules found before after
  pub work : later ≡ earlier
  pub sources : IfOk r (HasGathered after found f)
  pub traces : PutsInTurns former latter

-- the find is placed, or what is shared has its entries; the work counts it, and nothing is traced
pub record IsPlaced {E : Type 0} (rules : Rules) (before after : Entries) (former latter : Memories) (earlier later : ℕ)
    (found : List (Instance ℕ × Find)) (i : Instance ℕ) (f : Find) (r : Result Unit E) : Type 0 where
  pub placed : OnOk r (HasPlaced rules before found i f after)
  pub err : OnErr r (Shares rules found before after)
  pub counts : Counts before after earlier later
  pub traces : PutsInTurns former latter

-- the value is put, for these locations and uses, or all stays; the work counts it, and nothing is traced
pub record IsPut {E : Type 0} (before after : Entries) (former latter : Memories) (earlier later : ℕ) (i : Instance ℕ)
    (v : ValueCode) (ls : List (Location ℕ)) (us : List (Instance ℕ)) (r : Result Unit E) : Type 0 where
  pub puts : OnOk r (Puts before i (Some (value_view v)) ls us after)
  pub err : OnErr r (KeepsAll before after)
  pub counts : Counts before after earlier later
  pub traces : PutsInTurns former latter

-- the find is kept where its attribute is lazy, and nothing is traced
pub record IsKeptWhereLazy {E : Type 0} (rules : Rules) (before after : Entries) (former latter : Memories) (earlier later : ℕ)
    (found : List (Instance ℕ × Find)) (i : Instance ℕ) (f : Find) (r : Result Bool E) : Type 0 where
  pub keeps : KeepsWhereLazy rules before after earlier later found i f r
  pub traces : PutsInTurns former latter
