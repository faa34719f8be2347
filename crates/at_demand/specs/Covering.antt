-- That what a question finds rests on the locations and the instances that stand with it, and nothing else.
use Rattle.std.specs.Prelude.{◌≡◌, ◌⊎◌, ℕ, List, [], ◌∷◌, ◌++◌, map, slice_get, Some, IsSome}
use Rattle.at_model.specs.Run.{Value, Instance, Location, Contents, Run}
use Rattle.at_model.specs.Follow.{Past}
use Rattle.at_model.specs.Rules.{Rules, start_of}
use Rattle.at_model.specs.Meaning.{Among}
use Rattle.at_model.specs.of_fixpoints.Fixpoints.{HasValue}
use Rattle.at_model.specs.of_fixpoints.Resting.{Comes, Leads}
use Rattle.at_model.specs.Support.{Sees}
use Rattle.at_store.specs.declared.node.Loc.{Loc}
use Rattle.at_store.specs.Located.{loc_view}
use Rattle.at_body.specs.Rest.{reached}
use Rattle.at_body.specs.declared.trial.Step.{Step}
use Rattle.at_demand.specs.declared.evaluation.Demanded.{Demanded}
use Rattle.at_demand.specs.declared.evaluation.Find.{Find}
use Rattle.at_demand.specs.declared.evaluation.Frame.{Frame}
use Rattle.at_demand.specs.declared.evaluation.Recalled.{Recalled}
use Rattle.at_demand.specs.declared.evaluation.Recalled.TheVariants as recalled
use Rattle.at_demand.specs.declared.gathering.Sources.{Sources}
use Rattle.at_evaluate.specs.Valued.{equations, meaning}
use Rattle.at_demand.specs.UnderWay.{left_of}

-- the instance is one of the kept ones, or was found at one of the positions
abbrev pub IsDemanded : List (Instance ℕ × Find) → Demanded → Instance ℕ → Type 0
IsDemanded found d j = Among j d.kept.items ⊎ ((p : ℕ) × (f : Find) × Among p d.finds.items × (slice_get found p ≡ Some (j, f)))

-- it has the value, and is among the demanded ones
abbrev pub IsTold : Rules → Contents ℕ → List (Instance ℕ × Find) → Demanded → Instance ℕ → Value ℕ → Type 0
IsTold rules look found d j v = HasValue look (meaning rules) j v × IsDemanded found d j

-- the evaluation of i has come to where this is left, past values of what its frame demanded
abbrev pub HasPassed : Rules → Contents ℕ → List (Instance ℕ × Find) → Instance ℕ → Frame → Run ℕ (Value ℕ) → Type 0
HasPassed rules look found i f r = (js : List (Instance ℕ)) × Past look (IsTold rules look found f.demanded) (equations rules i) js f.trial.reads r

-- it has come to this step
abbrev pub HasPassedTo : Rules → Contents ℕ → List (Instance ℕ × Find) → Instance ℕ → Frame → Step → Type 0
HasPassedTo rules look found i f s = HasPassed rules look found i f (left_of (reached rules.classes s f.trial))

-- what was demanded stays so, and the instance is among it where its value was recalled
abbrev pub Takes : List (Instance ℕ × Find) → (old new : Demanded) → Instance ℕ → Recalled → Type 0
Takes found old new i (recalled.Value v) = ((j : Instance ℕ) → IsDemanded found old j → IsDemanded found new j) × IsDemanded found new i
Takes found old new i (recalled.Unknown j) = new ≡ old

-- The equations of these see no other locations than the find's reads, and come to no other instances than these and what it demanded.
pub record AreWholeIn (rules : Rules) (look : Contents ℕ) (found : List (Instance ℕ × Find)) (these : List (Instance ℕ)) (f : Find) : Type 0 where
  pub reads : (i : Instance ℕ) (l : Location ℕ) → Among i these → Sees look (HasValue look (meaning rules)) ((meaning rules).formula i) l
      → Among l (map loc_view f.reads.items)
  pub demands : (i j : Instance ℕ) → Among i these → Comes look (meaning rules) i j → Among j these ⊎ IsDemanded found f.demanded j

-- all that i rests on stands with the find, as of one of these
abbrev pub IsWholeIn : Rules → Contents ℕ → List (Instance ℕ × Find) → Instance ℕ → Find → Type 0
IsWholeIn rules look found i f = (these : List (Instance ℕ)) × Among i these × AreWholeIn rules look found these f

-- j was taken of what is kept; or of what was found, and with its find all that i rests on stands, too
abbrev pub IsFirst : Rules → Contents ℕ → List (Instance ℕ × Find) → Demanded → (i j : Instance ℕ) → Type 0
IsFirst rules look found d i j = Among j d.kept.items
    ⊎ ((p : ℕ) × (g : Find) × Among p d.finds.items × (slice_get found p ≡ Some (j, g)) × IsWholeIn rules look found i g)

-- All that i rests on stands with the find: it is that of i alone; or, where its attribute is circular, that of a group that i is in, or one that
-- took the first of that group, which leads to i.
pub data IsWhole (rules : Rules) (look : Contents ℕ) (found : List (Instance ℕ × Find)) (i : Instance ℕ) (f : Find) : Type 0 where
  alone : AreWholeIn rules look found (i ∷ []) f → IsWhole rules look found i f
  in_group : (these : List (Instance ℕ)) → IsSome (start_of rules i.attribute) → Among i these → AreWholeIn rules look found these f
      → IsWhole rules look found i f
  by_first : (j : Instance ℕ) → IsSome (start_of rules i.attribute) → IsFirst rules look found f.demanded i j → Leads look (meaning rules) j i
      → IsWhole rules look found i f

-- so it is of all that was found
abbrev pub AreWhole : Rules → Contents ℕ → List (Instance ℕ × Find) → Type 0
AreWhole rules look found = (p : ℕ) (i : Instance ℕ) (f : Find) → slice_get found p ≡ Some (i, f) → IsWhole rules look found i f

-- one list begins with the other
abbrev pub Extends : {A : Type 0} → (old new : List A) → Type 0
Extends {A} old new = (more : List A) × (new ≡ old ++ more)

-- all that stands with the find is among the sources, or its position is among these
pub record IsAdded (s : Sources) (positions : List ℕ) (f : Find) : Type 0 where
  pub reads : (x : Loc) → Among x f.reads.items → Among x s.reads.items
  pub kept : (u : Instance ℕ) → Among u f.demanded.kept.items → Among u s.kept.items
  pub finds : (p : ℕ) → Among p f.demanded.finds.items → Among p positions

-- all that stands with the find is so, or its instance is among those that the sources use
abbrev pub IsGathered : Sources → List ℕ → Instance ℕ → Find → Type 0
IsGathered s positions i f = IsAdded s positions f ⊎ Among i s.kept.items

-- the positions stand behind those that were visited
abbrev pub Visits : (positions old new : List ℕ) → Type 0
Visits positions old new = Extends old new × ((p : ℕ) → Among p positions → Among p new)

-- The find was added to the sources and the positions.
pub record Adds (f : Find) (old new : Sources) (positions more : List ℕ) : Type 0 where
  pub reads : Extends old.reads.items new.reads.items
  pub kept : Extends old.kept.items new.kept.items
  pub finds : Extends positions more
  pub added : IsAdded new more f

-- So was the find at the position that is visited next, if there is one, or its instance is used.
pub record AddsAt (found : List (Instance ℕ × Find)) (next : ℕ) (old new : Sources) (positions more : List ℕ) : Type 0 where
  pub reads : Extends old.reads.items new.reads.items
  pub kept : Extends old.kept.items new.kept.items
  pub finds : Extends positions more
  pub added : (p : ℕ) (i : Instance ℕ) (g : Find) → slice_get positions next ≡ Some p → slice_get found p ≡ Some (i, g) → IsGathered new more i g

-- All that stands with the find and with those that it leads to by positions is among the sources, up to instances that they use.
pub record AreGathered (found : List (Instance ℕ × Find)) (f : Find) (s : Sources) : Type 0 where
  pub positions : List ℕ
  pub first : IsAdded s positions f
  pub others : (p : ℕ) (i : Instance ℕ) (g : Find) → Among p positions → slice_get found p ≡ Some (i, g) → IsGathered s positions i g
