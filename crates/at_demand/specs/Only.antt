-- That nothing else stands with a find than what its instance rests on and leads to: the other direction of `Covering`.
use Rattle.std.specs.Prelude.{◌≡◌, ◌⊎◌, ℕ, List, [], ◌∷◌, ◌++◌, map, slice_get, Some}
use Rattle.at_model.specs.Run.{Instance, Location, Contents}
use Rattle.at_model.specs.Rules.{Rules}
use Rattle.at_model.specs.Meaning.{Among}
use Rattle.at_model.specs.of_fixpoints.Resting.{Leads, Supports}
use Rattle.at_store.specs.declared.node.Loc.{Loc}
use Rattle.at_store.specs.Located.{loc_view}
use Rattle.at_demand.specs.declared.evaluation.Demanded.{Demanded}
use Rattle.at_demand.specs.declared.evaluation.Find.{Find}
use Rattle.at_demand.specs.declared.evaluation.Recalled.{Recalled}
use Rattle.at_demand.specs.declared.evaluation.Recalled.TheVariants as recalled
use Rattle.at_demand.specs.declared.gathering.Sources.{Sources}
use Rattle.at_evaluate.specs.Valued.{meaning}
use Rattle.at_demand.specs.Covering.{IsDemanded}

-- i leads to each instance that was taken, and each position is that of a find.
pub record TakesOnly (rules : Rules) (look : Contents ℕ) (found : List (Instance ℕ × Find)) (i : Instance ℕ) (d : Demanded) : Type 0 where
  pub kept : (j : Instance ℕ) → Among j d.kept.items → Leads look (meaning rules) i j
  pub finds : (p : ℕ) → Among p d.finds.items → (j : Instance ℕ) × (g : Find) × (slice_get found p ≡ Some (j, g)) × Leads look (meaning rules) i j

-- Each of the find's reads supports i, which leads to each instance that was taken.
pub record IsLean (rules : Rules) (look : Contents ℕ) (found : List (Instance ℕ × Find)) (i : Instance ℕ) (f : Find) : Type 0 where
  pub reads : (l : Location ℕ) → Among l (map loc_view f.reads.items) → Supports look (meaning rules) l i
  pub takes : TakesOnly rules look found i f.demanded

-- so it is of all that was found
abbrev pub AreLean : Rules → Contents ℕ → List (Instance ℕ × Find) → Type 0
AreLean rules look found = (p : ℕ) (i : Instance ℕ) (f : Find) → slice_get found p ≡ Some (i, f) → IsLean rules look found i f

-- the instance was taken, of what is kept or of what was found, where its value was recalled
abbrev pub TakesOne : List (Instance ℕ × Find) → (old new : Demanded) → Instance ℕ → Recalled → Type 0
TakesOne found old new i (recalled.Value v) = ((new.kept.items ≡ old.kept.items ++ i ∷ []) × (new.finds.items ≡ old.finds.items))
    ⊎ ((p : ℕ) × (f : Find) × (slice_get found p ≡ Some (i, f)) × (new.kept.items ≡ old.kept.items) × (new.finds.items ≡ old.finds.items ++ p ∷ []))
TakesOne found old new i (recalled.Unknown j) = new ≡ old

-- positions lead from the one find to the other
pub data LeadsTo (found : List (Instance ℕ × Find)) (f : Find) : Find → Type 0 where
  itself : LeadsTo found f f
  further : (g h : Find) (p : ℕ) (i : Instance ℕ) → LeadsTo found f g → Among p g.demanded.finds.items → slice_get found p ≡ Some (i, h) → LeadsTo found f h

-- All that is among the sources and the positions stands with a find to which the first one leads, or was taken by that.
pub record IsFrom (found : List (Instance ℕ × Find)) (f : Find) (s : Sources) (positions : List ℕ) : Type 0 where
  pub reads : (x : Loc) → Among x s.reads.items → (g : Find) × LeadsTo found f g × Among x g.reads.items
  pub kept : (u : Instance ℕ) → Among u s.kept.items → (g : Find) × LeadsTo found f g × IsDemanded found g.demanded u
  pub finds : (p : ℕ) → Among p positions → (g : Find) × LeadsTo found f g × Among p g.demanded.finds.items

abbrev pub AreFrom : List (Instance ℕ × Find) → Find → Sources → Type 0
AreFrom found f s = (positions : List ℕ) × IsFrom found f s positions

-- what is visited was visited before, or is one of these positions
abbrev pub VisitsOnly : (positions old new : List ℕ) → Type 0
VisitsOnly positions old new = (p : ℕ) → Among p new → Among p old ⊎ Among p positions

-- What was added to the sources and the positions stands with the find.
pub record AddsOnly (f : Find) (old new : Sources) (positions more : List ℕ) : Type 0 where
  pub reads : (x : Loc) → Among x new.reads.items → Among x old.reads.items ⊎ Among x f.reads.items
  pub kept : (u : Instance ℕ) → Among u new.kept.items → Among u old.kept.items ⊎ Among u f.demanded.kept.items
  pub finds : VisitsOnly f.demanded.finds.items positions more

-- the find is the one at the position that is visited next
abbrev pub IsNext : List (Instance ℕ × Find) → List ℕ → ℕ → Find → Type 0
IsNext found positions next g = (p : ℕ) × (i : Instance ℕ) × (slice_get positions next ≡ Some p) × (slice_get found p ≡ Some (i, g))

-- The instance of the find there was added to those that are used.
pub record AddsUse (found : List (Instance ℕ × Find)) (next : ℕ) (old new : Sources) (positions more : List ℕ) : Type 0 where
  pub position : ℕ
  pub inst : Instance ℕ
  pub find : Find
  pub at : slice_get positions next ≡ Some position
  pub is : slice_get found position ≡ Some (inst, find)
  pub reads : new.reads.items ≡ old.reads.items
  pub kept : new.kept.items ≡ old.kept.items ++ inst ∷ []
  pub same : more ≡ positions

-- nothing was added, or what stands with the find there, or its instance
abbrev pub AddsOnlyAt : List (Instance ℕ × Find) → ℕ → (old new : Sources) (positions more : List ℕ) → Type 0
AddsOnlyAt found next old new positions more = ((new ≡ old) × (more ≡ positions))
    ⊎ (((g : Find) × IsNext found positions next g × AddsOnly g old new positions more) ⊎ AddsUse found next old new positions more)
