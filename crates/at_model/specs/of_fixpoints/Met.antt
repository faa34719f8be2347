-- What a search that closes a circle has come to before that.
use Rattle.std.specs.Prelude.{◌≡◌, ◌⊎◌, List, [], ◌∷◌, ◌++◌}
use Rattle.at_model.specs.Run.{Instance, Contents, FaultKind}
use Rattle.at_model.specs.Meaning.{Outcome, Among, Reaches}
use Rattle.at_model.specs.of_fixpoints.Formulas.{Formula, atoms, Forms}
use Rattle.at_model.specs.of_fixpoints.Fixpoints.{Spoilt, Holds, HasValue, HasForm, EndsSo}
use Rattle.at_model.specs.of_fixpoints.Circles.{IsOpen, WantsNone}
use Rattle.at_model.specs.of_fixpoints.Resting.{Leads}
use Rattle.at_model.specs.of_fixpoints.Searching.{Level, under}

-- A search, depth first, looks at this one: it is the next of those to do, or is looked at once that is passed. One that is under way at
-- a lower level, and has no outcome, isn't passed.
pub data LooksAt {N : Type 0} (look : Contents N) (forms : Forms N) : (under seen todo : List (Instance N)) → Instance N → Type 0 where
  here : (i : Instance N) {under seen todo : List (Instance N)} → LooksAt look forms under seen (i ∷ todo) i
  again : (i : Instance N) {under seen todo : List (Instance N)} {x : Instance N} → (¬ (IsOpen look forms under i)) →
      Among i seen → LooksAt look forms under seen todo x → LooksAt look forms under seen (i ∷ todo) x
  formed : (i : Instance N) (f : Formula N) {under seen todo : List (Instance N)} {x : Instance N} →
      (¬ (IsOpen look forms under i)) → (¬ (Among i seen)) → HasForm look forms i f →
      LooksAt look forms under (i ∷ seen) (atoms f ++ todo) x → LooksAt look forms under seen (i ∷ todo) x
  spoilt : (i at : Instance N) (k : FaultKind) {under seen todo : List (Instance N)} {x : Instance N} →
      (¬ (IsOpen look forms under i)) → (¬ (Among i seen)) → EndsSo look forms i (Spoilt k at) →
      LooksAt look forms under (i ∷ seen) todo x → LooksAt look forms under seen (i ∷ todo) x
  deeper : (i k : Instance N) {under seen todo : List (Instance N)} {x : Instance N} → (¬ (IsOpen look forms under i)) →
      (¬ (Among i seen)) → WantsNone look forms i k → (¬ (Among k (i ∷ (seen ++ under)))) →
      LooksAt look forms (i ∷ (seen ++ under)) [] (k ∷ []) x → LooksAt look forms under seen (i ∷ todo) x

-- the search for the question does
abbrev pub IsLookedAt : {N : Type 0} → Contents N → Forms N → Instance N → Instance N → Type 0
IsLookedAt look forms q x = LooksAt look forms [] [] (q ∷ []) x

-- The question has met x: its search looks at one that has an outcome and leads to x, or whose equation demands one that has an outcome
-- and leads to x.
pub record IsMet {N : Type 0} (look : Contents N) (forms : Forms N) (q x : Instance N) : Type 0 where
  pub by : Instance N
  pub looked : IsLookedAt look forms q by
  pub settled : Instance N
  pub is : (by ≡ settled) ⊎ Reaches look (HasValue look forms) (forms.formula by) settled
  pub outcome : Outcome N
  pub holds : Holds look forms settled outcome
  pub led : Leads look forms settled x

-- A search from a root that passes what was told has seen these, and has these to do: beside what was told, the one that passes nothing
-- looks at what was seen and at what is looked at from here, and at no more.
pub record HasLookedAt {N : Type 0} (look : Contents N) (forms : Forms N) (Told : Instance N → Type 0) (below : List (Instance N))
    (root : Instance N) (seen todo : List (Instance N)) : Type 0 where
  pub looks : (x : Instance N) → LooksAt look forms below seen todo x → Told x ⊎ LooksAt look forms below [] (root ∷ []) x
  pub looked : (x : Instance N) → Among x seen → Told x ⊎ LooksAt look forms below [] (root ∷ []) x
  pub only : (x : Instance N) → LooksAt look forms below [] (root ∷ []) x →
      Told x ⊎ (Among x seen ⊎ LooksAt look forms below seen todo x)

-- so it is of the search of each of these levels, over those below
abbrev pub HaveLookedAt : {N : Type 0} → Contents N → Forms N → (Instance N → Type 0) → List (Level N) → Type 0
HaveLookedAt look forms Told [] = Unit {0}
HaveLookedAt look forms Told (l ∷ ls) =
    HasLookedAt look forms Told (under ls) l.root l.seen (l.next ∷ l.todo) × HaveLookedAt look forms Told ls
