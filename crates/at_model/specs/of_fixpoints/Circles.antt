-- Circles that no fixpoint answers: a value that is demanded leads back to itself.
use Rattle.std.specs.Prelude.{List, [], ◌∷◌, ◌++◌}
use Rattle.at_model.specs.Run.{Instance, Contents, FaultKind}
use Rattle.at_model.specs.Meaning.{Outcome, Among, Reaches, Answer, Outcomes, Circle}
use Rattle.at_model.specs.of_fixpoints.Formulas.{Formula, atoms, Forms}
use Rattle.at_model.specs.of_fixpoints.Fixpoints.{Spoilt, Holds, HasValue, HasForm, EndsSo}

-- it has no outcome
abbrev pub HasNone : {N : Type 0} → Contents N → Forms N → Instance N → Type 0
HasNone {N} look forms k = (o : Outcome N) → Holds look forms k o → ⊥

-- it is one of these, which are under way, and has no outcome
abbrev pub IsOpen : {N : Type 0} → Contents N → Forms N → List (Instance N) → Instance N → Type 0
IsOpen look forms under i = Among i under × HasNone look forms i

-- the equation of i demands k, which has no outcome
abbrev pub WantsNone : {N : Type 0} → Contents N → Forms N → Instance N → Instance N → Type 0
WantsNone look forms i k = Reaches look (HasValue look forms) (forms.formula i) k × HasNone look forms k

-- A search, depth first, comes back. Of those to do each is looked at: one that is under way at a lower level, and has no
-- outcome, closes the circle; one that was seen, or whose equation ends, is passed, and the instances of its formula are looked
-- at next. Where an equation demands what has no outcome, that closes the circle if it is under way, and else is the root of
-- the next level.
pub data Closes {N : Type 0} (look : Contents N) (forms : Forms N) : (under seen todo : List (Instance N)) → Instance N → Type 0 where
  back : (i : Instance N) {under seen todo : List (Instance N)} →
      IsOpen look forms under i → Closes look forms under seen (i ∷ todo) i
  again : (i : Instance N) {under seen todo : List (Instance N)} {j : Instance N} → (¬ (IsOpen look forms under i)) →
      Among i seen → Closes look forms under seen todo j → Closes look forms under seen (i ∷ todo) j
  formed : (i : Instance N) (f : Formula N) {under seen todo : List (Instance N)} {j : Instance N} →
      (¬ (IsOpen look forms under i)) → (¬ (Among i seen)) → HasForm look forms i f →
      Closes look forms under (i ∷ seen) (atoms f ++ todo) j → Closes look forms under seen (i ∷ todo) j
  spoilt : (i at : Instance N) (k : FaultKind) {under seen todo : List (Instance N)} {j : Instance N} →
      (¬ (IsOpen look forms under i)) → (¬ (Among i seen)) → EndsSo look forms i (Spoilt k at) →
      Closes look forms under (i ∷ seen) todo j → Closes look forms under seen (i ∷ todo) j
  comes_back : (i k : Instance N) {under seen todo : List (Instance N)} → (¬ (IsOpen look forms under i)) →
      (¬ (Among i seen)) → WantsNone look forms i k → Among k (i ∷ (seen ++ under)) →
      Closes look forms under seen (i ∷ todo) k
  deeper : (i k : Instance N) {under seen todo : List (Instance N)} {j : Instance N} → (¬ (IsOpen look forms under i)) →
      (¬ (Among i seen)) → WantsNone look forms i k → (¬ (Among k (i ∷ (seen ++ under)))) →
      Closes look forms (i ∷ (seen ++ under)) [] (k ∷ []) j → Closes look forms under seen (i ∷ todo) j

-- what the value of q wants leads back, to j
abbrev pub Circular : {N : Type 0} → Contents N → Forms N → Instance N → Instance N → Type 0
Circular look forms q j = Closes look forms [] [] (q ∷ []) j

-- it answers the question q
abbrev pub Answers : {N : Type 0} → Contents N → Forms N → Instance N → Answer N → Type 0
Answers look forms q (Outcomes o) = Holds look forms q o
Answers look forms q (Circle j) = Circular look forms q j
