-- What is said of fixpoints as sets of instances.
use Rattle.std.specs.Prelude.{◌≡◌, Bool, true, false, List, None}
use Rattle.at_model.specs.Run.{Truth, Instance, Contents, Gives, ◌>>=◌}
use Rattle.at_model.specs.Meaning.{Equations, Among}
use Rattle.at_model.specs.of_fixpoints.Formulas.{Formula, Known, Asks, Both, Either, atoms, Starts, Forms}
use Rattle.at_model.specs.of_fixpoints.Fixpoints.{HasForm}

-- the formula has this truth value where just these instances have it
pub data IsWhere {N : Type 0} (P : Instance N → Type 0) : Bool → Formula N → Type 0 where
  known : (b : Bool) → IsWhere P b (Known (Truth b))
  asks : (b : Bool) (i : Instance N) → P i → IsWhere P b (Asks i)
  true_both : {f g : Formula N} → IsWhere P true f → IsWhere P true g → IsWhere P true (Both f g)
  true_left : {f g : Formula N} → IsWhere P true f → IsWhere P true (Either f g)
  true_right : {f g : Formula N} → IsWhere P true g → IsWhere P true (Either f g)
  false_left : {f g : Formula N} → IsWhere P false f → IsWhere P false (Both f g)
  false_right : {f g : Formula N} → IsWhere P false g → IsWhere P false (Both f g)
  false_both : {f g : Formula N} → IsWhere P false f → IsWhere P false g → IsWhere P false (Either f g)

-- it is true where just these instances are true
abbrev pub IsTrueWhere : {N : Type 0} → (Instance N → Type 0) → Formula N → Type 0
IsTrueWhere P f = IsWhere P true f

-- it is false where just these instances are false
abbrev pub IsFalseWhere : {N : Type 0} → (Instance N → Type 0) → Formula N → Type 0
IsFalseWhere P f = IsWhere P false f

-- the instances of a formula start from the value from which its instance starts
abbrev pub AreOfOneStart : {N : Type 0} → Contents N → Forms N → Type 0
AreOfOneStart {N} look forms = (i k : Instance N) (f : Formula N) → HasForm look forms i f → Among k (atoms f)
    → forms.starts k.attribute ≡ forms.starts i.attribute

-- each of these instances has a formula, of instances that are among these
abbrev pub IsComponent : {N : Type 0} → Contents N → Forms N → List (Instance N) → Type 0
IsComponent {N} look forms all = (j : Instance N) → Among j all
    → (f : Formula N) × HasForm look forms j f × ((k : Instance N) → Among k (atoms f) → Among k all)

-- no attribute is circular
abbrev pub none_circular : Starts
none_circular attribute = None

-- equations of attributes that aren't circular
abbrev pub plain_forms : {N : Type 0} → Equations N → Forms N
plain_forms equation = record { starts = none_circular; formula = λ i. equation i >>= λ v. Gives (Known v) }
