-- What an instance leads to and rests on, also where attributes are circular.
use Rattle.std.specs.Prelude.{◌≡◌, ◌⊎◌, false}
use Rattle.at_model.specs.Trees.{Tree}
use Rattle.at_model.specs.Paths.{Node}
use Rattle.at_model.specs.Rules.{Rules}
use Rattle.at_model.specs.Run.{Instance, Location, Contents}
use Rattle.at_model.specs.Meaning.{Among, Reaches, content}
use Rattle.at_model.specs.Support.{Sees}
use Rattle.at_model.specs.Edits.{Edit}
use Rattle.at_model.specs.Touches.{touches_in}
use Rattle.at_model.specs.of_fixpoints.Formulas.{Formula, atoms, Forms}
use Rattle.at_model.specs.of_fixpoints.Evaluations.{forms as formulas}
use Rattle.at_model.specs.of_fixpoints.Fixpoints.{HasValue, HasForm}

-- the equation of i demands j, each demand before it having a value, or j stands in its formula
abbrev pub Comes : {N : Type 0} → Contents N → Forms N → Instance N → Instance N → Type 0
Comes {N} look forms i j =
    Reaches look (HasValue look forms) (forms.formula i) j ⊎ ((f : Formula N) × HasForm look forms i f × Among j (atoms f))

-- in any number of steps
pub data Leads {N : Type 0} (look : Contents N) (forms : Forms N) : Instance N → Instance N → Type 0 where
  stays : (i : Instance N) → Leads look forms i i
  goes : (i j k : Instance N) → Comes look forms i j → Leads look forms j k → Leads look forms i k

-- the location supports the instance: the equation of one to which it leads looks at it
abbrev pub Supports : {N : Type 0} → Contents N → Forms N → Location N → Instance N → Type 0
Supports {N} look forms l i =
    (j : Instance N) × Leads look forms i j × Sees look (HasValue look forms) (forms.formula j) l

-- the edit touches nothing that supports the instance
abbrev pub IsUntouched : Rules → Tree → Edit → Instance Node → Type 0
IsUntouched rules t e i = (l : Location Node) → Supports (content t) (formulas rules) l i → touches_in t e l ≡ false
