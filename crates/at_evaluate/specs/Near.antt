-- What a fold asks each of its elements for, and equations that come to their value at once.
use Rattle.std.specs.Prelude.{◌≡◌, ◌++◌, ◌∷◌, [], ℕ, List, map, Option, Some, None}
use Rattle.at_model.specs.Classes.{Classes}
use Rattle.at_model.specs.Run.{Contents, Demands, Gives, Instance, Is, Location, Run, Value}
use Rattle.at_model.specs.Support.{argument_classes}
use Rattle.at_rules.specs.Bodies.{body_view}
use Rattle.at_rules.specs.declared.body.Body.{Body}
use Rattle.at_body.specs.Rest.{ev}
use Rattle.at_body.specs.Standing.{Place, inside}
use Rattle.at_body.specs.Values.{value_view}
use Rattle.at_body.specs.declared.value.Value.{Value as ValueCode}
use Rattle.at_evaluate.specs.Looking.{HasLooked}

-- the attribute of the node, passed these
abbrev pub asked : (node attribute : ℕ) → List ValueCode → Instance ℕ
asked node attribute passed = record { node = node; attribute = attribute; arguments = map value_view passed }

-- where the equation of the node itself stands, passed these
abbrev pub own_place : (node : ℕ) → List ValueCode → Place
own_place node passed = record { this = node; bound = []; passed = passed; child = None }

-- within a fold at that place the expression asks each element for the attribute, passed just what was passed there
abbrev pub AsksEach : Place → Body → (attribute : ℕ) → Type 0
AsksEach p b attribute = (classes : Classes) (n : ℕ) → ev classes (body_view b) (inside p n) ≡ Demands (asked n attribute p.passed) (λ v. Gives v)

-- what was looked at, and then the classes of the node and of the nodes among the arguments
abbrev pub entered : List (Location ℕ) → (node : ℕ) → List ValueCode → List (Location ℕ)
entered seen node passed = (seen ++ Is node ∷ []) ++ argument_classes (map value_view passed)

-- behind these classes the evaluation comes to the value by looks alone, or nothing was looked at
abbrev pub MayHaveEntered : Contents ℕ → (old new : List (Location ℕ)) → (node : ℕ) → List ValueCode → Run ℕ (Value ℕ) → Option ValueCode → Type 0
MayHaveEntered look old new node passed r None = new ≡ old
MayHaveEntered look old new node passed r (Some v) = HasLooked look (entered old node passed) new r (value_view v)
