-- Nodes that lines name, by their numbers.
use Rattle.std.specs.Prelude.{◌≡◌, ℕ, [], Option, Some, None}
use Rattle.at_model.specs.Paths.{Node, Path}
use Rattle.at_model.specs.Lines.{Place, From_root, From_mark}
use Rattle.at_model.specs.Machine.{State, marked}
use Rattle.at_store.specs.Shown.{Shown, path}

-- the number is that of the node, or there is neither
abbrev pub IsNumberOf : Shown → Option Node → Option ℕ → Type 0
IsNumberOf s o None = o ≡ None
IsNumberOf s o (Some k) = (n : Node) × (o ≡ Some n) × (path s k ≡ Some n)

-- the node from which a place leads, and the steps from there
abbrev pub origin_of : State → ℕ → Place → Option Node
origin_of s session (From_root path) = Some []
origin_of s session (From_mark name steps) = marked s.marks session name

abbrev pub steps_of : Place → Path
steps_of (From_root path) = path
steps_of (From_mark name steps) = steps
