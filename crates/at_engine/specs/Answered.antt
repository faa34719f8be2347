-- Questions and values by the numbers of nodes.
use Rattle.std.specs.Prelude.{◌≡◌, ℕ, List, map, Option, Some, None}
use Rattle.at_model.specs.Paths.{Node}
use Rattle.at_model.specs.Run.{Value, Instance}
use Rattle.at_model.specs.Alike.{ListLike, ValueLike, Names}
use Rattle.at_body.specs.Values.{value_view}
use Rattle.at_body.specs.declared.value.Value.{Value as ValueCode}

-- the instance of an attribute at a number, with these arguments
abbrev pub question : ℕ → ℕ → List ValueCode → Instance ℕ
question k attribute vs = record { node = k; attribute = attribute; arguments = map value_view vs }

-- the value stands for the one that is named, or there is neither
abbrev pub IsValueOf : (ℕ → Option Node) → Option (Value Node) → Option ValueCode → Type 0
IsValueOf path o None = o ≡ None
IsValueOf path o (Some v) = (w : Value Node) × (o ≡ Some w) × ValueLike (Names path) (value_view v) w

-- so do these values, or there are neither
abbrev pub AreValuesOf : (ℕ → Option Node) → Option (List (Value Node)) → Option (List ValueCode) → Type 0
AreValuesOf path o None = o ≡ None
AreValuesOf path o (Some vs) = (ws : List (Value Node)) × (o ≡ Some ws) × ListLike (ValueLike (Names path)) (map value_view vs) ws
