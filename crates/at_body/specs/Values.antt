-- What values, locations and faults stand for.
use Rattle.std.specs.Prelude.{ℕ, string_bytes}
use Rattle.at_model.specs.Run.{Value, Int, Truth, Text, Ref}
use Rattle.at_body.specs.declared.value.Value.{Value as ValueCode}
use Rattle.at_body.specs.declared.value.Value.TheVariants as value
pub use Rattle.at_tree.specs.declared.fault.FaultKind.{FaultKind as FaultCode}
pub use Rattle.at_tree.specs.Faults.{fault_view}

abbrev pub value_view : ValueCode → Value ℕ
value_view (value.Int n) = Int n
value_view (value.Bool b) = Truth b
value_view (value.Text text) = Text (string_bytes text.value)
value_view (value.Ref n) = Ref n
