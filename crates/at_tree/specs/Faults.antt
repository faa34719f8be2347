-- Why an attribute has no value.
use Rattle.at_model.specs.Run.{FaultKind, Null, Index, Absent, Zero, Cast, Long}
use Rattle.at_tree.specs.declared.fault.FaultKind.{FaultKind as FaultCode}
use Rattle.at_tree.specs.declared.fault.FaultKind.TheVariants as fault

abbrev pub fault_view : FaultCode → FaultKind
fault_view fault.Null = Null
fault_view fault.Index = Index
fault_view fault.Absent = Absent
fault_view fault.Zero = Zero
fault_view fault.Cast = Cast
fault_view fault.Long = Long
