-- What is shared.
use Rattle.std.specs.Prelude.{List, [], Option, Some, None}
use Rattle.std.specs.Rc.{rc_slice_items}
use Rattle.std.specs.declared.rc.RcSlice.{RcSlice}

-- the values behind a handle; none without one
abbrev pub shared_items : {X Z : Type 0} → Option (RcSlice X Z) → List X
shared_items None = []
shared_items (Some values) = rc_slice_items values
