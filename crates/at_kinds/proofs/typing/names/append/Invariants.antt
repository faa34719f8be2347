use Rattle.std.proofs.Common.{◌≡◌, map, take, ◌++◌}
use Rattle.at_kinds.specs.Typed.{bound_view}
use Rattle.at_kinds.proofs.typing.names.append.Given as goal

abbrev pub invariant-loop-bound : goal.invariant-loop-bound
invariant-loop-bound l = map bound_view l.names.items ≡ map bound_view l.fn.names.items ++ map bound_view (take l.bound-index l.outside)
