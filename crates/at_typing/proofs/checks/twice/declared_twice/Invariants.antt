use Rattle.std.proofs.Common.{map, take}
use Rattle.at_typing.specs.Declaring.{twice_at}
use Rattle.at_typing.specs.Numbering.{numbered_view}
use Rattle.at_typing.specs.Twice.{AreBefore}
use Rattle.at_typing.proofs.checks.twice.declared_twice.Given as goal
use Rattle.at_class.proofs.Firsts.{NoneBefore}

abbrev pub invariant-loop-numbered : goal.invariant-loop-numbered
invariant-loop-numbered l = NoneBefore (twice_at l.arguments l.classes (map numbered_view l.declared)) numbered_view l.declared l.numbered-index × AreBefore l.arguments l.classes (take l.numbered-index l.declared) l.before
