use Rattle.std.proofs.Common.{map}
use Rattle.at_typing.specs.Building.{refused_at}
use Rattle.at_typing.specs.Numbering.{numbered_view}
use Rattle.at_typing.proofs.InOrder.{StandBefore}
use Rattle.at_typing.proofs.building.meant_by.Given as goal
use Rattle.at_class.proofs.Firsts.{NoneBefore}

abbrev pub invariant-loop-numbered : goal.invariant-loop-numbered
invariant-loop-numbered l =
    NoneBefore (refused_at l.among.arguments l.classes (map numbered_view l.declared)) numbered_view l.declared
    l.numbered-index
    × StandBefore l.among.arguments l.classes l.declared l.numbered-index l.meant
