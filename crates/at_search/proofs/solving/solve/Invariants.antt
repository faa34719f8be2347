use Rattle.std.specs.Map.{keys_of}
use Rattle.at_search.proofs.Groups.{IsSolving}
use Rattle.at_search.proofs.solving.solve.Given as goal

abbrev pub invariant-loop-group : goal.invariant-loop-group
invariant-loop-group g l =
    IsSolving (g.K.Known.value_of l.known) l.ended.entries (keys_of l.seen.entries) l.initial.system l.leave.items l.group-items l.group-index
    l.system l.solved.items
