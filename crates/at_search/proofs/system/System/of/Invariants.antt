use Rattle.std.proofs.Common.{length, take}
use Rattle.std.specs.Map.{keys_of}
use Rattle.at_search.specs.Systems.{IsSystemTo}
use Rattle.at_search.proofs.system.System.of.Given as goal

abbrev pub invariant-loop-inst : goal.invariant-loop-inst
invariant-loop-inst g l =
    IsSystemTo (length (take l.inst-index (keys_of l.seen.entries))) l.fn.start (g.K.Known.value_of l.known) l.ended.entries
    (keys_of l.seen.entries) l.system
