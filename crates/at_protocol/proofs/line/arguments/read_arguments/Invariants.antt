use Rattle.std.proofs.Common.{option_map}
use Rattle.at_protocol.specs.LineView.{arguments_view}
use Rattle.at_protocol.proofs.CallsLemmas.{Wanted, left}
use Rattle.at_protocol.proofs.line.arguments.read_arguments.Given as goal

abbrev pub invariant-loop-rest : goal.invariant-loop-rest
invariant-loop-rest l = Wanted l.fn.text (arguments_view l.arguments.items) (option_map (λ rest. rest.now) l.rest)

abbrev pub decreases-loop-rest : goal.decreases-loop-rest
decreases-loop-rest l = left (option_map (λ rest. rest.now) l.rest)
