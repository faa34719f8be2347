use Rattle.std.specs.Prelude.{length}
use Rattle.at_store.specs.Shown.{contents}
use Rattle.at_evaluate.specs.Passing.{ArePassedBy, AsksOwn}
use Rattle.at_evaluate.proofs.passing.pass_by.Given as goal

abbrev pub invariant-loop-node : goal.invariant-loop-node
invariant-loop-node l = ArePassedBy l.rules (contents l.store) l.attribute l.arguments l.fn.reads l.reads l.nodes l.rest × AsksOwn l.rules l.class l.attribute l.arguments l.asked

abbrev pub decreases-loop-node : goal.decreases-loop-node
decreases-loop-node l = length l.rest
