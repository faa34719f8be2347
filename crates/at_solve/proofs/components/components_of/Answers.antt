use Rattle.std.proofs.Common.{arith, subst, sym, length}
use Rattle.at_solve.specs.Components.{AreComponents}
use Rattle.at_solve.proofs.Stepping.{all_listed_then}
use Rattle.at_solve.proofs.components.components_of.Goals as goal

pub returns : goal.returns
returns c = subst (AreComponents c.args.edges.now (length c.args.edges.now)) (sym c.into_lists.ensures)
    (all_listed_then c.args.edges.now c.loop-node.search c.loop-node.invariant.searches c.loop-node.invariant.groups
    (λ u less. c.loop-node.invariant.met u (omega (arith, less, c.loop-node-test.false, c.loop-node.auto))))
