use Rattle.at_evict.proofs.Common.{List, ℕ, ◌∙◌, subst, take_all, err_from_is_err_and, memory_of, Reaches}
use Rattle.at_evict.proofs.of_folding.Rerun.{reaches_more, reaches_none}
use Rattle.at_evict.proofs.refolding.Refolding.rerun_edge.Goals as goal

pub loop-slot-init : goal.loop-slot-init
loop-slot-init c = reaches_none _ _ _

pub loop-slot-preserved : goal.loop-slot-preserved
loop-slot-preserved c =
    reaches_more _ _ c.targets_of-targets.result.now c.loop-slot.slot-index 0 _ _ _ c.loop-slot-test.true c.loop-slot.invariant c.in_ok-add_to.ensures

pub returns : goal.returns
returns c = subst (λ (xs : List ℕ). Reaches (memory_of c.args.self.now.entries.now) xs c.args.reach.now c.args.edges.now.items c.loop-slot.edges.items)
    (take_all c.loop-slot.slot-index c.targets_of-targets.result.now c.loop-slot-test.false ∙ c.targets_of-targets.ensures) c.loop-slot.invariant

pub returns-in_err-add_to : goal.returns-in_err-add_to
returns-in_err-add_to c = let is = (err_from_is_err_and c.from_residual.result c.from_residual.ensures.1).1 in rw is tt
