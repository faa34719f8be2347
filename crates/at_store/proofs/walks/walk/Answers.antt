use Rattle.std.proofs.Common.{◌+◌, drop, ap, arith}
use Rattle.std.proofs.lemmas.List.{drop_all}
use Rattle.at_tree.specs.PathView.{step_view, steps_view}
use Rattle.at_store.specs.View.{memory_of}
use Rattle.at_store.proofs.Strides.{arrived, drop_next, lost, strode}
use Rattle.at_store.proofs.walks.walk.Goals as goal

pub loop-step-init : goal.loop-step-init
loop-step-init c = λ r led. led

pub loop-step-preserved : goal.loop-step-preserved
loop-step-preserved c =
    let steps = c.args.steps.now in
    let at = c.loop-step.step-index in
    strode (memory_of c.args.slab.now) c.args.classes.now c.args.from c.loop-step.node c.in_ok-next.next (steps_view
    steps) (steps_view (drop at steps)) (steps_view (drop (at + 1) steps)) (step_view c.step-item.result)
    c.step_from.result (ap steps_view (drop_next steps at c.step-item.result (omega arith) c.step-item.is)) c.step_from.ensures c.in_ok-next.was c.loop-step.invariant

pub returns-in_err-next : goal.returns-in_err-next
returns-in_err-next c =
    let steps = c.args.steps.now in
    let at = c.loop-step.step-index in
    lost (memory_of c.args.slab.now) c.args.classes.now c.args.from c.loop-step.node (steps_view steps) (steps_view (drop at steps)) (steps_view (drop (at + 1) steps)) (step_view c.step-item.result)
    c.step_from.result c.from_residual.result (ap steps_view (drop_next steps at c.step-item.result (omega arith)
    c.step-item.is)) c.step_from.ensures c.in_err-next.was c.from_residual.ensures c.loop-step.invariant

pub returns : goal.returns
returns c =
    let steps = c.args.steps.now in
    let none = drop_all c.loop-step.step-index steps (omega arith) in
    arrived (memory_of c.args.slab.now) c.args.classes.now c.args.from c.loop-step.node (steps_view steps) (steps_view (drop c.loop-step.step-index steps)) (ap steps_view none) c.loop-step.invariant
