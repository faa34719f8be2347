use Rattle.std.proofs.Common.{◌≡◌, ◌∙◌, Bool, subst}
use Rattle.at_model.specs.Run.{Is}
use Rattle.at_store.specs.Shown.{contents}
use Rattle.at_evaluate.specs.Passing.{AsksOwn, MayHavePassed}
use Rattle.at_evaluate.proofs.Passed.{not_other, passed_on}
use Rattle.at_evaluate.proofs.passing.pass_by.Goals as goal
use Rattle.at_evaluate.proofs.passing.pass_by.Goals.{then-ne+in-Some-asked_in-2, else-ne}

pub loop-node-preserved : goal.loop-node-preserved
loop-node-preserved c =
    let rules = c.args.rules.now in
    let look = contents c.args.store.now in
    let a = c.args.attribute in
    let vs = c.args.arguments.now in
    let n = c.in-Some-split_first.node.now in
    let asks : (c.if-ne.class ≡ look (Is n)) × AsksOwn rules c.if-ne.class a vs c.if-ne.asked = elim c.if-ne.branch [
      | then-ne+in-Some-asked_in-2 w ↦ (w.class-is ∙ c.class-next.ensures, rw (w.class-is, w.asked-is) w.in-Some-asked_in-2.ensures)
      | else-ne w ↦ (w.class-is ∙ not_other c.class-next.result c.loop-node.class w.if-ne.ensures ∙ c.class-next.ensures, rw (w.class-is, w.asked-is) c.loop-node.invariant.1)
    ] in (
      passed_on rules look a vs c.args.reads.now c.loop-node.reads c.is_passed.new.reads c.args.nodes.now c.loop-node.rest.now c.in-Some-split_first.others.now n c.if-ne.class c.if-ne.asked
          c.loop-node.invariant.0 c.in-Some-split_first.ensures.cases.0 c.requires.own asks.0 asks.1
          (subst (λ (b : Bool). MayHavePassed look c.loop-node.reads c.is_passed.new.reads n vs c.if-ne.asked b) c.if-not-branch.false c.in_ok-is_passed.ensures),
      asks.1,
    )
