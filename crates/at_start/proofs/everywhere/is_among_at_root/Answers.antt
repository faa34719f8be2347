use Rattle.std.proofs.Common.{◌∙◌, arith, sym}
use Rattle.at_start.specs.Spreading.{is_head_at_root}
use Rattle.at_start.proofs.Rereading.{any_here, any_later, any_nowhere}
use Rattle.at_start.proofs.everywhere.is_among_at_root.Goals as goal

pub returns-then-is_at_root : goal.returns-then-is_at_root
returns-then-is_at_root c =
    sym (c.loop-head.invariant ∙ any_here (is_head_at_root c.args.classes.now c.args.name.now) c.args.heads.now
    c.loop-head.head-index c.head-item.result
    (omega arith) c.head-item.is (sym c.is_at_root.ensures ∙ c.if-is_at_root.true))

pub loop-head-preserved : goal.loop-head-preserved
loop-head-preserved c =
    c.loop-head.invariant ∙ any_later (is_head_at_root c.args.classes.now c.args.name.now) c.args.heads.now
    c.loop-head.head-index c.head-item.result
    (omega arith) c.head-item.is (sym c.is_at_root.ensures ∙ c.if-is_at_root.false)

pub returns : goal.returns
returns c =
    sym (c.loop-head.invariant ∙ any_nowhere (is_head_at_root c.args.classes.now c.args.name.now) c.args.heads.now
    c.loop-head.head-index (omega arith))
