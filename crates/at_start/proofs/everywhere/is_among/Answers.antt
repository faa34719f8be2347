use Rattle.std.proofs.Common.{◌∙◌, arith, sym}
use Rattle.at_start.specs.Spreading.{is_head}
use Rattle.at_start.proofs.Rereading.{any_here, any_later, any_nowhere}
use Rattle.at_start.proofs.everywhere.is_among.Goals as goal

pub returns-then-is_of : goal.returns-then-is_of
returns-then-is_of c =
    sym (c.loop-head.invariant ∙ any_here (is_head c.args.class.now c.args.name.now) c.args.heads.now
    c.loop-head.head-index c.head-item.result
    (omega arith) c.head-item.is (sym c.is_of.ensures ∙ c.if-is_of.true))

pub loop-head-preserved : goal.loop-head-preserved
loop-head-preserved c =
    c.loop-head.invariant ∙ any_later (is_head c.args.class.now c.args.name.now) c.args.heads.now
    c.loop-head.head-index c.head-item.result
    (omega arith) c.head-item.is (sym c.is_of.ensures ∙ c.if-is_of.false)

pub returns : goal.returns
returns c =
    sym (c.loop-head.invariant ∙ any_nowhere (is_head c.args.class.now c.args.name.now) c.args.heads.now
    c.loop-head.head-index (omega arith))
