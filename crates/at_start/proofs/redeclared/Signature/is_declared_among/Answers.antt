use Rattle.std.proofs.Common.{◌∙◌, arith, sym}
use Rattle.at_start.specs.Redeclaring.{is_again}
use Rattle.at_start.proofs.Rereading.{any_here, any_later, any_nowhere}
use Rattle.at_start.proofs.redeclared.Signature.is_declared_among.Goals as goal

pub returns-then-is_again : goal.returns-then-is_again
returns-then-is_again c =
    sym (c.loop-other.invariant ∙ any_here (is_again c.args.classes.now c.args.self.now) c.args.among.now
    c.loop-other.other-index c.other-item.result
    (omega arith) c.other-item.is (sym c.is_again.ensures ∙ c.if-is_again.true))

pub loop-other-preserved : goal.loop-other-preserved
loop-other-preserved c =
    c.loop-other.invariant ∙ any_later (is_again c.args.classes.now c.args.self.now) c.args.among.now
    c.loop-other.other-index c.other-item.result
    (omega arith) c.other-item.is (sym c.is_again.ensures ∙ c.if-is_again.false)

pub returns : goal.returns
returns c =
    sym (c.loop-other.invariant ∙ any_nowhere (is_again c.args.classes.now c.args.self.now) c.args.among.now
    c.loop-other.other-index (omega arith))
