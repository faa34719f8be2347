use Rattle.std.proofs.Common.{◌∙◌, arith, sym}
use Rattle.at_start.specs.Redeclaring.{strays_from}
use Rattle.at_start.proofs.Rereading.{any_here, any_later, any_nowhere}
use Rattle.at_start.proofs.redeclared.Signature.strays_among.Goals as goal

pub returns-then-strays_from : goal.returns-then-strays_from
returns-then-strays_from c =
    sym (c.loop-other.invariant ∙ any_here (strays_from c.args.classes.now c.args.self.now) c.args.among.now
    c.loop-other.other-index c.other-item.result
    (omega arith) c.other-item.is (sym c.strays_from.ensures ∙ c.if-strays_from.true))

pub loop-other-preserved : goal.loop-other-preserved
loop-other-preserved c =
    c.loop-other.invariant ∙ any_later (strays_from c.args.classes.now c.args.self.now) c.args.among.now
    c.loop-other.other-index c.other-item.result
    (omega arith) c.other-item.is (sym c.strays_from.ensures ∙ c.if-strays_from.false)

pub returns : goal.returns
returns c =
    sym (c.loop-other.invariant ∙ any_nowhere (strays_from c.args.classes.now c.args.self.now) c.args.among.now
    c.loop-other.other-index (omega arith))
