use Rattle.std.proofs.Common.{◌∙◌, arith, sym}
use Rattle.at_start.specs.Redeclaring.{strays}
use Rattle.at_start.proofs.Rereading.{find_here, find_later, find_nowhere}
use Rattle.at_start.proofs.redeclared.first_stray.Goals as goal

pub returns-then-strays : goal.returns-then-strays
returns-then-strays c =
    sym (c.loop-signature.invariant ∙ find_here (strays c.args.classes.now c.args.among.now) c.args.among.now
    c.loop-signature.signature-index
    c.signature-item.result (omega arith) c.signature-item.is (sym c.strays.ensures ∙ c.if-strays.true))

pub loop-signature-preserved : goal.loop-signature-preserved
loop-signature-preserved c =
    c.loop-signature.invariant ∙ find_later (strays c.args.classes.now c.args.among.now) c.args.among.now
    c.loop-signature.signature-index
    c.signature-item.result (omega arith) c.signature-item.is (sym c.strays.ensures ∙ c.if-strays.false)

pub returns : goal.returns
returns c =
    sym (c.loop-signature.invariant ∙ find_nowhere (strays c.args.classes.now c.args.among.now) c.args.among.now
    c.loop-signature.signature-index (omega arith))
