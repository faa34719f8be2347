use Rattle.at_typing.proofs.of_attributes.Clashing.{inserts_first, inserts_more, inserts_last}
use Rattle.std.proofs.Common.{arith}
use Rattle.at_typing.proofs.Lines.{line_end, line_on_top}
use Rattle.at_typing.proofs.checks.twice.insert_line.Goals as goal

pub loop-step-init : goal.loop-step-init
loop-step-init c = inserts_first c.args.classes.now c.args.class c.args.name c.args.keys.now.keys

pub returns-in_default-clause-inserted : goal.returns-in_default-clause-inserted
returns-in_default-clause-inserted c = inserts_last c.args.classes.now c.args.class c.args.name
    c.args.keys.now.keys _ c.loop-step.step c.loop-step.next
    (line_on_top c.args.classes.now c.loop-step.step c.loop-step.next c.in_default.is) c.loop-step.invariant

pub loop-step-preserved : goal.loop-step-preserved
loop-step-preserved c = inserts_more c.args.classes.now c.args.class c.args.name c.args.keys.now.keys
    c.loop-step.keys.keys c.insert.new.keys.keys c.loop-step.step c.in-Some.class c.loop-step.next c.parent-next.result
    (omega arith) c.in-Some.is c.parent-next.ensures c.in_ok-insert.ensures c.loop-step.invariant

pub returns-clause-inserted : goal.returns-clause-inserted
returns-clause-inserted c = inserts_last c.args.classes.now c.args.class c.args.name c.args.keys.now.keys
    _ c.loop-step.step c.loop-step.next (line_end c.args.classes.now c.loop-step.step c.loop-step.next (omega arith))
    c.loop-step.invariant
