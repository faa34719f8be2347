use Rattle.std.proofs.Common.{◌∙◌, ◌+◌, ap, sym, arith}
use Rattle.std.specs.Prelude.{◌||◌}
use Rattle.std.specs.List.{list_any}
use Rattle.at_typing.specs.Numbering.{parent_class}
use Rattle.at_typing.specs.Twice.{has_key}
use Rattle.at_typing.proofs.Lines.{line_begins, line_end, line_from, line_on_top, line_step}
use Rattle.at_typing.proofs.checks.twice.Before.is_declared_above.Goals as goal

pub loop-step-init : goal.loop-step-init
loop-step-init c = ap (list_any (has_key c.args.self.now.declared.keys c.args.name)) (line_begins c.args.classes.now c.args.class)

pub returns-in_default-clause-declared : goal.returns-in_default-clause-declared
returns-in_default-clause-declared c =
    sym (c.loop-step.invariant ∙ ap (list_any (has_key c.args.self.now.declared.keys c.args.name)) (line_on_top c.args.classes.now c.loop-step.step c.loop-step.next c.in_default.is))

pub returns-then-is_declared-clause-declared : goal.returns-then-is_declared-clause-declared
returns-then-is_declared-clause-declared c =
    let test = has_key c.args.self.now.declared.keys c.args.name in
    let classes = c.args.classes.now in
    let i = c.loop-step.step in
    sym (c.loop-step.invariant ∙ ap (list_any test) (line_step classes i c.in-Some.class c.loop-step.next (omega arith) c.in-Some.is)
    ∙ ap (λ b. b || list_any test (line_from classes (i + 1) (parent_class classes c.in-Some.class))) (sym c.is_declared.ensures ∙ c.if-is_declared.true))

pub loop-step-preserved : goal.loop-step-preserved
loop-step-preserved c =
    let test = has_key c.args.self.now.declared.keys c.args.name in
    let classes = c.args.classes.now in
    let i = c.loop-step.step in
    c.loop-step.invariant ∙ ap (list_any test) (line_step classes i c.in-Some.class c.loop-step.next (omega arith) c.in-Some.is)
    ∙ ap (λ b. b || list_any test (line_from classes (i + 1) (parent_class classes c.in-Some.class))) (sym c.is_declared.ensures ∙ c.if-is_declared.false)
    ∙ ap (λ o. list_any test (line_from classes (i + 1) o)) (sym c.parent-next.ensures)

pub returns-clause-declared : goal.returns-clause-declared
returns-clause-declared c =
    sym (c.loop-step.invariant ∙ ap (list_any (has_key c.args.self.now.declared.keys c.args.name)) (line_end c.args.classes.now c.loop-step.step c.loop-step.next (omega arith)))
