use Rattle.std.proofs.Common.{sym, ◌∙◌}
use Rattle.at_complete.proofs.Attributes.{is_synthesized, no_attribute, not_synthesized}
use Rattle.at_complete.proofs.completeness.lacks_own.Goals as goal

pub returns-then-is_inherited : goal.returns-then-is_inherited
returns-then-is_inherited c = not_synthesized c.args.rules.now c.args.attribute (sym c.is_inherited.ensures ∙ c.if-is_inherited.true)

pub returns-in_default : goal.returns-in_default
returns-in_default c = no_attribute c.args.rules.now c.args.attribute (sym c.in_default.is ∙ c.class_of.ensures)

pub returns : goal.returns
returns c = is_synthesized c.args.rules.now c.args.attribute c.in-Some.class c.in_ok-lacks.lacks
    (sym c.is_inherited.ensures ∙ c.if-is_inherited.false) (sym c.in-Some.is ∙ c.class_of.ensures) c.in_ok-lacks.ensures
