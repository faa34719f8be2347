use Rattle.std.proofs.Common.{ap, sym, ◌∙◌, map}
use Rattle.std.specs.Prelude.{option_map}
use Rattle.at_class.specs.View.{part_view}
use Rattle.at_model.specs.Classes.{parts}
use Rattle.at_model.specs.Rules.{attribute_name}
use Rattle.at_rules.specs.Bodies.{body_view}
use Rattle.at_complete.proofs.Exposing.{passed_over, passed_down}
use Rattle.at_complete.proofs.exposure.passed.Goals as goal

pub returns-in-Some : goal.returns-in-Some
returns-in-Some c =
    let rules = c.args.rules.now in
    passed_over rules (attribute_name rules c.args.attribute) c.args.class c.args.part _ (sym (ap (option_map (λ b. body_view b.now)) c.in-Some.is) ∙ c.inherited_body.ensures)

pub returns : goal.returns
returns c =
    let rules = c.args.rules.now in
    c.class_at.ensures
    ∙ passed_down rules (attribute_name rules c.args.attribute) c.args.class c.args.part (map part_view c.parts.result.now) (c.parts.ensures ∙ ap (λ k. parts k c.args.class) c.classes.ensures)
    (sym (ap (option_map (λ b. body_view b.now)) c.in_default.is) ∙ c.inherited_body.ensures)
