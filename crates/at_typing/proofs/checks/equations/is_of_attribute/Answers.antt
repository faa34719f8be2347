use Rattle.std.proofs.Common.{refl, ap, map, ◌∙◌}
use Rattle.at_jrag.specs.View.{decl_form_view}
use Rattle.at_typing.specs.Numbering.{numbered_view}
use Rattle.at_typing.proofs.of_attributes.AttributesFound.{of_equation, of_inherited}
use Rattle.at_typing.proofs.checks.equations.is_of_attribute.Goals as goal

pub returns-in-Equation : goal.returns-in-Equation
returns-in-Equation c = λ ds are among.
    let d = c.args.numbered.now in
    c.is_some.ensures ∙ of_equation c.args.classes.now (map numbered_view ds) (numbered_view d).decl.form
    _ _ _ _ c.synthesized.result (ap decl_form_view c.in-Equation.is)
    (c.synthesized.ensures ds d are among refl refl)

pub returns-in-InheritedEquation : goal.returns-in-InheritedEquation
returns-in-InheritedEquation c = λ ds are among.
    let d = c.args.numbered.now in
    c.is_some-in-InheritedEquation.ensures
    ∙ of_inherited c.args.classes.now (map numbered_view ds) (numbered_view d).decl.form
    _ _ _ _ _ _ c.inherited.result (ap decl_form_view c.in-InheritedEquation.is)
    (c.inherited.ensures ds d are among.alike refl)
