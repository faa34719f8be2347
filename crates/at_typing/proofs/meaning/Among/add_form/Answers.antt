use Rattle.std.proofs.Common.{◌∙◌, ap, sym, subst, map}
use Rattle.std.specs.Option.{option_map}
use Rattle.at_jrag.specs.View.{body_view, decl_form_view, word_view}
use Rattle.at_typing.specs.Meanings.{form_meant, equation_below_meant}
use Rattle.at_typing.specs.Numbering.{numbered_view}
use Rattle.at_typing.specs.Seen.{Adds}
use Rattle.at_typing.proofs.Adding.{seen_word}
use Rattle.at_typing.proofs.meaning.Among.add_form.Goals as goal

pub returns-in-Synthesized : goal.returns-in-Synthesized
returns-in-Synthesized c = λ ds about.
    let d = numbered_view c.args.numbered.now in
    subst (λ form. Adds d c.args.numbered.now.name (form_meant c.args.self.now.arguments c.args.self.now.classes.now
    (map numbered_view ds) d
    (decl_form_view form)) c.args.meant.now c.add_synthesized.new.meant c.add_synthesized.result)
    (sym c.in-Synthesized.is) (c.add_synthesized.ensures ds about)

pub returns-in-Inherited : goal.returns-in-Inherited
returns-in-Inherited c = λ ds about.
    let d = numbered_view c.args.numbered.now in
    subst (λ form. Adds d c.args.numbered.now.name (form_meant c.args.self.now.arguments c.args.self.now.classes.now
    (map numbered_view ds) d
    (decl_form_view form)) c.args.meant.now c.add_alone.new.meant c.add_alone.result) (sym c.in-Inherited.is)
    c.add_alone.ensures

pub returns-in-Equation : goal.returns-in-Equation
returns-in-Equation c = λ ds about.
    let d = numbered_view c.args.numbered.now in
    subst (λ form. Adds d c.args.numbered.now.name (form_meant c.args.self.now.arguments c.args.self.now.classes.now
    (map numbered_view ds) d
    (decl_form_view form)) c.args.meant.now c.add_equation.new.meant c.add_equation.result) (sym c.in-Equation.is)
    (c.add_equation.ensures ds about)

pub returns-in-InheritedEquation : goal.returns-in-InheritedEquation
returns-in-InheritedEquation c = λ ds about.
    let d = numbered_view c.args.numbered.now in
    let classes = c.args.self.now.classes.now in
    let written = c.in-InheritedEquation in
    let equation = subst (λ index. Adds d c.args.numbered.now.name
    (equation_below_meant c.args.self.now.arguments classes (map numbered_view ds)
    d (word_view written.class) (word_view written.getter) index (body_view written.body)) c.args.meant.now
    c.add_equation_below.new.meant c.add_equation_below.result)
    (seen_word c.as_ref.result ∙ ap (option_map word_view) c.as_ref.ensures.value) (c.add_equation_below.ensures ds about) in
    subst (λ form. Adds d c.args.numbered.now.name (form_meant c.args.self.now.arguments classes
    (map numbered_view ds) d (decl_form_view form))
    c.args.meant.now c.add_equation_below.new.meant c.add_equation_below.result)
    (sym c.in-InheritedEquation.is) equation
