use Rattle.std.proofs.Common.{◌∙◌, ap, sym, map}
use Rattle.std.specs.Option.{option_map}
use Rattle.std.proofs.lemmas.Result.{err_from_is_err_and}
use Rattle.at_jrag.specs.View.{body_view, kind_word_view}
use Rattle.at_typing.specs.Declaring.{body_in}
use Rattle.at_typing.specs.Meanings.{attribute_meant, with_body}
use Rattle.at_typing.specs.Numbering.{numbered_view}
use Rattle.at_typing.proofs.Adding.{declares_fault, declares_alone, declares_with}
use Rattle.at_typing.proofs.meaning.Among.add_synthesized.Goals as goal

pub returns-in_err-class : goal.returns-in_err-class
returns-in_err-class c = λ ds about.
    let p = err_from_is_err_and c.from_residual.result c.from_residual.ensures.1 in
    rw (p.1, p.2) (declares_fault (numbered_view c.args.numbered.now) c.args.numbered.now.name c.args.meant.now c.declare.new.meant _ _ _ c.in_err-class.ensures.declared)

pub returns-in-Some : goal.returns-in-Some
returns-in-Some c = λ ds about.
    let classes = c.args.self.now.classes.now in
    let d = numbered_view c.args.numbered.now in
    declares_with c.args.self.now.arguments classes (map numbered_view ds) d
    (body_view c.in-Some.body.now) c.args.self.now.signatures.now c.in_ok-class.class c.synthesized.result
    about.signatures
    c.args.numbered.now.name c.args.meant.now c.declare.new.meant c.add_own.new.meant
    (attribute_meant c.args.self.now.arguments classes d (kind_word_view c.args.kind.now))
    (body_in d.decl.form) c.add_own.result
    (sym c.body_in.ensures ∙ ap (option_map (λ b. body_view b.now)) c.in-Some.is) (c.synthesized.ensures ds about)
    c.in_ok-class.ensures.declared c.in_ok-class.ensures.own c.in_ok-class.ensures.inherited c.add_own.ensures.added c.add_own.ensures.attributes c.add_own.ensures.inherited

pub returns-in-None : goal.returns-in-None
returns-in-None c = λ ds about.
    let classes = c.args.self.now.classes.now in
    let d = numbered_view c.args.numbered.now in
    let none = sym c.body_in.ensures ∙ ap (option_map (λ b. body_view b.now)) c.in-None.is in
    declares_alone d c.args.numbered.now.name c.args.meant.now c.declare.new.meant
    (with_body c.args.self.now.arguments classes (map numbered_view
    ds) d (body_in d.decl.form)) (attribute_meant c.args.self.now.arguments classes d (kind_word_view c.args.kind.now))
    c.in_ok-class.class tt
    (λ a. ap (λ b. with_body c.args.self.now.arguments classes (map numbered_view ds) d b a) none)
    c.in_ok-class.ensures.declared c.in_ok-class.ensures.own c.in_ok-class.ensures.inherited
