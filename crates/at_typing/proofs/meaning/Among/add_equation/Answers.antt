use Rattle.std.proofs.Common.{map}
use Rattle.std.proofs.lemmas.Result.{err_from_is_err_and}
use Rattle.at_typing.specs.Numbering.{numbered_view}
use Rattle.at_jrag.specs.View.{body_view}
use Rattle.at_typing.proofs.Adding.{adds_fault, adds_then, adds_equation}
use Rattle.at_typing.proofs.meaning.Among.add_equation.Goals as goal

pub returns-in_err-class : goal.returns-in_err-class
returns-in_err-class c = λ ds about.
    let p = err_from_is_err_and c.from_residual.result c.from_residual.ensures.1 in
    rw (p.1, p.2) (adds_fault (numbered_view c.args.numbered.now) c.args.numbered.now.name c.args.meant.now c.args.meant.now (λ k. k) _ _ _ c.in_err-class.ensures)

pub returns : goal.returns
returns c = λ ds about.
    let d = numbered_view c.args.numbered.now in
    let equation = adds_equation c.args.self.now.arguments c.args.self.now.classes.now (map numbered_view ds) d
    (body_view c.args.body.now)
    c.args.self.now.signatures.now c.in_ok-class.class c.synthesized.result about.signatures
    c.args.numbered.now.name c.args.meant.now c.add_own.new.meant c.add_own.result (c.synthesized.ensures ds about)
    c.add_own.ensures.added c.add_own.ensures.attributes c.add_own.ensures.inherited in
    adds_then d c.args.numbered.now.name c.args.meant.now c.add_own.new.meant _ _ _ _ c.in_ok-class.ensures equation
