use Rattle.std.proofs.Common.{◌≡◌, ap, sym, ◌∙◌, arith, length, map, None}
use Rattle.std.proofs.lemmas.List.{length-map}
use Rattle.at_kinds.specs.Judging.{misfit, Is}
use Rattle.at_kinds.specs.Typed.{typed_view}
use Rattle.at_kinds.proofs.Parts.{fitted_same, bodies_same}
use Rattle.at_kinds.proofs.typing.Scope.fitted.Goals as goal

pub returns : goal.returns
returns c =
    let ts = c.args.arguments.items in
    let ps = c.args.params.now in
    let as_many : length (map typed_view ts) ≡ length ps = omega (arith, length-map ts typed_view, c.args.arguments.ok.0, c.len.ensures, c.if-len-params.false) in
    fitted_same c.args.self.now.arguments c.args.self.now.classes.now c.args.at (map typed_view ts) ps None as_many
    (ap (λ l. misfit c.args.self.now.arguments c.args.self.now.classes.now (map typed_view l) ps)
    (sym c.deref.ensures.value)
    ∙ sym c.misfit.ensures ∙ c.in_default.is)
    ∙ ap Is (sym (bodies_same c.args.self.now.arguments c.in_ok-bodies.bodies.items ts c.in_ok-bodies.ensures))
