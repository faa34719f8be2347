use Rattle.std.proofs.Common.{sym, ap, ◌∙◌}
use Rattle.std.specs.Prelude.{◌&&◌, nat_eq}
use Rattle.at_typing.proofs.EquationsBefore.{class_eq, own_new, own_more}
use Rattle.at_typing.proofs.checks.equations.add_own.Goals as goal

pub returns-clause-new : goal.returns-clause-new
returns-clause-new c =
    let d = c.args.numbered.now in
    own_new d _ c.args.own.now.keys c.in_ok-is_new.is_new
    (sym c.is_own_equation.ensures ∙ c.if-not-is_own_equation.false)
    (λ k. ap (λ b. b && nat_eq d.name k.1) (class_eq d.class k.0)) c.in_ok-is_new.ensures.added

pub returns-clause-added : goal.returns-clause-added
returns-clause-added c = λ is. own_more c.args.numbered.now _ c.args.own.now.keys c.insert_full.new.self.keys
    (sym c.is_own_equation.ensures ∙ c.if-not-is_own_equation.false) (sym is ∙ c.in_ok-is_new.ensures.added)
    c.in_ok-is_new.ensures.keys
