use Rattle.std.proofs.Common.{sym, ap, ◌∙◌}
use Rattle.std.specs.Prelude.{◌&&◌}
use Rattle.at_jrag.specs.View.{decl_form_view}
use Rattle.at_typing.specs.Twice.{differs_from, first_form}
use Rattle.at_typing.proofs.checks.twice.Before.disagrees.Goals as goal

pub returns-then-not-is_compared : goal.returns-then-not-is_compared
returns-then-not-is_compared c =
    sym (ap (λ b. b && differs_from (decl_form_view c.args.numbered.now.decl.now.form) (first_form c.args.self.now c.args.numbered.now.name))
    (sym c.is_compared.ensures ∙ c.if-not-is_compared.true))

pub returns : goal.returns
returns c =
    c.differs.ensures
    ∙ sym (ap (λ b. b && differs_from (decl_form_view c.args.numbered.now.decl.now.form) (first_form c.args.self.now c.args.numbered.now.name))
    (sym c.is_compared.ensures ∙ c.if-not-is_compared.false))
