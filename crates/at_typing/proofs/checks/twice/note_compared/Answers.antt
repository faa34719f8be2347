use Rattle.std.proofs.Common.{sym, ◌∙◌}
use Rattle.std.proofs.lemmas.Result.{on_ok_weaker}
use Rattle.at_jrag.specs.View.{decl_form_view}
use Rattle.at_typing.proofs.of_attributes.Clashing.{is_noted, not_compared}
use Rattle.at_typing.proofs.checks.twice.note_compared.Goals as goal

pub returns-then-not-is_compared : goal.returns-then-not-is_compared
returns-then-not-is_compared c = not_compared c.args.arguments c.args.name (decl_form_view c.args.form.now) c.args.first.now
    (sym c.is_compared.ensures ∙ c.if-not-is_compared.true)

pub returns : goal.returns
returns c = on_ok_weaker c.note_first.result
    (λ notes. is_noted c.args.arguments c.args.name c.args.form c.args.first.now c.note_first.new.map
    (sym c.is_compared.ensures ∙ c.if-not-is_compared.false) notes) c.note_first.ensures
