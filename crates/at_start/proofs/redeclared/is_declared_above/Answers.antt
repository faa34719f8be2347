use Rattle.std.proofs.Common.{◌∙◌, sym}
use Rattle.at_jrag.specs.View.{decl_form_view}
use Rattle.at_start.proofs.Rereading.{none_declared, not_some}
use Rattle.at_start.proofs.redeclared.is_declared_above.Goals as goal

pub returns-then-not-is_below_another : goal.returns-then-not-is_below_another
returns-then-not-is_below_another c =
    sym (none_declared c.args.classes.now c.args.among.now (decl_form_view c.args.form.now)
    (not_some (sym c.is_below_another.ensures ∙ c.if-not-is_below_another.true)))
