use Rattle.std.proofs.Common.{◌≡◌, ◌∷◌, Err, sym, ap, subst, ◌∙◌, arith}
use Rattle.std.specs.Prelude.{string_bytes}
use Rattle.at_text.specs.Quoted.{Spells}
use Rattle.at_text.specs.declared.place.Place.{Place}
use Rattle.at_jrag.specs.Syntax.{Expr, TextLiteral}
use Rattle.at_jrag.specs.View.{expr_view, form_view, see_form, see_expr}
use Rattle.at_jrag.specs.declared.syntax.Form.TheOpen.{Form-F}
use Rattle.at_jrag.specs.declared.syntax.Form.TheVariants.{rolls-Text}
use Rattle.at_jrag.specs.declared.syntax.Form.TheFolds.{fold-roll-Form}
use Rattle.at_jrag.specs.Grammar.{quotation}
use Rattle.at_jrag.proofs.of_expressions.Expressions.{reads_made}
use Rattle.at_jrag.specs.Table.{is_quoted}
use Rattle.at_jrag.proofs.Quotations.{no_text}
use Rattle.at_jrag.proofs.of_expressions.ExpressionsTaken.{quoted_is}
use Rattle.at_jrag.proofs.reader.Reader.text.Goals as goal

pub returns-in-Ok-clause-found : goal.returns-in-Ok-clause-found
returns-in-Ok-clause-found c =
    let made : expr_view c.leaf.result.expr ≡ TextLiteral c.args.at (string_bytes c.in-Ok.value) = c.leaf.ensures.made
    ∙ ap (λ f. form_view f c.args.at) (sym (rolls-Text c.in-Ok.value))
    ∙ ap (λ f. f c.args.at) (fold-roll-Form (Place → Expr) Expr see_form see_expr (Form-F.Text c.in-Ok.value)) in (
      λ rest. reads_made 8 c.leaf.result (TextLiteral c.args.at (string_bytes c.in-Ok.value)) _ rest made (ap (λ t.
          quotation t c.args.at ∷ rest) (sym c.in-Ok.ensures)) (omega arith) c.leaf.ensures.depth,
      c.leaf.ensures.depth,
    )

pub returns-in-Ok-clause-spelled : goal.returns-in-Ok-clause-spelled
returns-in-Ok-clause-spelled c = ap is_quoted (sym c.in-Ok.ensures) ∙ quoted_is (string_bytes c.in-Ok.value)

pub returns-in-Err-Form-clause-refused : goal.returns-in-Err-Form-clause-refused
returns-in-Err-Form-clause-refused c = no_text c.args.spelling.now (subst (λ r. Spells c.args.spelling.now r) (c.in-Err-Form.is ∙ ap (λ e. Err e) c.in-Err-Form.field-0-is) c.read_text.ensures)
