-- Calls as they are seen.
use Rattle.std.proofs.Common.{◌≡◌, List, map, ap, ap₂, sym, ◌∙◌, Vec, Box, String, string_bytes}
use Rattle.std.specs.Global.{Global}
use Rattle.at_text.specs.declared.place.Place.{Place}
use Rattle.at_jrag.specs.Syntax.{Expr, to_exprs}
use Rattle.at_jrag.specs.Syntax as written
use Rattle.at_jrag.specs.View.{expr_view, form_view, see_form, see_expr}
use Rattle.at_jrag.specs.declared.syntax.Expr.{Expr as ExprValue, fold_out-Expr}
use Rattle.at_jrag.specs.declared.syntax.Form.TheVariants as form
use Rattle.at_jrag.specs.declared.syntax.Form.TheOpen.{Form-F}
use Rattle.at_jrag.specs.declared.syntax.Form.TheFolds.{fold-roll-Form}

-- an expression is a form where it stands
seen_expr : (e : ExprValue) → expr_view e ≡ form_view e.form e.at
seen_expr e = fold_out-Expr (Place → Expr) Expr see_form see_expr e

pub call_form : (at : Place) (s : String Global) (es : Vec ExprValue Global) → form_view (form.Call s es) at ≡ written.Call at (string_bytes s) (to_exprs (map expr_view es.items))
call_form at s es = ap (λ g. form_view g at) (sym (form.rolls-Call s es)) ∙ ap (λ g. g at) (fold-roll-Form (Place → Expr) Expr see_form see_expr (Form-F.Call s es))

pub call_of_form : (at : Place) (p : Box ExprValue Global) (s : String Global) (es : Vec ExprValue Global)
    → form_view (form.CallOf p s es) at ≡ written.CallOf at (expr_view p.value) (string_bytes s) (to_exprs (map expr_view es.items))
call_of_form at p s es =
    ap (λ g. form_view g at) (sym (form.rolls-CallOf p s es)) ∙ ap (λ g. g at) (fold-roll-Form (Place → Expr) Expr see_form see_expr (Form-F.CallOf p s es))

pub seen_call : (e : ExprValue) (s : String Global) (es : Vec ExprValue Global) (xs : List ExprValue) → e.form ≡ form.Call s es → xs ≡ es.items
    → expr_view e ≡ written.Call e.at (string_bytes s) (to_exprs (map expr_view xs))
seen_call e s es xs is is_xs =
    seen_expr e ∙ ap (λ g. form_view g e.at) is ∙ call_form e.at s es
    ∙ ap (λ (v : List ExprValue). written.Call e.at (string_bytes s) (to_exprs (map expr_view v))) (sym is_xs)

pub seen_call_of : (e : ExprValue) (p : Box ExprValue Global) (s : String Global) (es : Vec ExprValue Global)
    (x : ExprValue) (xs : List ExprValue) → e.form ≡ form.CallOf p s es → x ≡ p.value → xs ≡ es.items
    → expr_view e ≡ written.CallOf e.at (expr_view x) (string_bytes s) (to_exprs (map expr_view xs))
seen_call_of e p s es x xs is is_x is_xs =
    seen_expr e ∙ ap (λ g. form_view g e.at) is ∙ call_of_form e.at p s es
    ∙ ap₂ (λ (u : ExprValue) (v : List ExprValue). written.CallOf e.at (expr_view u) (string_bytes s) (to_exprs (map expr_view v))) (sym is_x) (sym is_xs)
