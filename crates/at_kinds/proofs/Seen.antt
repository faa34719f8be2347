-- Expressions as they are seen, by their forms.
use Rattle.std.proofs.Common.{◌≡◌, ℕ, ℤ, Bool, List, map, refl, ap, sym, subst, ◌∙◌, rules, Vec, Box, String, string_bytes, Result, None}
use Rattle.std.specs.Global.{Global}
use Rattle.at_jrag.specs.Syntax.{Expr, to_exprs, place}
use Rattle.at_jrag.specs.Syntax as written
use Rattle.at_jrag.specs.View.{expr_view, form_view, see_form, see_expr, word_view, operator_view, fold_view}
use Rattle.at_jrag.specs.declared.syntax.Expr.{Expr as ExprValue, fold_out-Expr}
use Rattle.at_jrag.specs.declared.syntax.Word.{Word as WordValue}
use Rattle.at_jrag.specs.declared.syntax.OperatorWord.{OperatorWord}
use Rattle.at_jrag.specs.declared.syntax.FoldForm.{FoldForm as FoldFormValue}
use Rattle.at_jrag.specs.declared.syntax.Form.{Form as FormValue, out-Form, roll-Form, roll-out-Form}
use Rattle.at_jrag.specs.declared.syntax.Form.TheVariants as form
use Rattle.at_jrag.specs.declared.syntax.Form.TheOpen.{Form-F}
use Rattle.at_jrag.specs.declared.syntax.Form.TheFolds.{fold-roll-Form}
use Rattle.at_model.specs.Bodies.{expr, Call}
use Rattle.at_text.specs.declared.place.Place.{Place}
use Rattle.at_rules.specs.Bodies.{body_view, row_view, bodies_view}
use Rattle.at_rules.specs.declared.body.Body.{Body, Row_of-Body, end_of-Body, more_of-Body, items-the_row-Body, the_lemmas}
use Rattle.at_rules.specs.declared.body.Body as body
use Rattle.at_kinds.specs.Judging.{Scope, judged, judged_list, list_or}
use Rattle.at_kinds.specs.Typed.{Judges, typed_view, list_view}
use Rattle.at_kinds.specs.declared.code.RuleCode.{RuleCode}
use Rattle.at_kinds.specs.declared.typing.kinds.Typed.{Typed}
use Rattle.at_kinds.specs.declared.typing.folds.List.{List as ListValue}
use Rattle.at_text.specs.declared.fault.Fault.{Fault}

-- an expression is a form where it stands
seen_expr : (e : ExprValue) → expr_view e ≡ form_view e.form e.at
seen_expr e = fold_out-Expr (Place → Expr) Expr see_form see_expr e

pub seen_number : (e : ExprValue) (n : ℤ) → e.form ≡ (form.Number n) → expr_view e ≡ written.Number e.at n
seen_number e n is =
    seen_expr e ∙ ap (λ g. form_view g e.at) is ∙ ap (λ g. form_view g e.at) (sym (form.rolls-Number n)) ∙ ap (λ g. g e.at) (fold-roll-Form (Place → Expr) Expr see_form see_expr (Form-F.Number n))

seen_text : (e : ExprValue) (s : String Global) → e.form ≡ (form.Text s) → expr_view e ≡ written.TextLiteral e.at (string_bytes s)
seen_text e s is =
    seen_expr e ∙ ap (λ g. form_view g e.at) is ∙ ap (λ g. form_view g e.at) (sym (form.rolls-Text s)) ∙ ap (λ g. g e.at) (fold-roll-Form (Place → Expr) Expr see_form see_expr (Form-F.Text s))

pub seen_truth : (e : ExprValue) (b : Bool) → e.form ≡ (form.Truth b) → expr_view e ≡ written.Truth e.at b
seen_truth e b is =
    seen_expr e ∙ ap (λ g. form_view g e.at) is ∙ ap (λ g. form_view g e.at) (sym (form.rolls-Truth b)) ∙ ap (λ g. g e.at) (fold-roll-Form (Place → Expr) Expr see_form see_expr (Form-F.Truth b))

pub seen_null : (e : ExprValue) → e.form ≡ form.Null → expr_view e ≡ written.Null e.at
seen_null e is =
    seen_expr e ∙ ap (λ g. form_view g e.at) is ∙ ap (λ g. form_view g e.at) (sym form.rolls-Null) ∙ ap (λ g. g e.at) (fold-roll-Form (Place → Expr) Expr see_form see_expr Form-F.Null)

pub seen_this : (e : ExprValue) → e.form ≡ form.This → expr_view e ≡ written.This e.at
seen_this e is =
    seen_expr e ∙ ap (λ g. form_view g e.at) is ∙ ap (λ g. form_view g e.at) (sym form.rolls-This) ∙ ap (λ g. g e.at) (fold-roll-Form (Place → Expr) Expr see_form see_expr Form-F.This)

-- what is said of an expression that is seen
pub moved : (s : Scope) (x y : Expr) (r : Result Typed (Fault RuleCode)) → x ≡ y → Judges typed_view (judged s y) r → Judges typed_view (judged s x) r
moved s x y r is so = subst (λ z. Judges typed_view (judged s z) r) (sym is) so

pub moved_list : (s : Scope) (fold : Place) (x y : Expr) (r : Result ListValue (Fault RuleCode)) → x ≡ y
    → Judges list_view (list_or fold (judged s y) (judged_list s fold y)) r
    → Judges list_view (list_or fold (judged s x) (judged_list s fold x)) r
moved_list s fold x y r is so = subst (λ z. Judges list_view (list_or fold (judged s z) (judged_list s fold z)) r) (sym is) so

pub seen_name : (e : ExprValue) (s : String Global) (t : List ℕ) → e.form ≡ form.Name s → t ≡ string_bytes s → expr_view e ≡ written.Name e.at t
seen_name e s t is is_t =
    seen_expr e ∙ ap (λ g. form_view g e.at) is ∙ ap (λ g. form_view g e.at) (sym (form.rolls-Name s)) ∙ ap (λ g. g e.at) (fold-roll-Form (Place → Expr) Expr see_form see_expr (Form-F.Name s))
    ∙ ap (λ (v : List ℕ). written.Name e.at v) (sym is_t)

pub seen_call : (e : ExprValue) (s : String Global) (es : Vec ExprValue Global) (t : List ℕ) (xs : List ExprValue)
    → e.form ≡ form.Call s es → t ≡ string_bytes s → xs ≡ es.items
    → expr_view e ≡ written.Call e.at t (to_exprs (map expr_view xs))
seen_call e s es t xs is is_t is_xs =
    seen_expr e ∙ ap (λ g. form_view g e.at) is ∙ ap (λ g. form_view g e.at) (sym (form.rolls-Call s es)) ∙ ap (λ g. g e.at) (fold-roll-Form (Place → Expr) Expr see_form see_expr (Form-F.Call s es))
    ∙ ap (λ (v : List ℕ). written.Call e.at v (to_exprs (map expr_view es.items))) (sym is_t)
    ∙ ap (λ (v : List ExprValue). written.Call e.at t (to_exprs (map expr_view v))) (sym is_xs)

pub seen_call_of : (e : ExprValue) (p : Box ExprValue Global) (s : String Global) (es : Vec ExprValue Global)
    (x : ExprValue) (t : List ℕ) (xs : List ExprValue) → e.form ≡ form.CallOf p s es → x ≡ p.value → t ≡ string_bytes s
    → xs ≡ es.items → expr_view e ≡ written.CallOf e.at (expr_view x) t (to_exprs (map expr_view xs))
seen_call_of e p s es x t xs is is_x is_t is_xs =
    seen_expr e ∙ ap (λ g. form_view g e.at) is ∙ ap (λ g. form_view g e.at) (sym (form.rolls-CallOf p s es))
    ∙ ap (λ g. g e.at) (fold-roll-Form (Place → Expr) Expr see_form see_expr (Form-F.CallOf p s es))
    ∙ ap (λ (v : ExprValue). written.CallOf e.at (expr_view v) (string_bytes s) (to_exprs (map expr_view es.items))) (sym is_x)
    ∙ ap (λ (v : List ℕ). written.CallOf e.at (expr_view x) v (to_exprs (map expr_view es.items))) (sym is_t)
    ∙ ap (λ (v : List ExprValue). written.CallOf e.at (expr_view x) t (to_exprs (map expr_view v))) (sym is_xs)

pub seen_paren : (e : ExprValue) (p : Box ExprValue Global) (x : ExprValue) → e.form ≡ form.Paren p → x ≡ p.value → expr_view e ≡ written.Paren e.at (expr_view x)
seen_paren e p x is is_x =
    seen_expr e ∙ ap (λ g. form_view g e.at) is ∙ ap (λ g. form_view g e.at) (sym (form.rolls-Paren p)) ∙ ap (λ g. g e.at) (fold-roll-Form (Place → Expr) Expr see_form see_expr (Form-F.Paren p))
    ∙ ap (λ (v : ExprValue). written.Paren e.at (expr_view v)) (sym is_x)

pub seen_negate : (e : ExprValue) (p : Box ExprValue Global) (x : ExprValue) → e.form ≡ form.Negate p → x ≡ p.value → expr_view e ≡ written.Negate e.at (expr_view x)
seen_negate e p x is is_x =
    seen_expr e ∙ ap (λ g. form_view g e.at) is ∙ ap (λ g. form_view g e.at) (sym (form.rolls-Negate p)) ∙ ap (λ g. g e.at) (fold-roll-Form (Place → Expr) Expr see_form see_expr (Form-F.Negate p))
    ∙ ap (λ (v : ExprValue). written.Negate e.at (expr_view v)) (sym is_x)

pub seen_not : (e : ExprValue) (p : Box ExprValue Global) (x : ExprValue) → e.form ≡ form.Not p → x ≡ p.value → expr_view e ≡ written.Not e.at (expr_view x)
seen_not e p x is is_x =
    seen_expr e ∙ ap (λ g. form_view g e.at) is ∙ ap (λ g. form_view g e.at) (sym (form.rolls-Not p)) ∙ ap (λ g. g e.at) (fold-roll-Form (Place → Expr) Expr see_form see_expr (Form-F.Not p))
    ∙ ap (λ (v : ExprValue). written.Not e.at (expr_view v)) (sym is_x)

pub seen_cast : (e : ExprValue) (w : WordValue) (p : Box ExprValue Global) (x : ExprValue) → e.form ≡ form.Cast w p → x ≡ p.value → expr_view e ≡ written.Cast e.at (word_view w) (expr_view x)
seen_cast e w p x is is_x =
    seen_expr e ∙ ap (λ g. form_view g e.at) is ∙ ap (λ g. form_view g e.at) (sym (form.rolls-Cast w p)) ∙ ap (λ g. g e.at) (fold-roll-Form (Place → Expr) Expr see_form see_expr (Form-F.Cast w p))
    ∙ ap (λ (v : ExprValue). written.Cast e.at (word_view w) (expr_view v)) (sym is_x)

pub seen_instance : (e : ExprValue) (p : Box ExprValue Global) (b : Place) (w : WordValue) (x : ExprValue)
    → e.form ≡ form.InstanceOf p b w → x ≡ p.value → expr_view e ≡ written.InstanceOf e.at (expr_view x) b (word_view w)
seen_instance e p b w x is is_x =
    seen_expr e ∙ ap (λ g. form_view g e.at) is ∙ ap (λ g. form_view g e.at) (sym (form.rolls-InstanceOf p b w))
    ∙ ap (λ g. g e.at) (fold-roll-Form (Place → Expr) Expr see_form see_expr (Form-F.InstanceOf p b w))
    ∙ ap (λ (v : ExprValue). written.InstanceOf e.at (expr_view v) b (word_view w)) (sym is_x)

pub seen_binary : (e : ExprValue) (o : OperatorWord) (p : Box ExprValue Global) (q : Box ExprValue Global)
    (x : ExprValue) (y : ExprValue) → e.form ≡ form.Binary o p q → x ≡ p.value → y ≡ q.value
    → expr_view e ≡ written.Binary e.at (operator_view o.operator) o.at (expr_view x) (expr_view y)
seen_binary e o p q x y is is_x is_y =
    seen_expr e ∙ ap (λ g. form_view g e.at) is ∙ ap (λ g. form_view g e.at) (sym (form.rolls-Binary o p q))
    ∙ ap (λ g. g e.at) (fold-roll-Form (Place → Expr) Expr see_form see_expr (Form-F.Binary o p q))
    ∙ ap (λ (v : ExprValue). written.Binary e.at (operator_view o.operator) o.at (expr_view v) (expr_view q.value)) (sym is_x)
    ∙ ap (λ (v : ExprValue). written.Binary e.at (operator_view o.operator) o.at (expr_view x) (expr_view v)) (sym is_y)

pub seen_choose : (e : ExprValue) (p : Box ExprValue Global) (b : Place) (q : Box ExprValue Global) (r : Box ExprValue
    Global) (x : ExprValue) (y : ExprValue) (z : ExprValue) → e.form ≡ form.Choose p b q r → x ≡ p.value → y ≡ q.value
    → z ≡ r.value → expr_view e ≡ written.Choose e.at (expr_view x) b (expr_view y) (expr_view z)
seen_choose e p b q r x y z is is_x is_y is_z =
    seen_expr e ∙ ap (λ g. form_view g e.at) is ∙ ap (λ g. form_view g e.at) (sym (form.rolls-Choose p b q r))
    ∙ ap (λ g. g e.at) (fold-roll-Form (Place → Expr) Expr see_form see_expr (Form-F.Choose p b q r))
    ∙ ap (λ (v : ExprValue). written.Choose e.at (expr_view v) b (expr_view q.value) (expr_view r.value)) (sym is_x)
    ∙ ap (λ (v : ExprValue). written.Choose e.at (expr_view x) b (expr_view v) (expr_view r.value)) (sym is_y)
    ∙ ap (λ (v : ExprValue). written.Choose e.at (expr_view x) b (expr_view y) (expr_view v)) (sym is_z)

pub seen_fold : (e : ExprValue) (f : FoldFormValue) (w : WordValue) (p : Box ExprValue Global)
    (q : Box ExprValue Global) (x : ExprValue) (y : ExprValue) → e.form ≡ form.Fold f w p q → x ≡ p.value → y ≡ q.value
    → expr_view e ≡ written.Fold e.at (fold_view f) (word_view w) (expr_view x) (expr_view y)
seen_fold e f w p q x y is is_x is_y =
    seen_expr e ∙ ap (λ g. form_view g e.at) is ∙ ap (λ g. form_view g e.at) (sym (form.rolls-Fold f w p q))
    ∙ ap (λ g. g e.at) (fold-roll-Form (Place → Expr) Expr see_form see_expr (Form-F.Fold f w p q))
    ∙ ap (λ (v : ExprValue). written.Fold e.at (fold_view f) (word_view w) (expr_view v) (expr_view q.value)) (sym is_x)
    ∙ ap (λ (v : ExprValue). written.Fold e.at (fold_view f) (word_view w) (expr_view x) (expr_view v)) (sym is_y)

-- by what it is made of
formed : (e : ExprValue) (o : Form-F FormValue ExprValue) → out-Form e.form ≡ o → e.form ≡ roll-Form o
formed e o is = sym (roll-out-Form e.form) ∙ ap roll-Form is

pub seen_place : (e : ExprValue) → place (expr_view e) ≡ e.at
seen_place e = by (out-Form e.form) refl
  where
    by : (o : Form-F FormValue ExprValue) → out-Form e.form ≡ o → place (expr_view e) ≡ e.at
    by (Form-F.Number n) is = ap place (seen_number e n (formed e (Form-F.Number n) is ∙ form.rolls-Number n))
    by (Form-F.Text s) is = ap place (seen_text e s (formed e (Form-F.Text s) is ∙ form.rolls-Text s))
    by (Form-F.Truth b) is = ap place (seen_truth e b (formed e (Form-F.Truth b) is ∙ form.rolls-Truth b))
    by Form-F.Null is = ap place (seen_null e (formed e Form-F.Null is ∙ form.rolls-Null))
    by Form-F.This is = ap place (seen_this e (formed e Form-F.This is ∙ form.rolls-This))
    by (Form-F.Name s) is = ap place (seen_name e s (string_bytes s) (formed e (Form-F.Name s) is ∙ form.rolls-Name s) refl)
    by (Form-F.Call s es) is = ap place (seen_call e s es (string_bytes s) es.items (formed e (Form-F.Call s es) is ∙ form.rolls-Call s es) refl refl)
    by (Form-F.CallOf p s es) is = ap place (seen_call_of e p s es p.value (string_bytes s) es.items (formed e (Form-F.CallOf p s es) is ∙ form.rolls-CallOf p s es) refl refl refl)
    by (Form-F.Paren p) is = ap place (seen_paren e p p.value (formed e (Form-F.Paren p) is ∙ form.rolls-Paren p) refl)
    by (Form-F.Negate p) is = ap place (seen_negate e p p.value (formed e (Form-F.Negate p) is ∙ form.rolls-Negate p) refl)
    by (Form-F.Not p) is = ap place (seen_not e p p.value (formed e (Form-F.Not p) is ∙ form.rolls-Not p) refl)
    by (Form-F.Cast w p) is = ap place (seen_cast e w p p.value (formed e (Form-F.Cast w p) is ∙ form.rolls-Cast w p) refl)
    by (Form-F.InstanceOf p b w) is = ap place (seen_instance e p b w p.value (formed e (Form-F.InstanceOf p b w) is ∙ form.rolls-InstanceOf p b w) refl)
    by (Form-F.Binary o p q) is = ap place (seen_binary e o p q p.value q.value (formed e (Form-F.Binary o p q) is ∙ form.rolls-Binary o p q) refl refl)
    by (Form-F.Choose p b q r) is = ap place (seen_choose e p b q r p.value q.value r.value (formed e (Form-F.Choose p b q r) is ∙ form.rolls-Choose p b q r) refl refl refl)
    by (Form-F.Fold f w p q) is = ap place (seen_fold e f w p q p.value q.value (formed e (Form-F.Fold f w p q) is ∙ form.rolls-Fold f w p q) refl refl)

-- what is no call is no list
pub no_call : (s : Scope) (fold : Place) (e : ExprValue) → ((name : String Global) (es : Vec ExprValue Global)
    → e.form ≡ form.Call name es → ⊥) → ((p : Box ExprValue Global) (name : String Global) (es : Vec ExprValue Global)
    → e.form ≡ form.CallOf p name es → ⊥) → judged_list s fold (expr_view e) ≡ None
no_call scope fold e call call_of = by (out-Form e.form) refl
  where
    by : (o : Form-F FormValue ExprValue) → out-Form e.form ≡ o → judged_list scope fold (expr_view e) ≡ None
    by (Form-F.Number n) is = ap (judged_list scope fold) (seen_number e n (formed e (Form-F.Number n) is ∙ form.rolls-Number n))
    by (Form-F.Text s) is = ap (judged_list scope fold) (seen_text e s (formed e (Form-F.Text s) is ∙ form.rolls-Text s))
    by (Form-F.Truth b) is = ap (judged_list scope fold) (seen_truth e b (formed e (Form-F.Truth b) is ∙ form.rolls-Truth b))
    by Form-F.Null is = ap (judged_list scope fold) (seen_null e (formed e Form-F.Null is ∙ form.rolls-Null))
    by Form-F.This is = ap (judged_list scope fold) (seen_this e (formed e Form-F.This is ∙ form.rolls-This))
    by (Form-F.Name s) is = ap (judged_list scope fold) (seen_name e s (string_bytes s) (formed e (Form-F.Name s) is ∙ form.rolls-Name s) refl)
    by (Form-F.Call s es) is = absurd (call s es (formed e (Form-F.Call s es) is ∙ form.rolls-Call s es))
    by (Form-F.CallOf p s es) is = absurd (call_of p s es (formed e (Form-F.CallOf p s es) is ∙ form.rolls-CallOf p s es))
    by (Form-F.Paren p) is = ap (judged_list scope fold) (seen_paren e p p.value (formed e (Form-F.Paren p) is ∙ form.rolls-Paren p) refl)
    by (Form-F.Negate p) is = ap (judged_list scope fold) (seen_negate e p p.value (formed e (Form-F.Negate p) is ∙ form.rolls-Negate p) refl)
    by (Form-F.Not p) is = ap (judged_list scope fold) (seen_not e p p.value (formed e (Form-F.Not p) is ∙ form.rolls-Not p) refl)
    by (Form-F.Cast w p) is = ap (judged_list scope fold) (seen_cast e w p p.value (formed e (Form-F.Cast w p) is ∙ form.rolls-Cast w p) refl)
    by (Form-F.InstanceOf p b w) is = ap (judged_list scope fold) (seen_instance e p b w p.value (formed e (Form-F.InstanceOf p b w) is ∙ form.rolls-InstanceOf p b w) refl)
    by (Form-F.Binary o p q) is = ap (judged_list scope fold) (seen_binary e o p q p.value q.value (formed e (Form-F.Binary o p q) is ∙ form.rolls-Binary o p q) refl refl)
    by (Form-F.Choose p b q r) is = ap (judged_list scope fold) (seen_choose e p b q r p.value q.value r.value (formed e (Form-F.Choose p b q r) is ∙ form.rolls-Choose p b q r) refl refl refl)
    by (Form-F.Fold f w p q) is = ap (judged_list scope fold) (seen_fold e f w p q p.value q.value (formed e (Form-F.Fold f w p q) is ∙ form.rolls-Fold f w p q) refl refl)

-- the arguments of a call as a list
row_seen : (n : _) (row : Row_of-Body n) → row_view row ≡ bodies_view (items-the_row-Body n row)
row_seen _ end_of-Body = refl
row_seen _ (more_of-Body b rest) = ap (expr (body_view b)) (row_seen _ rest)

pub call_seen : (p : Box Body Global) (a : ℕ) (bs : Vec Body Global) → body_view (body.Call p a bs) ≡ Call (body_view p.value) a (bodies_view bs.items)
call_seen p a bs = search (rules, the_lemmas, row_seen)
