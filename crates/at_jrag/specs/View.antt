-- What the aspects that are handed out stand for.
use Rattle.std.specs.Prelude.{map, string_bytes, option_map}
use Rattle.at_text.specs.declared.place.Place.{Place}
use Rattle.at_jrag.specs.Syntax.{Word, Kind, KindWord, Param, Params, Operator, FoldForm, Expr, Exprs, to_exprs, BodyForm, Body, Ending, DeclForm, Decl, Aspect}
use Rattle.at_jrag.specs.Syntax as syntax
use Rattle.at_jrag.specs.declared.syntax.Word.{Word as WordValue}
use Rattle.at_jrag.specs.declared.syntax.Kind.{Kind as KindValue}
use Rattle.at_jrag.specs.declared.syntax.Kind.TheVariants as kind
use Rattle.at_jrag.specs.declared.syntax.KindWord.{KindWord as KindWordValue}
use Rattle.at_jrag.specs.declared.syntax.Param.{Param as ParamValue}
use Rattle.at_jrag.specs.declared.syntax.Params.{Params as ParamsValue}
use Rattle.at_jrag.specs.declared.syntax.Operator.{Operator as OperatorValue}
use Rattle.at_jrag.specs.declared.syntax.Operator.TheVariants as operator
use Rattle.at_jrag.specs.declared.syntax.FoldForm.{FoldForm as FoldFormValue}
use Rattle.at_jrag.specs.declared.syntax.FoldForm.TheVariants as fold
use Rattle.at_jrag.specs.declared.syntax.Expr.{Expr as ExprValue}
use Rattle.at_jrag.specs.declared.syntax.Form.{Form as FormValue}
use Rattle.at_jrag.specs.declared.syntax.Form.TheOpen.{Form-F, Expr-F}
use Rattle.at_jrag.specs.declared.syntax.Form.TheFolds.{fold-Expr, fold-Form}
use Rattle.at_jrag.specs.declared.syntax.BodyForm.{BodyForm as BodyFormValue}
use Rattle.at_jrag.specs.declared.syntax.BodyForm.TheVariants as body
use Rattle.at_jrag.specs.declared.syntax.Body.{Body as BodyValue}
use Rattle.at_jrag.specs.declared.syntax.Ending.{Ending as EndingValue}
use Rattle.at_jrag.specs.declared.syntax.Ending.TheVariants as ending
use Rattle.at_jrag.specs.declared.syntax.DeclForm.{DeclForm as DeclFormValue}
use Rattle.at_jrag.specs.declared.syntax.DeclForm.TheVariants as decl
use Rattle.at_jrag.specs.declared.syntax.Decl.{Decl as DeclValue}
use Rattle.at_jrag.specs.declared.syntax.Aspect.{Aspect as AspectValue}

abbrev pub word_view : WordValue → Word
word_view w = record { text = string_bytes w.text; at = w.at }

abbrev pub kind_view : KindValue → Kind
kind_view kind.Int = syntax.Int
kind_view kind.Bool = syntax.Bool'
kind_view kind.Text = syntax.Text
kind_view (kind.Class name) = syntax.Class (string_bytes name)

abbrev pub kind_word_view : KindWordValue → KindWord
kind_word_view k = record { kind = kind_view k.kind; at = k.at }

abbrev pub param_view : ParamValue → Param
param_view p = record { kind = kind_word_view p.kind; name = word_view p.name }

abbrev pub params_view : ParamsValue → Params
params_view p = record { items = map param_view p.items.items; end = p.end }

abbrev pub operator_view : OperatorValue → Operator
operator_view operator.Or = syntax.Or
operator_view operator.And = syntax.And
operator_view operator.Same = syntax.Same
operator_view operator.Differs = syntax.Differs
operator_view operator.Below = syntax.Below
operator_view operator.AtMost = syntax.AtMost
operator_view operator.Above = syntax.Above
operator_view operator.AtLeast = syntax.AtLeast
operator_view operator.Add = syntax.Add
operator_view operator.Subtract = syntax.Subtract
operator_view operator.Multiply = syntax.Multiply
operator_view operator.Divide = syntax.Divide
operator_view operator.Remainder = syntax.Remainder

abbrev pub fold_view : FoldFormValue → FoldForm
fold_view fold.Exists = syntax.Exists
fold_view fold.First = syntax.First
fold_view fold.Sum = syntax.Sum

-- a form whose expressions are already seen, at a place
abbrev pub see_form : Form-F (Place → Expr) Expr → Place → Expr
see_form (Form-F.Number n) at = syntax.Number at n
see_form (Form-F.Text s) at = syntax.TextLiteral at (string_bytes s)
see_form (Form-F.Truth b) at = syntax.Truth at b
see_form Form-F.Null at = syntax.Null at
see_form Form-F.This at = syntax.This at
see_form (Form-F.Name s) at = syntax.Name at (string_bytes s)
see_form (Form-F.Call s es) at = syntax.Call at (string_bytes s) (to_exprs es.items)
see_form (Form-F.CallOf e s es) at = syntax.CallOf at e.value (string_bytes s) (to_exprs es.items)
see_form (Form-F.Paren e) at = syntax.Paren at e.value
see_form (Form-F.Negate e) at = syntax.Negate at e.value
see_form (Form-F.Not e) at = syntax.Not at e.value
see_form (Form-F.Cast w e) at = syntax.Cast at (word_view w) e.value
see_form (Form-F.InstanceOf e p w) at = syntax.InstanceOf at e.value p (word_view w)
see_form (Form-F.Binary o a b) at = syntax.Binary at (operator_view o.operator) o.at a.value b.value
see_form (Form-F.Choose c p a b) at = syntax.Choose at c.value p a.value b.value
see_form (Form-F.Fold f w l b) at = syntax.Fold at (fold_view f) (word_view w) l.value b.value

abbrev pub see_expr : Expr-F (Place → Expr) Expr → Expr
see_expr e = e.form e.at

abbrev pub form_view : FormValue → Place → Expr
form_view = fold-Form (Place → Expr) Expr see_form see_expr

abbrev pub expr_view : ExprValue → Expr
expr_view = fold-Expr (Place → Expr) Expr see_form see_expr

abbrev pub body_form_view : BodyFormValue → BodyForm
body_form_view body.Equation = syntax.Equation'
body_form_view body.Block = syntax.Block

abbrev pub body_view : BodyValue → Body
body_view b = record { at = b.at; form = body_form_view b.form; expr = expr_view b.expr }

abbrev pub ending_view : EndingValue → Ending
ending_view (ending.Body b) = syntax.With (body_view b)
ending_view (ending.Semicolon at) = syntax.Semicolon at

abbrev pub decl_form_view : DeclFormValue → DeclForm
decl_form_view (decl.Synthesized lazy kind class name params start end) =
    syntax.Synthesized lazy (kind_word_view kind) (word_view class) (word_view name) (params_view params) start (ending_view end)
decl_form_view (decl.Inherited lazy kind class name params start) =
    syntax.Inherited lazy (kind_word_view kind) (word_view class) (word_view name) (params_view params) start
decl_form_view (decl.Equation class name params b) = syntax.Equation (word_view class) (word_view name) (params_view params) (body_view b)
decl_form_view (decl.InheritedEquation class getter index name params b) =
    syntax.InheritedEquation (word_view class) (word_view getter) (option_map word_view index) (word_view name) (params_view params) (body_view b)

abbrev pub decl_view : DeclValue → Decl
decl_view d = record { at = d.at; form = decl_form_view d.form }

abbrev pub aspect_view : AspectValue → Aspect
aspect_view a = record { name = word_view a.name; decls = map decl_view a.decls.items }
