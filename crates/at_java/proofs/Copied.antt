-- Copies of expressions, in which names stand for others, form by form.
use Rattle.std.proofs.Common.{◌≡◌, ℕ, true, cond, List, [], ◌∷◌, map, refl, ap, ap₂, sym, ◌∙◌, Vec, Box, String, string_bytes, subst, Option, None, Some, Result, IfOk}
use Rattle.std.specs.Str.{bytes_eq}
use Rattle.std.specs.Global.{Global}
use Rattle.at_text.specs.declared.place.Place.{Place}
use Rattle.at_jrag.specs.Syntax.{Expr, Exprs, expr, to_exprs, Number, TextLiteral, Truth, Null, This, Name, Call, CallOf, Paren, Negate, Not, Cast, InstanceOf, Binary, Choose, Fold}
use Rattle.at_jrag.specs.Syntax as written
use Rattle.at_jrag.specs.View.{expr_view, form_view}
use Rattle.at_jrag.specs.declared.syntax.Expr.{Expr as ExprValue}
use Rattle.at_jrag.specs.declared.syntax.Form.TheVariants as form
use Rattle.at_java.specs.Found.{names_of}
use Rattle.at_java.specs.Naming.{Names, named, named_all}
use Rattle.at_java.specs.Refusals.{boxed_view}
use Rattle.at_java.specs.declared.rewriting.copying.Found.{Found}
use Rattle.at_java.proofs.SeenForms.{call_form, call_of_form, seen_call, seen_call_of}

-- where each name stands for itself, nothing changes
mutual
  pub named_plain : (e : Expr) → named Name e ≡ e
  named_plain (Number at n) = refl
  named_plain (TextLiteral at text) = refl
  named_plain (Truth at b) = refl
  named_plain (Null at) = refl
  named_plain (This at) = refl
  named_plain (Name at text) = refl
  named_plain (Call at name es) = ap (Call at name) (named_all_plain es)
  named_plain (CallOf at e name es) = ap₂ (λ x xs. CallOf at x name xs) (named_plain e) (named_all_plain es)
  named_plain (Paren at e) = ap (Paren at) (named_plain e)
  named_plain (Negate at e) = ap (Negate at) (named_plain e)
  named_plain (Not at e) = ap (Not at) (named_plain e)
  named_plain (Cast at class e) = ap (Cast at class) (named_plain e)
  named_plain (InstanceOf at e behind class) = ap (λ x. InstanceOf at x behind class) (named_plain e)
  named_plain (Binary at operator between a b) = ap₂ (Binary at operator between) (named_plain a) (named_plain b)
  named_plain (Choose at c behind a b) =
      ap₂ (λ x y. Choose at x behind y (named Name b)) (named_plain c) (named_plain a) ∙ ap (Choose at c behind a) (named_plain b)
  named_plain (Fold at form name list e) = ap₂ (Fold at form name) (named_plain list) (named_plain e)

  pub named_all_plain : (es : Exprs) → named_all Name es ≡ es
  named_all_plain written.no_exprs = refl
  named_all_plain (expr e es) = ap₂ expr (named_plain e) (named_all_plain es)

-- the arguments of a call
pub named_row : (names : Names) (xs : List ExprValue) → named_all names (to_exprs (map expr_view xs)) ≡ to_exprs (map (λ x. named names (expr_view x)) xs)
named_row names [] = refl
named_row names (x ∷ xs) = ap (expr (named names (expr_view x))) (named_row names xs)

-- what is said of a result, of an equal expression
pub stands_for : {E : Type 0} (r : Result ExprValue E) (x y : Expr) → x ≡ y → IfOk r (λ e. expr_view e ≡ x) → IfOk r (λ e. expr_view e ≡ y)
stands_for r x y is so = subst (λ z. IfOk r (λ e. expr_view e ≡ z)) is so

pub boxed_for : {E : Type 0} (r : Result (Box ExprValue Global) E) (x y : Expr) → x ≡ y → IfOk r (λ b. boxed_view b ≡ x) → IfOk r (λ b. boxed_view b ≡ y)
boxed_for r x y is so = subst (λ z. IfOk r (λ b. boxed_view b ≡ z)) is so

-- what stands for the name that is found
pub found_name : (o : Option Found) (f : Found) (at : Place) (name : List ℕ) → o ≡ Some f → bytes_eq f.name.now name ≡ true → names_of o at name ≡ expr_view f.expr.now
found_name o f at name is same = ap (λ p. names_of p at name) is ∙ ap (λ b. cond b (expr_view f.expr.now) (Name at name)) same

-- the name that is found, where it is copied as it stands
pub plain_of : (o p : Option Found) (f : Found) (at : Place) (name : List ℕ) → o ≡ Some f → p ≡ None → bytes_eq f.name.now name ≡ true
    → named (names_of p) (expr_view f.expr.now) ≡ names_of o at name
plain_of o p f at name is none same =
    ap (λ q. named (names_of q) (expr_view f.expr.now)) none ∙ named_plain (expr_view f.expr.now) ∙ sym (found_name o f at name is same)

-- calls, whose parts are copied
module _ (names : Names) (e : ExprValue) where
  pub call_copied : (s t : String Global) (es fs : Vec ExprValue Global) (xs : List ExprValue) → e.form ≡ form.Call s es
      → string_bytes t ≡ string_bytes s → xs ≡ es.items → map expr_view fs.items ≡ map (λ x. named names (expr_view x)) xs
      → form_view (form.Call t fs) e.at ≡ named names (expr_view e)
  call_copied s t es fs xs is same is_xs each =
      call_form e.at t fs
      ∙ ap₂ (λ u ys. Call e.at u (to_exprs ys)) same each
      ∙ ap (Call e.at (string_bytes s)) (sym (named_row names xs))
      ∙ sym (ap (named names) (seen_call e s es xs is is_xs))

  pub call_of_copied : (p q : Box ExprValue Global) (s t : String Global) (es fs : Vec ExprValue Global)
      (x : ExprValue) (xs : List ExprValue) → e.form ≡ form.CallOf p s es → x ≡ p.value
      → boxed_view q ≡ named names (expr_view x) → string_bytes t ≡ string_bytes s → xs ≡ es.items
      → map expr_view fs.items ≡ map (λ y. named names (expr_view y)) xs
      → form_view (form.CallOf q t fs) e.at ≡ named names (expr_view e)
  call_of_copied p q s t es fs x xs is is_x inner same is_xs each =
      call_of_form e.at q t fs
      ∙ ap₂ (λ y u. CallOf e.at y u (to_exprs (map expr_view fs.items))) inner same
      ∙ ap (λ ys. CallOf e.at (named names (expr_view x)) (string_bytes s) (to_exprs ys)) each
      ∙ ap (CallOf e.at (named names (expr_view x)) (string_bytes s)) (sym (named_row names xs))
      ∙ sym (ap (named names) (seen_call_of e p s es x xs is is_x is_xs))
