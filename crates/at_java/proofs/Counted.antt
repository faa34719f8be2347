-- Expressions counted, with a bound.
use Rattle.std.proofs.Common.{◌≡◌, ℕ, ◌+◌, ◌<◌, List, [], ◌∷◌, ◌++◌, map, length, take, get_or, ap, sym, ◌∙◌, arith}
use Rattle.std.proofs.lemmas.List.{map_more}
use Rattle.at_jrag.specs.Syntax.{Expr, to_exprs}
use Rattle.at_jrag.specs.View.{expr_view}
use Rattle.at_jrag.specs.declared.syntax.Expr.{Expr as ExprValue}
use Rattle.at_java.specs.Naming.{counted, counted_all}

module _ (f o : ℕ) where
  row_grown : (xs : List Expr) (x : Expr) → counted_all f o (to_exprs (xs ++ x ∷ [])) ≡ counted_all f o (to_exprs xs) + counted f o x
  row_grown [] x = omega arith
  row_grown (y ∷ ys) x = let h = row_grown ys x in omega (arith, h)

  -- one more of the arguments of a call
  pub row_more : (xs : List ExprValue) (i : ℕ) (x : ExprValue) → i < length xs → x ≡ get_or xs i x
      → counted_all f o (to_exprs (map expr_view (take (i + 1) xs))) ≡ counted_all f o (to_exprs (map expr_view (take i xs))) + counted f o (expr_view x)
  row_more xs i x less is =
      ap (λ ys. counted_all f o (to_exprs ys)) (map_more expr_view xs i x less ∙ ap (λ y. map expr_view (take i xs) ++ expr_view y ∷ []) (sym is))
      ∙ row_grown (map expr_view (take i xs)) (expr_view x)
