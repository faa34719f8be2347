-- What is said of a result of rewriting.
use Rattle.std.specs.Prelude.{◌≡◌, Result, Ok, Err, Box}
use Rattle.std.specs.Global.{Global}
use Rattle.at_text.specs.declared.fault.Failure.{Failure}
use Rattle.at_jrag.specs.Syntax.{Expr}
use Rattle.at_jrag.specs.View.{expr_view}
use Rattle.at_jrag.specs.declared.syntax.Expr.{Expr as ExprValue}
use Rattle.at_java.specs.declared.reader.Breach.{Breach}
use Rattle.at_java.specs.Rewriting.{Meaning, IsRefusal}

-- it is what is meant, or its refusal
abbrev pub Tells : {T : Type 0} → (T → Meaning) → Meaning → Result T (Failure Breach) → Type 0
Tells view meaning (Ok found) = meaning ≡ view found
Tells view meaning (Err e) = IsRefusal e meaning

abbrev pub boxed_view : Box ExprValue Global → Expr
boxed_view b = expr_view b.value
