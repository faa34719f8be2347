-- What the meaning of statements stands for.
use Rattle.std.specs.Prelude.{Option, option_map}
use Rattle.at_jrag.specs.Syntax.{Expr}
use Rattle.at_java.specs.Refusals.{boxed_view}
use Rattle.at_java.specs.Rewriting.{Meaning, meant}
use Rattle.at_java.specs.declared.rewriting.rests.Rest.{Rest}

-- an expression, where their end can't be reached
abbrev pub rest_view : Rest → Option Expr
rest_view r = option_map boxed_view r.expr

abbrev pub rest_meant : Rest → Meaning
rest_meant r = meant (rest_view r)
