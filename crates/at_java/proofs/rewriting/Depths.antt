-- How deep a copy goes by what names stand for.
use Rattle.std.proofs.Common.{ℕ, ◌+◌, Option, Some, None}
use Rattle.at_jrag.proofs.syntax.Expr.TheLaws.{the_size}
use Rattle.at_java.specs.declared.rewriting.copying.Found.{Found}

abbrev pub cost : Option Found → ℕ
cost None = 0
cost (Some f) = 1 + the_size f.expr.now
