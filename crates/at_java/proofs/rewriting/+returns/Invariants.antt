use Rattle.std.proofs.Common.{◌≡◌, map, drop}
use Rattle.at_java.specs.Rewriting.{any_returns}
use Rattle.at_java.specs.View.{statement_view}
use Rattle.at_java.specs.Written.{to_statements}
use Rattle.at_java.proofs.rewriting.+returns.Given as goal

abbrev pub invariant-any_returns-loop-statement : goal.invariant-any_returns-loop-statement
invariant-any_returns-loop-statement l =
    any_returns (to_statements (map statement_view l.statements)) ≡ any_returns (to_statements (map statement_view (drop l.statement-index l.statements)))
