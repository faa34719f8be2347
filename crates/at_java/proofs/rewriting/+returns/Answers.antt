use Rattle.std.proofs.Common.{sym, ◌∙◌, arith}
use Rattle.at_java.proofs.Rewritten.{returns_later, returns_here}
use Rattle.at_java.proofs.rewriting.+returns.Goals as goal

pub any_returns-loop-statement-preserved : goal.any_returns-loop-statement-preserved
any_returns-loop-statement-preserved t c =
    returns_later c.args.statements.now c.loop-statement.statement-index c.statement-item.result (omega arith) c.statement-item.is c.loop-statement.invariant
    (sym c.returns.ensures ∙ c.if-returns.false)

pub any_returns-returns-then-returns : goal.any_returns-returns-then-returns
any_returns-returns-then-returns t c =
    sym (returns_here c.args.statements.now c.loop-statement.statement-index c.statement-item.result (omega arith) c.statement-item.is c.loop-statement.invariant
    (sym c.returns.ensures ∙ c.if-returns.true))
