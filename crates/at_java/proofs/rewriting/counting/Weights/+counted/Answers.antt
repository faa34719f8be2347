use Rattle.std.proofs.Common.{arith}
use Rattle.at_java.proofs.Counted.{row_more}
use Rattle.at_java.proofs.rewriting.counting.Weights.+counted.Goals as goal

pub list-loop-expr-preserved : goal.list-loop-expr-preserved
list-loop-expr-preserved t c =
    let more = row_more c.args.self.fold c.args.self.other c.args.exprs.now c.loop-expr.expr-index c.expr-item.result (omega arith) c.expr-item.is in
    omega (arith, more, c.loop-expr.invariant, c.expr.ensures, c.saturating_add-count.ensures)
