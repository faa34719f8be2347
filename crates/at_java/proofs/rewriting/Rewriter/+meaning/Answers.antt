use Rattle.std.proofs.Common.{◌-◌, arith}
use Rattle.std.proofs.lemmas.Result.{err_from_is_err_and}
use Rattle.at_java.specs.Rests.{rest_view}
use Rattle.at_java.proofs.Rewritten.{refused_here}
use Rattle.at_java.proofs.rewriting.Rewriter.+meaning.Goals as goal

pub statements-returns-in_err-rest : goal.statements-returns-in_err-rest
statements-returns-in_err-rest t c =
    let p = err_from_is_err_and c.from_residual.result c.from_residual.ensures.1 in
    rw (p.1, p.2) (refused_here c.in_err-rest.field-0.0 c.args.statements.now c.loop-left.left (c.loop-left.left - 1) c.index-statements-left.result
    (rest_view c.args.rest) (rest_view c.loop-left.rest) (omega (arith, c.loop-left.invariant.1, c.loop-left-test.true)) (omega (arith, c.loop-left-test.true))
    c.index-statements-left.is c.loop-left.invariant.0 c.in_err-rest.ensures)
