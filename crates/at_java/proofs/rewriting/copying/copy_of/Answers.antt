use Rattle.std.proofs.Common.{ap, ◌∙◌}
use Rattle.at_jrag.specs.View.{expr_view}
use Rattle.at_java.specs.Found.{names_of}
use Rattle.at_java.specs.Naming.{named}
use Rattle.at_java.proofs.Copied.{stands_for, named_plain}
use Rattle.at_java.proofs.rewriting.copying.copy_of.Goals as goal

pub returns : goal.returns
returns c =
    stands_for c.expr.result (named (names_of c.plain.result.found) (expr_view c.args.expr.now)) (expr_view c.args.expr.now)
    (ap (λ o. named (names_of o) (expr_view c.args.expr.now)) c.plain.ensures ∙ named_plain (expr_view c.args.expr.now)) c.expr.ensures
