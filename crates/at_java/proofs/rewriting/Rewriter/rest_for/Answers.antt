use Rattle.std.proofs.Common.{ap, sym, ◌∙◌}
use Rattle.at_jrag.specs.View.{expr_view}
use Rattle.at_java.specs.Rests.{rest_view}
use Rattle.at_java.specs.Rewriting.{value_of}
use Rattle.at_java.specs.View.{statement_view}
use Rattle.at_java.proofs.Rewritten.{in_front_of_any}
use Rattle.at_java.proofs.rewriting.Rewriter.rest_for.Goals as goal

pub returns-in-Some : goal.returns-in-Some
returns-in-Some c =
    in_front_of_any (statement_view c.args.statement.now) (expr_view c.in-Some.field-0.now) (rest_view c.end.result) (rest_view c.args.rest.now)
    (ap value_of (sym c.alone.ensures) ∙ sym c.in-Some.ensures)
