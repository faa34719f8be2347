use Rattle.at_text.specs.Rows.{left}
use Rattle.at_jrag.specs.View.{expr_view}
use Rattle.at_java.proofs.Exits.{found_as, fault_as}
use Rattle.at_java.proofs.Steps.{expression_within}
use Rattle.at_java.proofs.reader.Reader.expression.Goals as goal

pub returns-clause-found : goal.returns-clause-found
returns-clause-found c =
    found_as c.expression_within.result expr_view _ _ (left c.expression_within.new.self.cursor.rest.now)
    (expression_within (left c.args.self.now.cursor.rest.now)) c.expression_within.ensures.found

pub returns-clause-fault : goal.returns-clause-fault
returns-clause-fault c =
    fault_as c.expression_within.result _ _ (left c.expression_within.new.self.cursor.rest.now)
    (expression_within (left c.args.self.now.cursor.rest.now)) c.expression_within.ensures.fault
