use Rattle.std.proofs.Common.{ap}
use lib.Chars.{codes}
use Rattle.at_text.specs.Rows.{left}
use Rattle.at_java.specs.Read.{then_read}
use Rattle.at_java.specs.Seen.{made_view}
use Rattle.at_java.specs.Constants.{sign_of}
use Rattle.at_java.specs.Making.{making_equation, whole_list, list_block}
use Rattle.at_java.proofs.Exits.{found_as, fault_as}
use Rattle.at_java.proofs.Nexts.{behind_no_sign}
use Rattle.at_java.proofs.reader.Reader.made_list.Goals as goal

pub returns-clause-found : goal.returns-clause-found
returns-clause-found c = found_as c.list_block.result made_view _ _ _ (behind_no_sign (codes "=") _ _ (λ at rest. then_read (making_equation c.args.named at rest) whole_list) (sign_of c.args.named (codes "{")) (list_block c.args.named) _ _
    c.in_default.ensures.1 (ap (λ r. left r.rest.now) c.in_default.ensures.0) c.in_ok-at.ensures.found)
    c.list_block.ensures.found

pub returns-clause-fault : goal.returns-clause-fault
returns-clause-fault c = fault_as c.list_block.result _ _ _ (behind_no_sign (codes "=") _ _ (λ at rest. then_read (making_equation c.args.named at rest) whole_list) (sign_of c.args.named (codes "{")) (list_block c.args.named) _ _
    c.in_default.ensures.1 (ap (λ r. left r.rest.now) c.in_default.ensures.0) c.in_ok-at.ensures.found)
    c.list_block.ensures.fault
