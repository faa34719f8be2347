use Rattle.std.proofs.Common.{ap}
use lib.Chars.{codes}
use Rattle.at_text.specs.Rows.{left}
use Rattle.at_java.specs.Read.{then_read}
use Rattle.at_java.specs.Seen.{made_view}
use Rattle.at_java.specs.Making.{making_block, whole_list, local, filled_local}
use Rattle.at_java.proofs.Exits.{found_as, fault_as}
use Rattle.at_java.proofs.Nexts.{behind_no_word}
use Rattle.at_java.proofs.reader.Reader.list_block.Goals as goal

pub returns-clause-found : goal.returns-clause-found
returns-clause-found c = found_as c.whole_list.result made_view _ _ _ (behind_no_word (codes "List") _ _ (λ w rest. then_read (local c.args.named rest) (λ l left. filled_local l left)) (making_block c.args.named c.args.at) whole_list _ _
    c.in_default.ensures.1 (ap (λ r. left r.rest.now) c.in_default.ensures.0) c.in_ok-making.ensures.found)
    c.whole_list.ensures.found

pub returns-clause-fault : goal.returns-clause-fault
returns-clause-fault c = fault_as c.whole_list.result _ _ _ (behind_no_word (codes "List") _ _ (λ w rest. then_read (local c.args.named rest) (λ l left. filled_local l left)) (making_block c.args.named c.args.at) whole_list _ _
    c.in_default.ensures.1 (ap (λ r. left r.rest.now) c.in_default.ensures.0) c.in_ok-making.ensures.found)
    c.whole_list.ensures.fault
