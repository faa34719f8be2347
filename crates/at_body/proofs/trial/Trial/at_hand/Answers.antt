use Rattle.at_body.proofs.Naming.{gives_name}
use Rattle.at_body.proofs.trial.Trial.at_hand.Goals as goal

pub returns-in-Name : goal.returns-in-Name
returns-in-Name c = λ classes. rw c.in-Name.is (gives_name _ _ c.bound_element.ensures)
