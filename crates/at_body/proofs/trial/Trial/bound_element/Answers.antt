use Rattle.at_body.proofs.Naming.{is_bound}
use Rattle.at_body.proofs.trial.Trial.bound_element.Goals as goal

pub returns-in-Some : goal.returns-in-Some
returns-in-Some c = is_bound c.args.self.now.bound _ c.args.position c.in-Some.node (cc)
