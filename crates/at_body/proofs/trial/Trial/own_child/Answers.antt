use Rattle.at_store.specs.Shown.{contents}
use Rattle.at_rules.specs.Bodies.{body_view}
use Rattle.at_body.proofs.Uses.{child_received}
use Rattle.at_body.proofs.trial.Trial.own_child.Goals as goal

pub returns : goal.returns
returns c = child_received (contents c.args.store.now) (body_view c.args.body.now) c.args.self.now c.in-Some.part c.in-Some-child.child c.push.new.self c.in-Some.ensures c.in-Some-child.ensures c.in_ok-push.ensures.gained
