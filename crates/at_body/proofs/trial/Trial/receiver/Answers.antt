use Rattle.at_store.specs.Shown.{contents}
use Rattle.at_rules.specs.Bodies.{body_view}
use Rattle.at_body.specs.Values.{value_view}
use Rattle.at_body.proofs.Uses.{hand_received}
use Rattle.at_body.proofs.trial.Trial.receiver.Goals as goal

pub returns-in-Some : goal.returns-in-Some
returns-in-Some c = hand_received (contents c.args.store.now) (body_view c.args.body.now) c.args.self.now (value_view c.in-Some.value) c.node_in.result c.in-Some.ensures c.node_in.ensures
