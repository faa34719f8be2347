use Rattle.at_store.specs.Shown.{contents}
use Rattle.at_rules.specs.Bodies.{body_view}
use Rattle.at_body.specs.Rest.{place_of}
use Rattle.at_body.specs.Values.{value_view}
use Rattle.at_body.proofs.TextsCompared.{hand_lent}
use Rattle.at_body.proofs.trial.Trial.lent_token.Goals as goal

pub returns-in-Some-node_in : goal.returns-in-Some-node_in
returns-in-Some-node_in c = hand_lent (contents c.args.store.now) (body_view c.args.node.now) (place_of c.args.self.now) (value_view c.in-Some.value) c.node_in.result c.in-Some-node_in.near c.args.part c.lent_at_hand.result c.in-Some.ensures c.node_in.ensures c.in-Some-node_in.is c.lent_at_hand.ensures
