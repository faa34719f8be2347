use Rattle.at_store.specs.Shown.{contents}
use Rattle.at_rules.specs.Bodies.{body_view}
use Rattle.at_body.specs.Rest.{place_of}
use Rattle.at_body.proofs.TextsCompared.{child_lent}
use Rattle.at_body.proofs.trial.Trial.lent_child.Goals as goal

pub returns : goal.returns
returns c = child_lent (contents c.args.store.now) (body_view c.args.node.now) (place_of c.args.self.now) c.in-Some.slot c.in-Some-child.child c.args.part c.in-Some-token_text.text.now c.in-Some.ensures c.in-Some-child.ensures c.in-Some-token_text.ensures
