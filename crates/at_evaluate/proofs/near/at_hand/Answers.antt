use Rattle.at_evaluate.specs.Place.{place_at}
use Rattle.at_evaluate.proofs.Nearby.{literal_at}
use Rattle.at_evaluate.proofs.near.at_hand.Goals as goal

pub returns-in-None : goal.returns-in-None
returns-in-None c = literal_at (place_at c.args.here.now) c.args.body.now c.literal.result c.literal.ensures
