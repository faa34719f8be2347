use Rattle.at_evaluate.specs.Place.{place_at}
use Rattle.at_evaluate.proofs.Compared.{near_named}
use Rattle.at_evaluate.proofs.comparing.near.Goals as goal

pub returns-in-Name : goal.returns-in-Name
returns-in-Name c = near_named (place_at c.args.here.now) c.args.body.now c.in-Name.position c.get.result c.in-Name.is c.get.ensures
