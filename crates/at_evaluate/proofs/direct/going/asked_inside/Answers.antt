use Rattle.at_evaluate.specs.Place.{place_at}
use Rattle.at_evaluate.proofs.of_parts.AtOnce.{asks_inside}
use Rattle.at_evaluate.proofs.direct.going.asked_inside.Goals as goal

pub returns : goal.returns
returns c = asks_inside c.args.basis.now.rules.now (place_at c.args.here.now) (place_at c.args.within.now)
    c.args.body.now c.args.node c.args.asked.now c.requires.0 c.requires.1
