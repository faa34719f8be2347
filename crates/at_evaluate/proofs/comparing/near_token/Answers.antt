use Rattle.std.proofs.Common.{◌≡◌, ap, refl}
use Rattle.at_model.specs.Bodies.{TokenOf}
use Rattle.at_rules.specs.Bodies.{body_view}
use Rattle.at_body.specs.Rest.{ev}
use Rattle.at_evaluate.specs.Place.{place_at}
use Rattle.at_evaluate.proofs.Compared.{token_at}
use Rattle.at_evaluate.proofs.comparing.near_token.Goals as goal

pub returns-in_ok-node-in-TokenOf : goal.returns-in_ok-node-in-TokenOf
returns-in_ok-node-in-TokenOf c = λ classes.
    let is : body_view c.args.body.now ≡ TokenOf (body_view c.deref.result.now) c.in-TokenOf.part = rw (c.in-TokenOf.is, ← c.deref.ensures) refl in
    token_at classes (place_at c.args.here.now) c.deref.result.now c.in_ok-node-in-TokenOf.node c.in-TokenOf.part (ev classes (body_view c.args.body.now) (place_at c.args.here.now)) (ap (λ e. ev classes e (place_at c.args.here.now)) is) (c.in_ok-node-in-TokenOf.ensures classes)
