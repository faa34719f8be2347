use Rattle.at_evaluate.proofs.of_parts.AtOnce.{looked_at_hand}
use Rattle.at_rules.specs.Bodies.{body_view}
use Rattle.at_store.specs.Shown.{contents}
use Rattle.at_evaluate.specs.Place.{place_at}
use Rattle.at_evaluate.proofs.direct.operands.value_at_once.Goals as goal

pub returns-in-Child : goal.returns-in-Child
returns-in-Child c = rw (c.in-Child.is, ← c.deref.ensures) c.done_at_once.ensures

pub returns-in-TokenOf : goal.returns-in-TokenOf
returns-in-TokenOf c = rw (c.in-TokenOf.is, ← c.deref-in-TokenOf.ensures) c.done_at_once-in-TokenOf.ensures

pub returns-in_default : goal.returns-in_default
returns-in_default c = looked_at_hand (contents c.args.basis.now.store.now) c.args.basis.now.rules.now.classes c.args.reads.now (body_view c.args.body.now)
    (place_at c.args.here.now) c.at_hand.result c.at_hand.ensures
