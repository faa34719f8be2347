use Rattle.std.proofs.Common.{◌≡◌, refl}
use Rattle.at_store.specs.Shown.{contents}
use Rattle.at_rules.specs.Bodies.{body_view}
use Rattle.at_body.specs.Rest.{ev}
use Rattle.at_body.specs.Values.{value_view}
use Rattle.at_evaluate.specs.Near.{own_place}
use Rattle.at_evaluate.proofs.Nearby.{entered_gives}
use Rattle.at_evaluate.proofs.near.at_once.Goals as goal

pub returns-in-Some : goal.returns-in-Some
returns-in-Some c = λ classes.
    let p = own_place c.args.node c.args.arguments.now in
    entered_gives (contents c.args.store.now) c.args.reads.now c.enter.new.reads c.args.node c.args.arguments.now (ev classes (body_view c.args.body.now) p) (value_view c.in-Some.value)
    (c.in-Some.ensures classes p) c.in_ok-enter.ensures

pub returns-in-Compared : goal.returns-in-Compared
returns-in-Compared c = λ classes. rw (c.form_of.ensures.means classes (own_place c.args.node c.args.arguments.now), c.in-Compared.is) (c.compared.ensures classes)
