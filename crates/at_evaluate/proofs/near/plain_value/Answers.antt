use Rattle.std.proofs.Common.{IfOk, List, subst}
use Rattle.at_store.specs.Shown.{contents}
use Rattle.at_rules.specs.Bodies.{body_view}
use Rattle.at_body.specs.Rest.{ev}
use Rattle.at_body.specs.declared.value.Value.{Value}
use Rattle.at_evaluate.specs.Near.{MayHaveEntered, own_place}
use Rattle.at_evaluate.proofs.Nearby.{by_own_at_once}
use Rattle.at_evaluate.proofs.near.plain_value.Goals as goal

pub returns : goal.returns
returns c =
    let rules = c.args.rules.now in let look = contents c.args.store.now in let n = c.args.node in
    by_own_at_once rules look c.args.reads.now c.at_once.new.reads n c.args.attribute c.class.result c.args.arguments.now c.in-Some.body.now c.at_once.result c.requires.own c.class.ensures
    c.in-Some.ensures
    (subst (λ (vs : List Value). IfOk c.at_once.result (MayHaveEntered look c.args.reads.now c.at_once.new.reads n vs (ev rules.classes (body_view c.in-Some.body.now) (own_place n vs))))
    c.as_slice.ensures (c.at_once.ensures rules.classes))
