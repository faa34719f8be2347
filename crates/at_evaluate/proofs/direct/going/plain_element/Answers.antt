use Rattle.std.proofs.Common.{IfSome, subst}
use Rattle.at_evaluate.specs.Place.{place_at}
use Rattle.at_evaluate.specs.InParts.{AsksInner}
use Rattle.at_evaluate.proofs.of_parts.AtOnce.{plain_come}
use Rattle.at_evaluate.proofs.direct.going.plain_element.Goals as goal

pub plain_value-requires-clause-own : goal.plain_value-requires-clause-own
plain_value-requires-clause-own c =
    let asks = subst (λ o. IfSome o (AsksInner c.args.basis.now.rules.now (place_at c.args.inside.now) c.args.body.now
    c.args.node)) c.in-Some.is c.requires in
    asks.own

pub returns : goal.returns
returns c =
    let rules = c.args.basis.now.rules.now in
    let p = place_at c.args.inside.now in
    plain_come rules c.args.basis.now.store.now c.args.level.now c.plain_value.new.reads p c.args.body.now c.args.node
    c.in-Some.attribute c.plain_value.result
    (subst (λ o. IfSome o (AsksInner rules p c.args.body.now c.args.node)) c.in-Some.is c.requires) c.plain_value.ensures
