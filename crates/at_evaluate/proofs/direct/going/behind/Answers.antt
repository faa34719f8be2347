use Rattle.std.proofs.Common.{IfSome, List, inr, refl, subst}
use Rattle.std.proofs.lemmas.Result.{IfOk-weaker}
use Rattle.at_store.specs.Shown.{contents}
use Rattle.at_body.specs.declared.value.Value.{Value}
use Rattle.at_evaluate.specs.Passing.{ArePassedBy}
use Rattle.at_evaluate.specs.Place.{place_at}
use Rattle.at_evaluate.specs.InParts.{AsksEachInner}
use Rattle.at_evaluate.proofs.direct.going.behind.Goals as goal

pub pass_by-requires-clause-own : goal.pass_by-requires-clause-own
pass_by-requires-clause-own c =
    let asks = subst (λ o. IfSome o (AsksEachInner c.args.basis.now.rules.now (place_at c.args.here.now) c.args.body.now)) c.in-Some.is c.requires in
    asks.own

pub returns : goal.returns
returns c =
    let rules = c.args.basis.now.rules.now in
    let p = place_at c.args.here.now in
    IfOk-weaker c.pass_by.result _ _ (λ rest h. inr (
      c.in-Some.attribute,
      record {
        seeks = c.if-not-seeks.ensures refl;
        asks = subst (λ o. IfSome o (AsksEachInner rules p c.args.body.now)) c.in-Some.is c.requires;
        passed = subst (λ (vs : List Value). ArePassedBy rules (contents c.args.basis.now.store.now) c.in-Some.attribute vs c.args.level.now.reads
            c.pass_by.new.reads c.args.nodes.now rest.now) c.as_slice.ensures h;
        uses = refl;
      },
    )) c.pass_by.ensures
