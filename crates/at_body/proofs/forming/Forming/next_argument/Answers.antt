use Rattle.std.proofs.Common.{◌≡◌, arith, map, refl, rules, subst}
use Rattle.at_rules.specs.Bodies.{bodies_view}
use Rattle.at_body.specs.TypedForms.{Calls}
use Rattle.at_body.specs.Values.{value_view}
use Rattle.at_body.proofs.FormRuns.{all_there, argument_shape, carried_by}
use Rattle.at_body.proofs.FormKinds.{complete, next_evaluates}
use Rattle.at_body.proofs.forming.Forming.next_argument.Goals as goal

pub returns-in-Some-clause-does : goal.returns-in-Some-clause-does
returns-in-Some-clause-does c = record {
  same = λ r. rw c.in-Some.ensures.cases.0 (argument_shape r c.args.self.now c.args.call c.in-Some.argument
      c.in-Some.others);
  less = search rules;
  reads = search rules;
}

pub returns-in-Some-clause-typed : goal.returns-in-Some-clause-typed
returns-in-Some-clause-typed c = λ rules at look over h. next_evaluates rules at c.args.self.now c.args.call c.in-Some.argument.now c.in-Some.others
    (subst (λ es. Calls rules at c.args.self.now c.args.call.value.attribute c.args.call.value.node (map value_view c.args.call.value.done.items) (bodies_view es)) c.in-Some.ensures.cases.0 h)

pub returns-in_ok-of-in-None-clause-does : goal.returns-in_ok-of-in-None-clause-does
returns-in_ok-of-in-None-clause-does c = carried_by c.asks.result _ _ _ _ _ _ c.asks.new.self
    (λ r. all_there r c.args.self.now c.args.call.value c.into_inner-attribute.result _ c.args.others.now
    c.in-None.ensures.cases c.into_inner-attribute.ensures c.in_ok-of-in-None.ensures)
    (omega arith) refl c.asks.ensures.does

pub returns-in_ok-of-in-None-clause-typed : goal.returns-in_ok-of-in-None-clause-typed
returns-in_ok-of-in-None-clause-typed c = λ rules at look over h. c.asks.ensures.typed rules at look over (complete rules at c.args.self.now c.args.call.value c.into_inner-attribute.result _ c.args.others.now c.in-None.ensures.cases c.into_inner-attribute.ensures c.in_ok-of-in-None.ensures h)
