use Rattle.std.proofs.Common.{◌≡◌, ◌∙◌, [], ap, arith, map, refl, rules, subst}
use Rattle.at_model.specs.Run.{Ref}
use Rattle.at_rules.specs.Bodies.{bodies_view}
use Rattle.at_body.specs.TypedForms.{Calls}
use Rattle.at_body.specs.Values.{value_view}
use Rattle.at_body.specs.declared.todo.Asking.{Asking}
use Rattle.at_body.proofs.FormRuns.{carried_by, first_shape, no_argument}
use Rattle.at_body.proofs.FormKinds.{next_evaluates}
use Rattle.at_body.proofs.forming.Forming.first_argument.Goals as goal

pub returns-in_ok-boxed-in-Some-clause-does : goal.returns-in_ok-boxed-in-Some-clause-does
returns-in_ok-boxed-in-Some-clause-does c = record {
  same = λ r. first_shape r c.args.self.now c.in_ok-boxed-in-Some.boxed c.in-Some.argument c.in-Some.others
      c.args.attribute c.args.node c.args.arguments.now c.in-Some.ensures.cases.0
      (ap (λ (x : Asking). x.attribute) c.in_ok-boxed-in-Some.ensures.ok) (ap (λ (x : Asking). x.node) c.in_ok-boxed-in-Some.ensures.ok)
      (ap (λ (x : Asking). x.done.items) c.in_ok-boxed-in-Some.ensures.ok ∙ c.in_ok-with_capacity-in-Some.ensures.items);
  less = search rules;
  reads = search rules;
}

pub returns-in_ok-boxed-in-Some-clause-typed : goal.returns-in_ok-boxed-in-Some-clause-typed
returns-in_ok-boxed-in-Some-clause-typed c = λ rules at look over h.
    next_evaluates rules at c.args.self.now c.in_ok-boxed-in-Some.boxed c.in-Some.argument.now c.in-Some.others
    (rw (c.in_ok-boxed-in-Some.ensures.ok, c.in_ok-with_capacity-in-Some.ensures.items) (subst (λ es. Calls rules at c.args.self.now c.args.attribute c.args.node [] (bodies_view es)) c.in-Some.ensures.cases.0 h))

pub returns-in-None-clause-does : goal.returns-in-None-clause-does
returns-in-None-clause-does c = carried_by c.asks.result _ _ _ _ _ _ c.asks.new.self
    (λ r. no_argument r c.args.self.now c.args.attribute (Ref c.args.node) [] (map value_view c.none.result)
    c.args.arguments.now c.in-None.ensures.cases (ap (map value_view) c.none.ensures))
    (omega arith) refl c.asks.ensures.does
