use Rattle.std.proofs.Common.{map, subst, ◌∙◌}
use Rattle.at_body.specs.declared.todo.Todo.TheVariants.{Argument}
use Rattle.at_model.specs.Run.{Ref}
use Rattle.at_body.specs.Values.{value_view}
use Rattle.at_rules.specs.Bodies.{body_view, bodies_view}
use Rattle.at_body.proofs.Entering.{completed, enters, first_arg, none_left}
use Rattle.at_body.specs.Typed.{Calls}
use Rattle.at_body.proofs.of_typing.TypedParts.{put_typed}
use Rattle.at_body.proofs.of_typing.TypedUses.{complete, next_enters}
use Rattle.at_body.proofs.of_typing.TypedSteps.{none_more}
use Rattle.at_body.proofs.trial.Trial.next_argument.Goals as goal

pub returns-in-Some-clause-same : goal.returns-in-Some-clause-same
returns-in-Some-clause-same c = λ classes. enters classes _ c.args.self.now _ _ c.in-Some.argument (Argument c.args.call c.in-Some.others) c.then.ensures (rw c.in-Some.ensures.cases.0 (first_arg classes c.args.self.now c.args.call.value.attribute (Ref c.args.call.value.node) (map value_view c.args.call.value.done.items) (body_view c.in-Some.argument.now) (bodies_view c.in-Some.others.now)))

pub returns-in_ok-of-in-None-clause-same : goal.returns-in_ok-of-in-None-clause-same
returns-in_ok-of-in-None-clause-same c = λ classes. none_left classes c.args.self.now c.args.call.value.attribute (Ref c.args.call.value.node) (map value_view c.args.call.value.done.items) c.args.others.now c.in-None.ensures.cases
    ∙ completed classes c.args.self.now c.args.call.value c.into_inner-attribute.result _ _ c.into_inner-attribute.ensures c.in_ok-of-in-None.ensures (c.demand.ensures.same classes c.args.self.now)

pub returns-in-Some-clause-typed : goal.returns-in-Some-clause-typed
returns-in-Some-clause-typed c = λ r a h. put_typed r a _ c.args.self.now _ c.in-Some.argument (Argument c.args.call c.in-Some.others) c.then.ensures (next_enters r a c.args.self.now c.args.call c.in-Some.argument.now c.in-Some.others (subst (λ es. Calls r a c.args.self.now c.args.call.value.attribute c.args.call.value.node (map value_view c.args.call.value.done.items) (bodies_view es)) c.in-Some.ensures.cases.0 h))

pub returns-in_ok-of-in-None-clause-typed : goal.returns-in_ok-of-in-None-clause-typed
returns-in_ok-of-in-None-clause-typed c = λ r a h. c.demand.ensures.typed r a c.args.self.now (complete r a c.args.self.now c.args.call.value c.into_inner-attribute.result _ c.into_inner-attribute.ensures c.in_ok-of-in-None.ensures (subst (λ es. Calls r a c.args.self.now c.args.call.value.attribute c.args.call.value.node (map value_view c.args.call.value.done.items) (bodies_view es)) (none_more _ c.in-None.ensures.cases) h))
