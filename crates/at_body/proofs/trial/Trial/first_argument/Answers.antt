use Rattle.std.proofs.Common.{◌∙◌, [], subst, sym, ap, map}
use Rattle.at_body.specs.Values.{value_view}
use Rattle.at_body.specs.Typed.{Calls}
use Rattle.at_body.proofs.of_typing.TypedParts.{put_typed}
use Rattle.at_body.proofs.of_typing.TypedSteps.{none_more}
use Rattle.at_body.proofs.of_typing.TypedUses.{next_enters}
use Rattle.at_model.specs.Bodies.{demand_of, no_exprs}
use Rattle.at_model.specs.Run.{Ref}
use Rattle.at_body.specs.Rest.{onto}
use Rattle.at_body.specs.declared.todo.Todo.TheVariants.{Argument}
use Rattle.at_rules.specs.Bodies.{body_view, bodies_view}
use Rattle.at_body.proofs.Entering.{enters, first_of_all, none_left}
use Rattle.at_body.proofs.trial.Trial.first_argument.Goals as goal

pub returns-in-None-clause-same : goal.returns-in-None-clause-same
returns-in-None-clause-same c = λ classes. none_left classes c.args.self.now c.args.attribute (Ref c.args.node) [] c.args.arguments.now c.in-None.ensures.cases ∙ ap (λ vs. onto classes c.args.self.now (demand_of c.args.attribute (Ref c.args.node) (map value_view vs))) (sym c.none.ensures) ∙ c.demand.ensures.same classes c.args.self.now

pub returns-in_ok-boxed-in-Some-clause-same : goal.returns-in_ok-boxed-in-Some-clause-same
returns-in_ok-boxed-in-Some-clause-same c = λ classes. enters classes _ c.args.self.now _ _ c.in-Some.argument (Argument c.in_ok-boxed-in-Some.boxed c.in-Some.others) c.then.ensures (rw (c.in-Some.ensures.cases.0, c.in_ok-boxed-in-Some.ensures.ok) (first_of_all classes c.args.self.now c.args.attribute (Ref c.args.node) (map value_view c.in_ok-with_capacity-in-Some.field-0.items) (body_view c.in-Some.argument.now) (bodies_view c.in-Some.others.now) (ap (map value_view) c.in_ok-with_capacity-in-Some.ensures.items)))

pub returns-in-None-clause-typed : goal.returns-in-None-clause-typed
returns-in-None-clause-typed c = λ r a h. c.demand.ensures.typed r a c.args.self.now (subst (λ vs. Calls r a c.args.self.now c.args.attribute c.args.node (map value_view vs) no_exprs) (sym c.none.ensures) (subst (λ es. Calls r a c.args.self.now c.args.attribute c.args.node [] (bodies_view es)) (none_more _ c.in-None.ensures.cases) h))

pub returns-in_ok-boxed-in-Some-clause-typed : goal.returns-in_ok-boxed-in-Some-clause-typed
returns-in_ok-boxed-in-Some-clause-typed c = λ r a h. put_typed r a _ c.args.self.now _ c.in-Some.argument (Argument c.in_ok-boxed-in-Some.boxed c.in-Some.others) c.then.ensures
    (next_enters r a c.args.self.now c.in_ok-boxed-in-Some.boxed c.in-Some.argument.now c.in-Some.others (rw (c.in_ok-boxed-in-Some.ensures.ok, c.in_ok-with_capacity-in-Some.ensures.items) (subst (λ es. Calls r a c.args.self.now c.args.attribute c.args.node [] (bodies_view es)) c.in-Some.ensures.cases.0 h)))
