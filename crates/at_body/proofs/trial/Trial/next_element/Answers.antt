use Rattle.at_body.specs.declared.todo.Todo.TheVariants.{Element}
use Rattle.at_rules.specs.Bodies.{body_view}
use Rattle.at_body.proofs.Entering.{enters, first_element}
use Rattle.std.proofs.Common.{subst}
use Rattle.at_body.specs.Values.{value_view}
use Rattle.at_body.specs.Rest.{place_of}
use Rattle.at_body.specs.Typed.{GoesOver}
use Rattle.at_body.proofs.of_typing.TypedParts.{put_typed}
use Rattle.at_body.proofs.of_typing.TypedFolds.{element_enters, comes_to}
use Rattle.at_body.proofs.of_typing.TypedSteps.{none_more}
use Rattle.at_body.proofs.trial.Trial.next_element.Goals as goal

pub returns-in_ok-push-in-Some-clause-same : goal.returns-in_ok-push-in-Some-clause-same
returns-in_ok-push-in-Some-clause-same c = λ classes. enters classes _ (record c.args.self.now { bound = c.push.new.self }) _ _ c.args.body (Element c.args.fold c.args.body c.in-Some.node.now c.in-Some.others) c.then.ensures (rw (c.in-Some.ensures.cases.0, c.in_ok-push-in-Some.ensures) (first_element classes c.args.self.now c.args.fold (body_view c.args.body.now) c.in-Some.node.now c.in-Some.others.now))

pub returns-in_ok-push-in-Some-clause-typed : goal.returns-in_ok-push-in-Some-clause-typed
returns-in_ok-push-in-Some-clause-typed c = λ r a h. put_typed r a _ (record c.args.self.now { bound = c.push.new.self }) _ c.args.body (Element c.args.fold c.args.body c.in-Some.node.now c.in-Some.others) c.then.ensures (element_enters r a c.args.self.now c.args.fold c.args.body c.in-Some.node.now c.in-Some.others c.push.new.self c.in_ok-push-in-Some.ensures (subst (λ ns. GoesOver r a c.args.self.now c.args.fold c.args.body.now ns) c.in-Some.ensures.cases.0 h))

pub returns-in-None-clause-typed : goal.returns-in-None-clause-typed
returns-in-None-clause-typed c = λ r a h. comes_to r a c.args.self.now c.args.fold c.args.body.now r.classes (body_view c.args.body.now) (place_of c.args.self.now) (value_view c.come_to.result) (subst (λ ns. GoesOver r a c.args.self.now c.args.fold c.args.body.now ns) (none_more _ c.in-None.ensures.cases) h) (c.come_to.ensures r.classes (body_view c.args.body.now) (place_of c.args.self.now))
