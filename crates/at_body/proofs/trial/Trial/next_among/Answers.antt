use Rattle.at_body.specs.declared.todo.Todo.TheVariants.{Among}
use Rattle.at_rules.specs.Bodies.{body_view}
use Rattle.std.proofs.Common.{subst}
use Rattle.at_body.specs.Values.{value_view}
use Rattle.at_body.specs.Rest.{place_of}
use Rattle.at_body.specs.Seeking.{fold_of}
use Rattle.at_body.specs.Typed.{GoesOver}
use Rattle.at_body.proofs.Entering.{enters}
use Rattle.at_body.proofs.Seeks.{first_candidate}
use Rattle.at_body.proofs.of_typing.TypedParts.{put_typed}
use Rattle.at_body.proofs.of_typing.TypedSeeks.{candidate_enters}
use Rattle.at_body.proofs.of_typing.TypedFolds.{comes_to}
use Rattle.at_body.proofs.trial.Trial.next_among.Goals as goal

pub returns-in_ok-push-in-Some-clause-same : goal.returns-in_ok-push-in-Some-clause-same
returns-in_ok-push-in-Some-clause-same c = λ classes. enters classes _ (record c.args.self.now { bound = c.push.new.self }) _ _ c.args.body (Among c.args.search c.args.mark c.args.body (record c.args.among.now { children = c.in-Some.next.1 })) c.then.ensures
    (rw (c.in_ok-push-in-Some.ensures) (first_candidate classes c.args.self.now c.args.search c.args.mark c.args.body c.args.among.now (record c.args.among.now { children = c.in-Some.next.1 }) c.in-Some.next.0 c.in-Some.ensures.found))

pub returns-in_ok-push-in-Some-clause-typed : goal.returns-in_ok-push-in-Some-clause-typed
returns-in_ok-push-in-Some-clause-typed c = λ r a h. put_typed r a _ (record c.args.self.now { bound = c.push.new.self }) _ c.args.body (Among c.args.search c.args.mark c.args.body (record c.args.among.now { children = c.in-Some.next.1 })) c.then.ensures
    (candidate_enters r a c.args.self.now c.args.search c.args.mark c.args.body c.args.among.now (record c.args.among.now { children = c.in-Some.next.1 }) c.in-Some.next.0 c.push.new.self c.in-Some.ensures.found c.requires.idle_store c.in_ok-push-in-Some.ensures h)

pub returns-in-None-clause-typed : goal.returns-in-None-clause-typed
returns-in-None-clause-typed c = λ r a h. comes_to r a c.args.self.now (fold_of c.args.search) c.args.body.now r.classes (body_view c.args.body.now) (place_of c.args.self.now) (value_view c.come_to.result)
    (subst (λ ns. GoesOver r a c.args.self.now (fold_of c.args.search) c.args.body.now ns) c.in-None.ensures.none h) (let e = c.come_to.ensures r.classes (body_view c.args.body.now) (place_of c.args.self.now) in rw c.fold.ensures at e)
