use Rattle.at_store.specs.Shown.{contents}
use Rattle.at_rules.specs.Bodies.{body_view}
use Rattle.at_body.proofs.Uses.{elements_in}
use Rattle.at_body.proofs.of_typing.TypedSteps.{elements_seen}
use Rattle.at_body.proofs.trial.Trial.elements.Goals as goal

pub returns-in_ok-push-in-Some-clause-same : goal.returns-in_ok-push-in-Some-clause-same
returns-in_ok-push-in-Some-clause-same c = λ classes. rw c.in-Some.is (elements_in classes (contents c.args.store.now) c.next_element.result c.args.self.now c.next_element.new.self c.args.fold (body_view c.args.body.now) c.args.part c.in-Some.node c.children.result.now c.push.new.self c.in_ok-push-in-Some.ensures.gained c.children.ensures.children (c.next_element.ensures.same classes) c.next_element.ensures.reads)

pub returns-in_ok-push-in-Some-clause-typed : goal.returns-in_ok-push-in-Some-clause-typed
returns-in_ok-push-in-Some-clause-typed c = λ r a o h. c.next_element.ensures.typed r a (elements_seen r a (contents c.args.store.now) o c.args.self.now c.args.fold c.args.part c.args.body.now c.in-Some.node c.args.node c.children.result.now c.push.new.self c.in-Some.is c.children.ensures.children h)
