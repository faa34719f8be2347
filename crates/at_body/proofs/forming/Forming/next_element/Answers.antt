use Rattle.std.proofs.Common.{◌≡◌, subst, not}
use Rattle.at_body.specs.TypedForms.{GoesOver}
use Rattle.at_body.proofs.FormRuns.{element_shape}
use Rattle.at_body.proofs.FormKinds.{element_forms, known_typed}
use Rattle.at_body.proofs.forming.Forming.next_element.Goals as goal

pub returns-in_ok-push-in-Some-2-clause-same : goal.returns-in_ok-push-in-Some-2-clause-same
returns-in_ok-push-in-Some-2-clause-same c = λ rules. rw (c.in-Some.ensures.cases.0, c.in_ok-push-in-Some.ensures, c.in_ok-push-in-Some-2.ensures) (element_shape rules c.args.self.now c.args.positive c.args.body c.in-Some.node.now c.in-Some.others)

pub returns-in_ok-push-in-Some-2-clause-typed : goal.returns-in_ok-push-in-Some-2-clause-typed
returns-in_ok-push-in-Some-2-clause-typed c = λ rules at look h. rw (c.in_ok-push-in-Some.ensures, c.in_ok-push-in-Some-2.ensures)
    (element_forms rules at c.args.self.now c.args.positive c.args.body c.in-Some.node.now c.in-Some.others (subst (GoesOver rules at c.args.self.now c.args.body.now) c.in-Some.ensures.cases.0 h))

pub returns-in-None-clause-typed : goal.returns-in-None-clause-typed
returns-in-None-clause-typed c = λ rules at look h. known_typed rules at look c.known.result c.args.self.now _ h.kinds (not c.args.positive) h.stands c.known.ensures
