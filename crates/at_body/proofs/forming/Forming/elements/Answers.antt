use Rattle.std.proofs.Common.{◌≡◌}
use Rattle.at_rules.specs.Bodies.{body_view}
use Rattle.at_store.specs.Shown.{contents}
use Rattle.at_body.specs.declared.trial.Trial.{Trial}
use Rattle.at_body.proofs.FormRuns.{elements_gone}
use Rattle.at_body.proofs.FormKinds.{elements_seen}
use Rattle.at_body.proofs.forming.Forming.elements.Goals as goal

pub returns-in_ok-push-in-Some-clause-same : goal.returns-in_ok-push-in-Some-clause-same
returns-in_ok-push-in-Some-clause-same c = λ rules.
    let mid : Trial = record c.args.self.now.trial { reads = c.push.new.self } in
    rw c.in-Some.is (elements_gone rules (contents c.args.store.now) c.next_element.result c.args.self.now c.next_element.new.self c.args.positive (body_view c.args.body.now) c.args.part c.in-Some.node c.children.result.now mid c.in_ok-push-in-Some.ensures.gained c.children.ensures.children (c.next_element.ensures.same rules) c.next_element.ensures.reads)

pub returns-in_ok-push-in-Some-clause-typed : goal.returns-in_ok-push-in-Some-clause-typed
returns-in_ok-push-in-Some-clause-typed c = λ rules at over h.
    let mid : Trial = record c.args.self.now.trial { reads = c.push.new.self } in
    c.next_element.ensures.typed rules at (contents c.args.store.now) (elements_seen rules at (contents c.args.store.now) over c.args.self.now c.args.part c.args.body.now c.in-Some.node c.args.node c.children.result.now mid c.in-Some.is c.children.ensures.children h)
