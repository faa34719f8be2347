use Rattle.std.proofs.Common.{◌≡◌}
use Rattle.at_model.specs.Run.{Ref}
use Rattle.at_rules.specs.Bodies.{bodies_view}
use Rattle.at_body.proofs.FormRuns.{argument_passed}
use Rattle.at_body.proofs.forming.Forming.pass.Goals as goal

pub returns-clause-does : goal.returns-clause-does
returns-clause-does c = rw (← c.deref_mut.ensures.value) (argument_passed c.next_argument.result _ c.args.self.now _
    c.deref_mut.result.now.attribute (Ref c.deref_mut.result.now.node) c.args.value c.deref_mut.result.now.done.items
    c.push.new.self.items (bodies_view c.args.others.now) c.in_ok-push.ensures.items c.next_argument.ensures.does)
