use Rattle.at_store.specs.Shown.{contents}
use Rattle.std.proofs.Common.{◌+◌, ◌<◌, refl, arith, subst, IfOk}
use Rattle.at_body.specs.declared.todo.Todo.TheVariants.{Arguments}
use Rattle.at_body.specs.declared.trial.Trial.{Trial}
use Rattle.at_body.specs.Calling.{IsReceiver}
use Rattle.at_body.specs.Rest.{load, weight}
use Rattle.at_body.specs.Size.{size, sizes}
use Rattle.at_rules.specs.Bodies.{body_view, bodies_view}
use Rattle.at_body.proofs.Uses.{receiver_seen, puts}
use Rattle.at_body.proofs.Entering.{Put, lighter, below_more}
use Rattle.at_body.proofs.of_typing.TypedParts.{put_typed}
use Rattle.at_body.proofs.of_typing.TypedSteps.{receiver_called}
use Rattle.at_body.proofs.trial.Trial.call.Goals as goal

pub returns-in-Some-clause-same : goal.returns-in-Some-clause-same
returns-in-Some-clause-same c = λ classes.
    let near = subst (IsReceiver (contents c.args.store.now) (body_view c.args.receiver.now) c.args.self.now c.receiver.new.self) c.in-Some.is c.in_ok-near.ensures in
    receiver_seen classes (contents c.args.store.now) c.call_at.result c.args.self.now c.receiver.new.self c.call_at.new.self (body_view c.args.receiver.now) c.in-Some.node c.args.attribute c.args.arguments near
    (c.call_at.ensures.same classes) c.call_at.ensures.reads

pub returns-in-None-clause-same : goal.returns-in-None-clause-same
returns-in-None-clause-same c = λ classes.
    let same = subst (IsReceiver (contents c.args.store.now) (body_view c.args.receiver.now) c.args.self.now c.receiver.new.self) c.in-None.is c.in_ok-near.ensures in
    let put = subst (λ (t : Trial). Put c.then.result t c.then.new.self c.args.receiver (Arguments c.args.attribute c.args.arguments)) same c.then.ensures in
    puts classes (contents c.args.store.now) _ c.args.self.now _ _ c.args.receiver (Arguments c.args.attribute c.args.arguments) put refl

pub returns-in-Some-clause-less : goal.returns-in-Some-clause-less
returns-in-Some-clause-less c =
    let near = subst (IsReceiver (contents c.args.store.now) (body_view c.args.receiver.now) c.args.self.now c.receiver.new.self) c.in-Some.is c.in_ok-near.ensures in
    let less = subst (λ (t : Trial). IfOk c.call_at.result (λ now. weight now c.call_at.new.self < sizes (bodies_view c.args.arguments.now) + 2 + load t.todo)) near.1 c.call_at.ensures.less in
    below_more _ _ (load c.args.self.now.todo) (sizes (bodies_view c.args.arguments.now) + 2) (size (body_view c.args.receiver.now) + sizes (bodies_view c.args.arguments.now) + 3) less (omega arith)

pub returns-in-None-clause-less : goal.returns-in-None-clause-less
returns-in-None-clause-less c =
    let same = subst (IsReceiver (contents c.args.store.now) (body_view c.args.receiver.now) c.args.self.now c.receiver.new.self) c.in-None.is c.in_ok-near.ensures in
    let put = subst (λ (t : Trial). Put c.then.result t c.then.new.self c.args.receiver (Arguments c.args.attribute c.args.arguments)) same c.then.ensures in
    lighter _ c.args.self.now _ (size (body_view c.args.receiver.now) + sizes (bodies_view c.args.arguments.now) + 3) c.args.receiver (Arguments c.args.attribute c.args.arguments) put (omega arith)

pub returns-in-Some-clause-typed : goal.returns-in-Some-clause-typed
returns-in-Some-clause-typed c = λ r a o h.
    let near = subst (IsReceiver (contents c.args.store.now) (body_view c.args.receiver.now) c.args.self.now c.receiver.new.self) c.in-Some.is c.in_ok-near.ensures in
    c.call_at.ensures.typed r a (contents c.args.store.now) o (receiver_called r a (contents c.args.store.now) o c.args.self.now c.receiver.new.self c.args.receiver.now c.in-Some.node c.args.attribute c.args.arguments near h)

pub returns-in-None-clause-typed : goal.returns-in-None-clause-typed
returns-in-None-clause-typed c = λ r a o h.
    let same = subst (IsReceiver (contents c.args.store.now) (body_view c.args.receiver.now) c.args.self.now c.receiver.new.self) c.in-None.is c.in_ok-near.ensures in
    let put = subst (λ (t : Trial). Put c.then.result t c.then.new.self c.args.receiver (Arguments c.args.attribute c.args.arguments)) same c.then.ensures in
    put_typed r a _ c.args.self.now _ c.args.receiver (Arguments c.args.attribute c.args.arguments) put h
