use Rattle.at_store.specs.Shown.{contents}
use Rattle.std.proofs.Common.{◌+◌, refl, ap, arith}
use Rattle.at_model.specs.Run.{◌>>=◌}
use Rattle.at_body.specs.declared.todo.Todo.TheVariants.{Use}
use Rattle.at_body.specs.Rest.{load, used}
use Rattle.at_body.proofs.Uses.{instead, puts}
use Rattle.at_body.specs.Size.{size}
use Rattle.at_rules.specs.Bodies.{body_view}
use Rattle.at_body.proofs.Entering.{lighter, settles}
use Rattle.at_body.specs.Typed.{class_shown}
use Rattle.at_body.specs.Values.{value_view}
use Rattle.at_body.proofs.of_typing.TypedAnswers.{use_operand}
use Rattle.at_body.proofs.of_typing.TypedSteps.{hand_uses, use_told}
use Rattle.at_body.proofs.of_typing.TypedParts.{put_typed}
use Rattle.at_body.proofs.trial.Trial.operand.Goals as goal

pub returns-in-Some-clause-same : goal.returns-in-Some-clause-same
returns-in-Some-clause-same c = instead c.args.rules.now.classes (contents c.args.store.now) _ _ _ _ _ (ap (λ r. r >>= used c.args.rules.now.classes (Use c.args.unary) c.args.self.now) (c.in-Some.ensures c.args.rules.now.classes)) c.unary.ensures.same

pub returns-in-None-clause-same : goal.returns-in-None-clause-same
returns-in-None-clause-same c = puts c.args.rules.now.classes (contents c.args.store.now) _ c.args.self.now _ _ c.args.operand (Use c.args.unary) c.then.ensures refl

pub returns-in-Some-clause-less : goal.returns-in-Some-clause-less
returns-in-Some-clause-less c = settles _ _ (load c.args.self.now.todo) (size (body_view c.args.operand.now) + 2) c.unary.ensures.less (omega arith)

pub returns-in-None-clause-less : goal.returns-in-None-clause-less
returns-in-None-clause-less c = lighter _ c.args.self.now _ (size (body_view c.args.operand.now) + 2) c.args.operand (Use c.args.unary) c.then.ensures (omega arith)

pub unary-requires-clause-operand : goal.unary-requires-clause-operand
unary-requires-clause-operand c = use_operand c.args.rules.now (class_shown c.args.store.now) c.args.self.now c.args.unary (value_view c.in-Some.value) (hand_uses c.args.rules.now (class_shown c.args.store.now) (contents c.args.store.now) c.requires.over c.args.self.now (Use c.args.unary) c.args.operand.now (value_view c.in-Some.value) c.requires.typed (c.in-Some.ensures c.args.rules.now.classes))

pub returns-in-Some-clause-typed : goal.returns-in-Some-clause-typed
returns-in-Some-clause-typed c = use_told c.args.rules.now (class_shown c.args.store.now) (contents c.args.store.now) c.requires.over c.args.self.now _ c.args.unary (value_view c.in-Some.value) _ (hand_uses c.args.rules.now (class_shown c.args.store.now) (contents c.args.store.now) c.requires.over c.args.self.now (Use c.args.unary) c.args.operand.now (value_view c.in-Some.value) c.requires.typed (c.in-Some.ensures c.args.rules.now.classes)) c.unary.ensures.told

pub returns-in-None-clause-typed : goal.returns-in-None-clause-typed
returns-in-None-clause-typed c = put_typed c.args.rules.now (class_shown c.args.store.now) _ c.args.self.now _ c.args.operand (Use c.args.unary) c.then.ensures c.requires.typed
