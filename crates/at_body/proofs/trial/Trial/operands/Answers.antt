use Rattle.at_store.specs.Shown.{contents}
use Rattle.std.proofs.Common.{◌+◌, refl, ap, arith}
use Rattle.at_model.specs.Run.{◌>>=◌}
use Rattle.at_body.specs.declared.todo.Todo.TheVariants.{Right}
use Rattle.at_body.specs.Rest.{load, used}
use Rattle.at_body.proofs.Uses.{instead, puts}
use Rattle.at_body.specs.Size.{size}
use Rattle.at_rules.specs.Bodies.{body_view}
use Rattle.at_body.proofs.Entering.{lighter, below_more}
use Rattle.at_body.specs.Values.{value_view}
use Rattle.at_body.proofs.of_typing.TypedSteps.{hand_uses}
use Rattle.at_body.proofs.of_typing.TypedParts.{put_typed}
use Rattle.at_body.proofs.trial.Trial.operands.Goals as goal

pub returns-in-Some-clause-same : goal.returns-in-Some-clause-same
returns-in-Some-clause-same c = λ classes. instead classes (contents c.args.store.now) _ _ _ _ _ (ap (λ r. r >>= used classes (Right c.args.binary c.args.right) c.args.self.now) (c.in-Some.ensures classes)) (c.right_operand.ensures.same classes)

pub returns-in-None-clause-same : goal.returns-in-None-clause-same
returns-in-None-clause-same c = λ classes. puts classes (contents c.args.store.now) _ c.args.self.now _ _ c.args.left (Right c.args.binary c.args.right) c.then.ensures refl

pub returns-in-Some-clause-less : goal.returns-in-Some-clause-less
returns-in-Some-clause-less c = below_more _ _ (load c.args.self.now.todo) (size (body_view c.args.right.now) + 2) (size (body_view c.args.left.now) + size (body_view c.args.right.now) + 3) c.right_operand.ensures.less (omega arith)

pub returns-in-None-clause-less : goal.returns-in-None-clause-less
returns-in-None-clause-less c = lighter _ c.args.self.now _ (size (body_view c.args.left.now) + size (body_view c.args.right.now) + 3) c.args.left (Right c.args.binary c.args.right) c.then.ensures (omega arith)

pub right_operand-requires-clause-typed : goal.right_operand-requires-clause-typed
right_operand-requires-clause-typed c = let (r, a, o, h) = c.requires.typed in (r, a, o, hand_uses r a (contents c.args.store.now) o c.args.self.now (Right c.args.binary c.args.right) c.args.left.now (value_view c.in-Some.value) h (c.in-Some.ensures r.classes))

pub returns-in-Some-clause-typed : goal.returns-in-Some-clause-typed
returns-in-Some-clause-typed c = λ r a o h. c.right_operand.ensures.typed r a o (hand_uses r a (contents c.args.store.now) o c.args.self.now (Right c.args.binary c.args.right) c.args.left.now (value_view c.in-Some.value) h (c.in-Some.ensures r.classes))

pub returns-in-None-clause-typed : goal.returns-in-None-clause-typed
returns-in-None-clause-typed c = λ r a o h. put_typed r a _ c.args.self.now _ c.args.left (Right c.args.binary c.args.right) c.then.ensures h
