use Rattle.at_store.specs.Shown.{contents}
use Rattle.std.proofs.Common.{◌+◌, ap, arith}
use Rattle.at_model.specs.Run.{◌>>=◌}
use Rattle.at_body.specs.declared.todo.Todo.TheVariants.{Apply}
use Rattle.at_body.specs.Rest.{load, resumed, with_two}
use Rattle.at_body.specs.Values.{value_view}
use Rattle.at_body.proofs.Uses.{instead, puts, right_shape}
use Rattle.at_body.specs.Size.{size}
use Rattle.at_rules.specs.Bodies.{body_view}
use Rattle.at_body.proofs.Entering.{lighter, settles}
use Rattle.at_body.proofs.of_typing.TypedAnswers.{operands_fit}
use Rattle.at_body.proofs.of_typing.TypedUses.{right_follows}
use Rattle.at_body.proofs.of_typing.TypedParts.{put_typed}
use Rattle.at_body.proofs.of_typing.TypedSteps.{hand_operates, operates_told}
use Rattle.at_body.proofs.trial.Trial.right_value.Goals as goal

pub returns-in-Some-clause-same : goal.returns-in-Some-clause-same
returns-in-Some-clause-same c = λ classes. instead classes (contents c.args.store.now) _ _ _ _ _ (ap (λ r. (r >>= with_two c.args.binary (value_view c.args.left)) >>= resumed classes c.args.self.now) (c.in-Some.ensures classes)) (c.binary.ensures.same classes)

pub returns-in-None-clause-same : goal.returns-in-None-clause-same
returns-in-None-clause-same c = λ classes. puts classes (contents c.args.store.now) _ c.args.self.now _ _ c.args.right (Apply c.args.binary c.args.left) c.then.ensures (right_shape classes c.args.self.now c.args.binary c.args.right c.args.left)

pub returns-in-Some-clause-less : goal.returns-in-Some-clause-less
returns-in-Some-clause-less c = settles _ _ (load c.args.self.now.todo) (size (body_view c.args.right.now) + 2) c.binary.ensures.less (omega arith)

pub returns-in-None-clause-less : goal.returns-in-None-clause-less
returns-in-None-clause-less c = lighter _ c.args.self.now _ (size (body_view c.args.right.now) + 2) c.args.right (Apply c.args.binary c.args.left) c.then.ensures (omega arith)

pub binary-requires-clause-operands : goal.binary-requires-clause-operands
binary-requires-clause-operands c = let (r, a, o, h) = c.requires.typed in operands_fit r a c.args.self.now c.args.binary (value_view c.args.left) (value_view c.in-Some.value) (hand_operates r a (contents c.args.store.now) o c.args.self.now c.args.binary c.args.right c.args.left (value_view c.in-Some.value) h (c.in-Some.ensures r.classes))

pub returns-in-Some-clause-typed : goal.returns-in-Some-clause-typed
returns-in-Some-clause-typed c = λ r a o h. operates_told r a (contents c.args.store.now) o c.args.self.now _ c.args.binary (value_view c.args.left) (value_view c.in-Some.value) _ (hand_operates r a (contents c.args.store.now) o c.args.self.now c.args.binary c.args.right c.args.left (value_view c.in-Some.value) h (c.in-Some.ensures r.classes)) c.binary.ensures.told

pub returns-in-None-clause-typed : goal.returns-in-None-clause-typed
returns-in-None-clause-typed c = λ r a o h. put_typed r a _ c.args.self.now _ c.args.right (Apply c.args.binary c.args.left) c.then.ensures (right_follows r a c.args.self.now c.args.binary c.args.right c.args.left h)
