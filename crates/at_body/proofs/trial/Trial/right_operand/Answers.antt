use Rattle.std.proofs.Common.{◌+◌, arith, refl}
use Rattle.at_body.specs.Rest.{load}
use Rattle.at_body.specs.Size.{size}
use Rattle.at_rules.specs.Bodies.{body_view}
use Rattle.at_body.proofs.Entering.{settles}
use Rattle.at_store.specs.Shown.{contents}
use Rattle.at_body.specs.Values.{value_view}
use Rattle.at_model.specs.Run.{Int}
use Rattle.at_body.proofs.of_typing.TypedAnswers.{operands_fit}
use Rattle.at_body.proofs.of_typing.TypedSteps.{hand_operates, operates_told}
use Rattle.at_body.proofs.trial.Trial.right_operand.Goals as goal

pub returns-in-Int-clause-same : goal.returns-in-Int-clause-same
returns-in-Int-clause-same c = λ classes. rw c.in-Int.is (c.with_int.ensures.same classes)

pub returns-in-Int-clause-less : goal.returns-in-Int-clause-less
returns-in-Int-clause-less c = settles _ _ (load c.args.self.now.todo) (size (body_view c.args.right.now) + 2) c.with_int.ensures.less (omega arith)

pub with_int-requires-clause-operands : goal.with_int-requires-clause-operands
with_int-requires-clause-operands c = let (r, a, o, h) = c.requires.typed in operands_fit r a c.args.self.now c.args.binary (value_view c.args.left) (Int c.in-Int.n) (hand_operates r a (contents c.args.store.now) o c.args.self.now c.args.binary c.args.right c.args.left (Int c.in-Int.n) h (rw c.in-Int.is refl))

pub returns-in-Int-clause-typed : goal.returns-in-Int-clause-typed
returns-in-Int-clause-typed c = λ r a o h. operates_told r a (contents c.args.store.now) o c.args.self.now _ c.args.binary (value_view c.args.left) (Int c.in-Int.n) _ (hand_operates r a (contents c.args.store.now) o c.args.self.now c.args.binary c.args.right c.args.left (Int c.in-Int.n) h (rw c.in-Int.is refl)) c.with_int.ensures.told
