use Rattle.std.proofs.Common.{refl}
use Rattle.at_rules.specs.Bodies.{bodies_view}
use Rattle.at_body.specs.Size.{sizes}
use Rattle.at_body.proofs.HandedOn.{handed, handed_less}
use Rattle.at_body.proofs.of_typing.TypedAnswers.{handed_on}
use Rattle.at_body.proofs.Uses.{kept}
use Rattle.at_body.proofs.trial.Trial.call_at.Goals as goal

pub returns-then-hands_on-clause-same : goal.returns-then-hands_on-clause-same
returns-then-hands_on-clause-same c = λ classes. handed classes c.handed_on.result c.args.self.now c.args.attribute c.args.node (bodies_view c.args.arguments.now) (c.if-hands_on.ensures refl classes) c.handed_on.ensures

pub returns-then-hands_on-clause-less : goal.returns-then-hands_on-clause-less
returns-then-hands_on-clause-less c = handed_less c.handed_on.result c.args.self.now c.args.attribute c.args.node (sizes (bodies_view c.args.arguments.now)) c.handed_on.ensures

pub returns-then-hands_on-clause-reads : goal.returns-then-hands_on-clause-reads
returns-then-hands_on-clause-reads c = kept c.handed_on.result c.args.self.now.reads

pub returns-then-hands_on-clause-typed : goal.returns-then-hands_on-clause-typed
returns-then-hands_on-clause-typed c = λ r a look o h. handed_on r a look o c.handed_on.result c.args.self.now c.args.attribute c.args.node (bodies_view c.args.arguments.now) (c.if-hands_on.ensures refl r.classes) c.handed_on.ensures h

pub returns-clause-typed : goal.returns-clause-typed
returns-clause-typed c = λ r a look o h. c.first_argument.ensures.typed r a h
