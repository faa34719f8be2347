use Rattle.at_body.specs.Values.{value_view}
use Rattle.std.proofs.Common.{true}
use Rattle.at_body.proofs.of_typing.TypedFolds.{decides_true, decides_here, sum_goes}
use Rattle.at_body.proofs.trial.Trial.decide.Goals as goal

pub returns-in-Sum-clause-same : goal.returns-in-Sum-clause-same
returns-in-Sum-clause-same c = λ classes. let h = rw c.sum.ensures at c.next_element-in-Sum.ensures.same classes in rw c.in-Sum.is h

pub truth-requires : goal.truth-requires
truth-requires c = rw c.in-Exists.is at c.requires.told

pub truth-requires-in-First : goal.truth-requires-in-First
truth-requires-in-First c = rw c.in-First.is at c.requires.told

pub sum-requires : goal.sum-requires
sum-requires c = rw c.in-Sum.is at c.requires.told

pub returns-then-truth-clause-typed : goal.returns-then-truth-clause-typed
returns-then-truth-clause-typed c = λ r a h. let x = rw c.in-Exists.is at h in decides_true r a c.args.self.now c.args.body.now c.args.node c.args.others.now (value_view c.args.value.now) true x

pub returns-else-truth-clause-typed : goal.returns-else-truth-clause-typed
returns-else-truth-clause-typed c = λ r a h. let x = rw c.in-Exists.is at h in c.next_element.ensures.typed r a x.goes

pub returns-then-truth-2-clause-typed : goal.returns-then-truth-2-clause-typed
returns-then-truth-2-clause-typed c = λ r a h. let x = rw c.in-First.is at h in decides_here r a c.args.self.now c.args.body.now c.args.node c.args.others.now (value_view c.args.value.now) x

pub returns-else-truth-2-clause-typed : goal.returns-else-truth-2-clause-typed
returns-else-truth-2-clause-typed c = λ r a h. let x = rw c.in-First.is at h in c.next_element-in-First.ensures.typed r a x.goes

pub returns-in-Sum-clause-typed : goal.returns-in-Sum-clause-typed
returns-in-Sum-clause-typed c = λ r a h. let x = rw c.in-Sum.is at h in c.next_element-in-Sum.ensures.typed r a (sum_goes r a c.args.self.now c.in-Sum.total c.sum.result c.args.body.now c.args.node c.args.others.now (value_view c.args.value.now) x c.sum.ensures)
