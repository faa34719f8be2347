use Rattle.std.proofs.Common.{refl}
use Rattle.at_store.specs.Shown.{contents}
use Rattle.at_model.specs.Bodies.{passed}
use Rattle.at_body.specs.Values.{value_view}
use Rattle.at_body.specs.Typed.{ComesTo}
use Rattle.at_body.proofs.Uses.{followed, kept}
use Rattle.at_body.proofs.of_typing.TypedSteps.{told_still}
use Rattle.at_body.proofs.trial.Trial.unary.Goals as goal

pub returns-in-Child-clause-same : goal.returns-in-Child-clause-same
returns-in-Child-clause-same c = let h = rw c.node-in-Child.ensures at c.child.ensures.same c.args.rules.now.classes in rw c.in-Child.is h

pub returns-in-Count-clause-same : goal.returns-in-Count-clause-same
returns-in-Count-clause-same c = let h = rw c.node-in-Count.ensures at c.count.ensures.same c.args.rules.now.classes in rw c.in-Count.is h

pub returns-in-Has-clause-same : goal.returns-in-Has-clause-same
returns-in-Has-clause-same c = let h = rw c.node-in-Has.ensures at c.has.ensures.same c.args.rules.now.classes in rw c.in-Has.is h

pub returns-in-Token-clause-same : goal.returns-in-Token-clause-same
returns-in-Token-clause-same c = let h = rw c.node-in-Token.ensures at c.token.ensures.same c.args.rules.now.classes in rw c.in-Token.is h

pub returns-in-Passed-clause-same : goal.returns-in-Passed-clause-same
returns-in-Passed-clause-same c = rw c.in-Passed.is (followed c.args.rules.now.classes (contents c.args.store.now) _ _ _ _ c.args.self.now refl (c.passed.ensures.same c.args.rules.now.classes c.args.self.now) (kept _ _))

pub returns-in-Passed-clause-less : goal.returns-in-Passed-clause-less
returns-in-Passed-clause-less c = c.passed.ensures.less c.args.self.now

pub returns-in-Passed-clause-told : goal.returns-in-Passed-clause-told
returns-in-Passed-clause-told c = rw c.in-Passed.is (told_still c.args.self.now c.passed.result (ComesTo (contents c.args.store.now) (passed (value_view c.args.value.now))) (c.passed.ensures.told (contents c.args.store.now)))
