use Rattle.at_store.specs.Shown.{contents}
use Rattle.std.proofs.Common.{◌∙◌, arith}
use Rattle.at_body.specs.Typed.{class_shown}
use Rattle.at_body.specs.Values.{value_view}
use Rattle.at_model.proofs.Chained.{chained}
use Rattle.at_body.proofs.of_typing.TypedUses.{taken}
use Rattle.at_body.proofs.trial.Trial.advance.Goals as goal

pub returns-in-Fail-clause-found : goal.returns-in-Fail-clause-found
returns-in-Fail-clause-found c = rw c.in-Fail.is at c.loop-now.invariant.same

pub returns-in-Ask-clause-found : goal.returns-in-Ask-clause-found
returns-in-Ask-clause-found c = rw c.in-Ask.is at c.loop-now.invariant.same ∙ c.asked.ensures.same (contents c.args.store.now) c.loop-now.self.reads c.args.rules.now.classes c.loop-now.self

pub returns-in-Ask-clause-less : goal.returns-in-Ask-clause-less
returns-in-Ask-clause-less c = let h = rw c.in-Ask.is at c.loop-now.invariant.less in omega (arith, c.asked.ensures.less c.loop-now.self, h)

pub enter-requires-clause-typed : goal.enter-requires-clause-typed
enter-requires-clause-typed c = rw c.in-Enter.is at c.loop-now.invariant.typed

pub back-requires-clause-typed : goal.back-requires-clause-typed
back-requires-clause-typed c = let h = rw c.in-Back.is at c.loop-now.invariant.typed in taken c.args.rules.now (class_shown c.args.store.now) (chained c.args.rules.now.classes c.requires.over.hierarchy) c.loop-now.self (value_view c.in-Back.value) c.in-Some.todo c.pop.new.self c.in-Some.ensures.taken h

pub returns-in-Ask-clause-typed : goal.returns-in-Ask-clause-typed
returns-in-Ask-clause-typed c = let h = rw c.in-Ask.is at c.loop-now.invariant.typed in c.asked.ensures.typed c.args.rules.now (class_shown c.args.store.now) c.loop-now.self c.requires.over.hierarchy h
