use Rattle.std.proofs.Common.{sym, ◌∙◌}
use Rattle.at_store.specs.Shown.{contents}
use Rattle.at_body.specs.Typed.{class_shown}
use Rattle.at_body.proofs.trial.Trial.begin.Goals as goal

pub climb-requires-clause-inherited : goal.climb-requires-clause-inherited
climb-requires-clause-inherited c = sym c.is_inherited.ensures ∙ c.if-is_inherited.true

pub climb-requires-clause-typed : goal.climb-requires-clause-typed
climb-requires-clause-typed c = (c.args.class, c.requires.typed)

pub climb-requires-clause-above : goal.climb-requires-clause-above
climb-requires-clause-above c = c.requires.typed.above (sym c.is_inherited.ensures ∙ c.if-is_inherited.true)

pub own-requires-clause-there : goal.own-requires-clause-there
own-requires-clause-there c = c.requires.typed.own (sym c.is_inherited.ensures ∙ c.if-is_inherited.false)

pub returns-clause-equation : goal.returns-clause-equation
returns-clause-equation c = c.own.ensures.equation (class_shown c.args.store.now) (contents c.args.store.now) c.requires.formed c.requires.typed
