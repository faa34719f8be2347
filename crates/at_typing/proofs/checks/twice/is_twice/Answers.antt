use Rattle.std.proofs.Common.{sym, ap, ◌∙◌}
use Rattle.std.specs.Prelude.{◌||◌}
use Rattle.at_typing.specs.Declaring.{binds_twice}
use Rattle.at_typing.specs.Numbering.{numbered_view}
use Rattle.at_typing.proofs.checks.twice.is_twice.Goals as goal

pub returns-then-clashes : goal.returns-then-clashes
returns-then-clashes c = λ ds are among. sym (ap (λ b. b || binds_twice (numbered_view c.args.numbered.now).decl.form) (sym (c.clashes.ensures ds are among) ∙ c.if-clashes.true))

pub returns : goal.returns
returns c = λ ds are among. c.in_ok-binds.ensures ∙ sym (ap (λ b. b || binds_twice (numbered_view c.args.numbered.now).decl.form) (sym (c.clashes.ensures ds are among) ∙ c.if-clashes.false))
