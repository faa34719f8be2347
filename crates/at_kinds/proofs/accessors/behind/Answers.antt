use Rattle.std.proofs.Common.{arith, sym, ◌∙◌}
use Rattle.at_kinds.proofs.Accessing.{behind_front, not_behind}
use Rattle.at_kinds.proofs.accessors.behind.Goals as goal

pub returns-then-eq : goal.returns-then-eq
returns-then-eq c = behind_front c.args.name.now c.args.front.now _ _ (omega arith) c.split_at.ensures.front c.split_at.ensures.back (sym c.eq.ensures ∙ c.if-eq.true)

pub returns-else-eq : goal.returns-else-eq
returns-else-eq c = not_behind c.args.name.now c.args.front.now _ (omega arith) c.split_at.ensures.front (sym c.eq.ensures ∙ c.if-eq.false)
