use Rattle.std.proofs.Common.{arith, sym, ◌∙◌, ◌-◌, length}
use Rattle.at_kinds.proofs.Accessing.{before_end, not_before}
use Rattle.at_kinds.proofs.accessors.without_end.Goals as goal

pub returns-then-eq : goal.returns-then-eq
returns-then-eq c = before_end c.args.name.now c.args.end.now _ _ (length c.args.name.now - length c.args.end.now)
    (omega arith) c.split_at.ensures.front c.split_at.ensures.back (sym c.eq.ensures ∙ c.if-eq.true)

pub returns-else-eq : goal.returns-else-eq
returns-else-eq c = not_before c.args.name.now c.args.end.now _ (length c.args.name.now - length c.args.end.now) (omega arith) c.split_at.ensures.back (sym c.eq.ensures ∙ c.if-eq.false)
