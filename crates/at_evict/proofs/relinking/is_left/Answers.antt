use Rattle.at_evict.proofs.Common.{ℕ, Contains, subst, Stays}
use Rattle.at_evict.proofs.relinking.is_left.Goals as goal

pub returns-clause-stay : goal.returns-clause-stay
returns-clause-stay c there into lone t = subst (λ xs. (p : ℕ) → Contains xs p → Stays into p) c.as_slice.ensures (c.are_at.ensures there into lone c.if-not-are_at.false)

pub returns-clause-alone : goal.returns-clause-alone
returns-clause-alone c there into lone t = c.has_all.ensures there into lone t
