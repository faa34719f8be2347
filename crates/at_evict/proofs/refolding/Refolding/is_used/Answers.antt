use Rattle.at_evict.proofs.Common.{inl, inr}
use Rattle.at_evict.proofs.refolding.Refolding.is_used.Goals as goal

pub returns-then-target-slot : goal.returns-then-target-slot
returns-then-target-slot c t = inl c.if-target-slot.true

pub returns : goal.returns
returns c t = inr (c.is_in.ensures t)
