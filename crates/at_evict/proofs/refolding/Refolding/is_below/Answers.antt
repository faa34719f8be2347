use Rattle.at_evict.proofs.Common.{◌∙◌, ℕ, Contains, inl, inr, subst, sym, into_of, is_told}
use Rattle.at_evict.proofs.of_folding.Gathering.{is_one}
use Rattle.at_evict.proofs.refolding.Refolding.is_below.Goals as goal

pub returns-then-is_at : goal.returns-then-is_at
returns-then-is_at c t = let f = c.args.self.now in inl (c.is_at.ensures (is_told f) (into_of f) f.alone c.if-is_at.true)

pub returns-then-does_stay : goal.returns-then-does_stay
returns-then-does_stay c t = inl (is_one _ _ (sym c.does_stay.ensures ∙ c.if-does_stay.true))

pub returns : goal.returns
returns c t = inr (subst (λ xs. (r : ℕ) → Contains c.args.targets.now r → Contains xs r) c.slots_at.ensures (c.are_among.ensures t))
