use Rattle.at_evict.proofs.Common.{◌≡◌, ◌⊎◌, ℕ, Contains, subst, take_all, edges_in, HasUser, into_of, is_told, none_in}
use Rattle.at_evict.proofs.of_folding.Walking.{all_more}
use Rattle.at_evict.proofs.refolding.Refolding.are_used.Goals as goal

pub loop-target-init : goal.loop-target-init
loop-target-init c r h = absurd (none_in r h)

pub loop-target-preserved : goal.loop-target-preserved
loop-target-preserved c =
    all_more (λ r. (r ≡ c.args.slot) ⊎ HasUser (is_told c.args.self.now) (into_of c.args.self.now) (edges_in c.args.users.now) r)
    c.args.targets.now c.loop-target.target-index 0 c.loop-target-test.true c.loop-target.invariant (c.is_used.ensures c.if-not-is_used.false)

pub returns : goal.returns
returns c t = subst (λ xs. (r : ℕ) → Contains xs r
    → (r ≡ c.args.slot) ⊎ HasUser (is_told c.args.self.now) (into_of c.args.self.now) (edges_in c.args.users.now) r)
    (take_all c.loop-target.target-index c.args.targets.now c.loop-target-test.false) c.loop-target.invariant
