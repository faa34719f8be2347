use Rattle.at_evict.proofs.Common.{◌∙◌, Contains, subst, sym}
use Rattle.at_evict.proofs.of_folding.Gathering.{is_one}
use Rattle.at_evict.proofs.refolding.Refolding.is_user.Goals as goal

pub returns-clause-current : goal.returns-clause-current
returns-clause-current c t = sym c.is_current.ensures ∙ c.if-not-is_current.false

pub returns-clause-folded : goal.returns-clause-folded
returns-clause-folded c t = subst (λ xs. Contains xs c.args.target) c.slots_at.ensures (is_one _ c.args.target (sym c.has.ensures ∙ t))
