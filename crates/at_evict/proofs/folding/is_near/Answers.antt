use Rattle.at_evict.proofs.Common.{◌∙◌, Contains, List, ℕ, subst, sym, Contains-append_right}
use Rattle.at_evict.proofs.of_folding.Gathering.{is_one}
use Rattle.at_evict.proofs.folding.is_near.Goals as goal

pub returns : goal.returns
returns c h = subst (λ (ys : List ℕ). Contains ys c.args.slot) (sym c.split_at.ensures.by_index.0)
    (Contains-append_right _ _ c.args.slot (is_one _ c.args.slot (sym c.has.ensures ∙ h)))
