use Rattle.std.proofs.Common.{ℕ, List, ◌++◌, ◌∷◌, [], ◌∙◌, ap}
use Rattle.at_model.specs.Run.{Instance}
use Rattle.at_demand.proofs.demand.solving.used_kept.Goals as goal

pub returns-clause-kept : goal.returns-clause-kept
returns-clause-kept c =
    c.in_ok-push.ensures.items ∙ ap (λ (l : List (Instance ℕ)). l ++ c.in_ok-used.used ∷ []) c.new-demanded.ensures.kept
    ∙ ap (λ (i : Instance ℕ). i ∷ []) c.in_ok-used.ensures
