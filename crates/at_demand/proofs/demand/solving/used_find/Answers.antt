use Rattle.std.proofs.Common.{ℕ, List, ◌++◌, ◌∷◌, [], ◌∙◌, ap}
use Rattle.at_demand.proofs.demand.solving.used_find.Goals as goal

pub returns-clause-finds : goal.returns-clause-finds
returns-clause-finds c = c.in_ok-push.ensures.items ∙ ap (λ (l : List ℕ). l ++ c.args.position ∷ []) c.new-demanded.ensures.finds
