use Rattle.at_index.proofs.Common.{◌≡◌, ◌∷◌, [], IfSome, subst}
use Rattle.at_index.proofs.edge.Edges.only.Goals as goal

pub returns-in-Some : goal.returns-in-Some
returns-in-Some c = subst (λ es. IfSome c.only.result (λ edge. es ≡ edge ∷ [])) c.in-Some.ensures c.only.ensures
