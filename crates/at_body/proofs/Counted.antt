-- How many formulas pieces are those of.
use Rattle.std.proofs.Common.{◌≡◌, ℕ, ◌+◌, ◌<◌, List, [], ◌∷◌, ◌++◌, get_or, length, take, ap, sym, ◌∙◌}
use Rattle.std.proofs.lemmas.List.{take_more}
use Rattle.at_model.specs.of_fixpoints.Formulas.{Formula}
use Rattle.at_body.specs.declared.formula.Piece.{Piece}
use Rattle.at_body.specs.Pieces.{piled, stacked}
use Rattle.at_body.proofs.Piled.{one_more}

-- one piece more was counted
pub one_counted : (ps : List Piece) (n count more : ℕ) (p : Piece) → n < length ps → p ≡ get_or ps n p → length (stacked [] (take n ps)) ≡ count →
    ((fs : List (Formula ℕ)) → length fs ≡ count → length (piled p fs) ≡ more) → length (stacked [] (take (n + 1) ps)) ≡ more
one_counted ps n count more p less is before grown =
    ap (λ qs. length (stacked [] qs)) (take_more ps n p less) ∙ ap (λ q. length (stacked [] (take n ps ++ q ∷ []))) (sym is)
    ∙ ap length (one_more [] (take n ps) p) ∙ grown (stacked [] (take n ps)) before
