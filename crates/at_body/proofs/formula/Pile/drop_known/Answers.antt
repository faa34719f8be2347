use Rattle.std.proofs.Common.{◌≡◌, ◌∷◌, [], ap, refl, subst, sym, ◌∙◌, true, List}
use Rattle.at_model.specs.Run.{Truth}
use Rattle.at_model.specs.of_fixpoints.Formulas.{Formula, Known, Asks, is_known_as}
use Rattle.at_body.specs.Pieces.{AreTwo, HasTop, combined, is_value, piled, put_together, stacked, top_of}
use Rattle.at_body.specs.Stacked.{below}
use Rattle.at_body.proofs.Piled.{lowered, popped}
use Rattle.at_body.proofs.formula.Pile.drop_known.Goals as goal

pub invariant_of-self : goal.invariant_of-self
invariant_of-self c =
    let top : HasTop (stacked [] c.self.inside.pieces.items) = subst HasTop (sym c.self.view_is) c.requires.top in
    let known : is_value (top_of (stacked [] c.self.inside.pieces.items)) ≡ true = ap (λ fs. is_value (top_of fs)) c.self.view_is ∙ c.requires.known in
    lowered (stacked [] c.self.inside.pieces.items) _ c.self.inside.surely _ c.pop.ensures.left (popped _ _ c.take_last.result c.take_last.ensures top known) c.self.invariant

pub returns : goal.returns
returns c =
    let top : HasTop (stacked [] c.self.inside.pieces.items) = subst HasTop (sym c.self.view_is) c.requires.top in
    let known : is_value (top_of (stacked [] c.self.inside.pieces.items)) ≡ true = ap (λ fs. is_value (top_of fs)) c.self.view_is ∙ c.requires.known in
    popped _ _ c.take_last.result c.take_last.ensures top known ∙ ap below c.self.view_is
