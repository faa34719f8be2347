use Rattle.std.proofs.Common.{◌≡◌, ◌∷◌, [], ap, refl, subst, sym, ◌∙◌, true, List}
use Rattle.at_model.specs.Run.{Truth}
use Rattle.at_model.specs.of_fixpoints.Formulas.{Formula, Known, Asks, is_known_as}
use Rattle.at_body.specs.Pieces.{AreTwo, HasTop, combined, is_value, piled, put_together, stacked, top_of}
use Rattle.at_body.specs.declared.formula.Piece.TheVariants as piece
use Rattle.at_body.proofs.Piled.{put_formula, put_tops}
use Rattle.at_body.proofs.formula.Pile.push_known.Goals as goal

pub invariant_of-self : goal.invariant_of-self
invariant_of-self c = put_tops c.put.result c.self.inside.pieces.items _ c.self.inside.surely _ (piece.Known c.args.value) (Known (Truth c.args.value)) (stacked [] c.self.inside.pieces.items) _ c.put.ensures.pieces c.put.ensures.surely c.put.ensures.no_pieces c.put.ensures.nothing refl (c.of_value.ensures) c.self.invariant

pub returns : goal.returns
returns c = put_formula c.put.result c.self.inside.pieces.items _ (piece.Known c.args.value) ((Known (Truth c.args.value)) ∷ c.args.self.now) c.put.ensures.pieces (ap (λ (fs : List (Formula _)). (Known (Truth c.args.value)) ∷ fs) c.self.view_is)
