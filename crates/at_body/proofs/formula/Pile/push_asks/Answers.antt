use Rattle.std.proofs.Common.{◌≡◌, ◌∷◌, [], ap, refl, subst, sym, ◌∙◌, true, List}
use Rattle.at_model.specs.Run.{Truth}
use Rattle.at_model.specs.of_fixpoints.Formulas.{Formula, Known, Asks, is_known_as}
use Rattle.at_body.specs.Pieces.{AreTwo, HasTop, combined, is_value, piled, put_together, stacked, top_of}
use Rattle.at_body.specs.declared.formula.Piece.TheVariants as piece
use Rattle.at_body.proofs.Piled.{put_formula, put_tops}
use Rattle.at_body.proofs.formula.Pile.push_asks.Goals as goal

pub invariant_of-self : goal.invariant_of-self
invariant_of-self c = put_tops c.put.result c.self.inside.pieces.items _ c.self.inside.surely _ (piece.Asks c.args.inst) (Asks c.args.inst) (stacked [] c.self.inside.pieces.items) _ c.put.ensures.pieces c.put.ensures.surely c.put.ensures.no_pieces c.put.ensures.nothing refl (c.of_instance.ensures c.args.inst) c.self.invariant

pub returns : goal.returns
returns c = put_formula c.put.result c.self.inside.pieces.items _ (piece.Asks c.args.inst) ((Asks c.args.inst) ∷ c.args.self.now) c.put.ensures.pieces (ap (λ (fs : List (Formula _)). (Asks c.args.inst) ∷ fs) c.self.view_is)
