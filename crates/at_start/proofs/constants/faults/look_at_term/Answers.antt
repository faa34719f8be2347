use Rattle.std.proofs.Common.{◌∙◌, ap, sym}
use Rattle.at_model.specs.Classes.{class_of_name}
use Rattle.at_text.specs.declared.place.Place.{Place}
use Rattle.at_start.specs.ConstantFaults.{misshapen, refusal, told, unknown_at}
use Rattle.at_start.specs.PlacedView.{placed_view}
use Rattle.at_start.specs.declared.code.Code.TheVariants as code
use Rattle.at_start.proofs.PlantingLoops.{told_of}
use Rattle.at_start.proofs.PlantingShapes.{unknown_class, where_declared}
use Rattle.at_start.proofs.constants.faults.look_at_term.Goals as goal

pub returns-then-is_none : goal.returns-then-is_none
returns-then-is_none c =
    let classes = c.args.classes.now in
    let k = placed_view c.args.placed.now in
    told_of (misshapen classes k) (refusal k code.UnknownName (unknown_at classes k.constant)) c.refused.result
    (c.refused.ensures ∙ ap (λ (at : Place). told (refusal k code.UnknownName at)) c.unknown_at-at.ensures)
    (unknown_class classes k c.id_of.result c.is_none.result
    (ap (class_of_name classes) (sym c.as_str.ensures.value) ∙ sym c.id_of.ensures.found) c.is_none.ensures
    c.if-is_none.true)

pub returns : goal.returns
returns c =
    let classes = c.args.classes.now in
    let k = placed_view c.args.placed.now in
    where_declared classes k c.id_of.result c.is_none.result
    (ap (class_of_name classes) (sym c.as_str.ensures.value) ∙ sym c.id_of.ensures.found) c.is_none.ensures
    c.shape_term.result c.if-is_none.false c.shape_term.ensures
