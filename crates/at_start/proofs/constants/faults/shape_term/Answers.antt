use Rattle.std.proofs.Common.{◌≡◌, ◌∙◌, ap, subst, sym, Some}
use Rattle.at_model.specs.Classes.{class_of_name}
use Rattle.at_model.specs.Shaping.{cell_names_classes}
use Rattle.at_class.specs.TreeView.{cell_view}
use Rattle.at_start.specs.Constants.{cell_under}
use Rattle.at_start.specs.ConstantFaults.{misfit, refusal}
use Rattle.at_start.specs.PlacedView.{placed_view}
use Rattle.at_start.specs.Unmade.{IsUnmade}
use Rattle.at_start.specs.declared.code.Code.TheVariants as code
use Rattle.at_start.specs.declared.constants.shaping.CellFault.{CellFault}
use Rattle.at_start.proofs.PlantingLoops.{told_of}
use Rattle.at_start.proofs.PlantingShapes.{fit, unfit_kind, unfit_unknown}
use Rattle.at_start.proofs.constants.faults.shape_term.Goals as goal

pub returns-in-Ok : goal.returns-in-Ok
returns-in-Ok c =
    let classes = c.args.classes.now in
    let k = placed_view c.args.placed.now in
    let kind : class_of_name classes k.constant.kind.text ≡ Some c.in-Some.kind = ap (class_of_name classes) (sym c.as_str.ensures.value) ∙ sym c.id_of.ensures.found ∙ c.in-Some.is in
    fit classes k c.in-Some.kind kind (cell_view c.in-Ok.field-0) c.in-Ok.ensures.found

pub returns-in-Err-Class : goal.returns-in-Err-Class
returns-in-Err-Class c =
    let classes = c.args.classes.now in
    let k = placed_view c.args.placed.now in
    let kind : class_of_name classes k.constant.kind.text ≡ Some c.in-Some.kind = ap (class_of_name classes) (sym c.as_str.ensures.value) ∙ sym c.id_of.ensures.found ∙ c.in-Some.is in
    let unknown = subst (λ (f : CellFault). IsUnmade (cell_names_classes classes k.constant.cell) (cell_under classes k.constant.cell c.in-Some.kind) f)
    c.in-Err-Class.field-0-is c.in-Err-Class.ensures.refused in
    told_of (misfit classes k) (refusal k code.UnknownName k.constant.at) c.refused-in-Err-Class.result c.refused-in-Err-Class.ensures
    (unfit_unknown classes k c.in-Some.kind kind unknown.1 unknown.0)

pub returns-in-Err-Fit : goal.returns-in-Err-Fit
returns-in-Err-Fit c =
    let classes = c.args.classes.now in
    let k = placed_view c.args.placed.now in
    let kind : class_of_name classes k.constant.kind.text ≡ Some c.in-Some.kind = ap (class_of_name classes) (sym c.as_str.ensures.value) ∙ sym c.id_of.ensures.found ∙ c.in-Some.is in
    let unfit = subst (λ (f : CellFault). IsUnmade (cell_names_classes classes k.constant.cell) (cell_under classes k.constant.cell c.in-Some.kind) f)
    c.in-Err-Fit.field-0-is c.in-Err-Fit.ensures.refused in
    told_of (misfit classes k) (refusal k code.Kind k.constant.at) c.refused-in-Err-Fit.result c.refused-in-Err-Fit.ensures
    (unfit_kind classes k c.in-Some.kind kind unfit.1 unfit.0)
