use Rattle.std.proofs.Common.{subst}
use Rattle.at_class.specs.TreeView.{tree_view}
use Rattle.at_tree.specs.Shape.{IsMisshaped}
use Rattle.at_tree.specs.View.{term_view}
use Rattle.at_tree.specs.declared.tree.shaping.ShapeFault.{ShapeFault}
use Rattle.at_start.proofs.PlantingShapes.{shaped_is, unfit_none, unknown_none}
use Rattle.at_start.proofs.constants.shaping.tree_shaped.Goals as goal

pub returns-in-Ok-clause-found : goal.returns-in-Ok-clause-found
returns-in-Ok-clause-found c =
    shaped_is c.args.classes.now c.in-Ok.ensures.sound (term_view c.args.term.now) c.args.kind (tree_view c.in-Ok.tree) c.in-Ok.ensures.found

pub returns-in-Err-Class-clause-refused : goal.returns-in-Err-Class-clause-refused
returns-in-Err-Class-clause-refused c =
    let classes = c.args.classes.now in
    let term = term_view c.args.term.now in
    let unknown = subst (λ (f : ShapeFault). IsMisshaped classes term c.args.kind f) c.in-Err-Class.field-0-is c.in-Err-Class.ensures.refused in
    (unknown, unknown_none classes c.in-Err-Class.ensures.sound term c.args.kind unknown)

pub returns-in-Err-Fit-clause-refused : goal.returns-in-Err-Fit-clause-refused
returns-in-Err-Fit-clause-refused c =
    let classes = c.args.classes.now in
    let term = term_view c.args.term.now in
    let unfit = subst (λ (f : ShapeFault). IsMisshaped classes term c.args.kind f) c.in-Err-Fit.field-0-is c.in-Err-Fit.ensures.refused in
    (unfit.0, unfit_none classes term c.args.kind unfit.1)
