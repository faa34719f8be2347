use Rattle.std.proofs.Common.{subst}
use Rattle.at_tree.specs.Shape.{IsMisshaped}
use Rattle.at_tree.specs.View.{term_view}
use Rattle.at_tree.specs.TreeView.{tree_view}
use Rattle.at_engine.proofs.Verdicts.{shaped_so, shaped_nowhere}
use Rattle.at_engine.proofs.engine.view.View.tree_for.Goals as goal

pub returns-in-Ok : goal.returns-in-Ok
returns-in-Ok g c =
    let k = c.args.self.now.rules.now.classes in
    let t = term_view c.args.term.now in
    let known = rw c.classes.ensures at c.in-Ok.ensures.known in
    let found = rw c.classes.ensures at c.in-Ok.ensures.found in
    (known, shaped_so k t c.args.class (tree_view c.in-Ok.tree) c.args.self.now.sound found)

pub returns-in-Err-Fit : goal.returns-in-Err-Fit
returns-in-Err-Fit g c =
    let k = c.args.self.now.rules.now.classes in
    let refused = rw c.classes.ensures at c.in-Err-Fit.ensures.refused in
    let none = subst (IsMisshaped k (term_view c.args.term.now) c.args.class) c.in-Err-Fit.field-0-is refused in
    (none.0, shaped_nowhere k (term_view c.args.term.now) c.args.class none.1)
