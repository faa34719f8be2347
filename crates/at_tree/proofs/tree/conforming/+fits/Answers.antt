use Rattle.std.proofs.Common.{◌≡◌, ◌+◌, ◌≤◌, ◌∙◌, ap, sym, arith, length}
use Rattle.std.specs.Prelude.{Bool, ◌&&◌, true, false}
use Rattle.at_model.specs.Classes.{fits}
use Rattle.at_model.specs.Trees.{cell_conforms}
use Rattle.at_model.proofs.Options.{and_off, and_true}
use Rattle.at_class.specs.View.{part_view}
use Rattle.at_class.specs.TreeView.{cell_view}
use Rattle.at_class.specs.declared.tree.Tree.{out-Tree}
use Rattle.at_tree.specs.Fixed.{stands}
use Rattle.at_tree.proofs.TreeLoops.{rest_fits, rest_fits-here, rest_fits-end, rest_fits-lengths, rest_fits-not, conforms-whole, misfit-whole}
use Rattle.at_tree.proofs.tree.conforming.+fits.Goals as goal

pub fits-returns-then-parts-cells : goal.fits-returns-then-parts-cells
fits-returns-then-parts-cells t c =
    let ps = c.parts-parts.result.now in
    let xs = c.as_slice-cells.result.now in
    sym (misfit-whole c.args.classes.now c.args.tree.now c.args.under xs ps c.as_slice-cells.ensures.value c.parts-parts.ensures
    (rest_fits-lengths c.args.classes.now xs ps c.if-parts-cells.true))

pub fits-returns-then-not-cell_fits : goal.fits-returns-then-not-cell_fits
fits-returns-then-not-cell_fits t c =
    let classes = c.args.classes.now in
    let ps = c.parts-parts.result.now in
    let xs = c.as_slice-cells.result.now in
    let off = ap (λ b. b && stands (part_view c.index-parts-i.result) (cell_view c.index-cells-i.result)) (sym c.cell_fits.ensures ∙ c.if-not-cell_fits.true) in
    sym (misfit-whole classes c.args.tree.now c.args.under xs ps c.as_slice-cells.ensures.value c.parts-parts.ensures
    (rest_fits-not classes xs ps c.loop-i.i c.index-cells-i.result c.index-parts-i.result (omega arith) (omega (arith, c.if-parts-cells.false)) c.index-cells-i.is c.index-parts-i.is c.loop-i.invariant off))

pub fits-returns-then-not-stands : goal.fits-returns-then-not-stands
fits-returns-then-not-stands t c =
    let classes = c.args.classes.now in
    let ps = c.parts-parts.result.now in
    let xs = c.as_slice-cells.result.now in
    let off = and_off (cell_conforms classes (cell_view c.index-cells-i.result) (part_view c.index-parts-i.result).shape) _ (sym c.stands.ensures ∙ c.if-not-stands.true) in
    sym (misfit-whole classes c.args.tree.now c.args.under xs ps c.as_slice-cells.ensures.value c.parts-parts.ensures
    (rest_fits-not classes xs ps c.loop-i.i c.index-cells-i.result c.index-parts-i.result (omega arith) (omega (arith, c.if-parts-cells.false)) c.index-cells-i.is c.index-parts-i.is c.loop-i.invariant off))

pub fits-loop-i-preserved : goal.fits-loop-i-preserved
fits-loop-i-preserved t c =
    let classes = c.args.classes.now in
    let ps = c.parts-parts.result.now in
    let xs = c.as_slice-cells.result.now in
    let here = and_true _ _ (sym c.cell_fits.ensures ∙ c.if-not-cell_fits.false) (sym c.stands.ensures ∙ c.if-not-stands.false) in
    c.loop-i.invariant
    ∙ rest_fits-here classes xs ps c.loop-i.i c.index-cells-i.result c.index-parts-i.result (omega arith) (omega (arith, c.if-parts-cells.false)) c.index-cells-i.is c.index-parts-i.is
    ∙ ap (λ b. b && rest_fits classes xs ps (c.loop-i.i + 1)) here

pub fits-returns : goal.fits-returns
fits-returns t c =
    let classes = c.args.classes.now in
    let ps = c.parts-parts.result.now in
    let xs = c.as_slice-cells.result.now in
    let past : length ps ≤ c.loop-i.i = omega (arith, c.if-parts-cells.false) in
    sym (conforms-whole classes c.args.tree.now c.args.under xs ps c.as_slice-cells.ensures.value c.parts-parts.ensures
    ∙ and_true _ _ (sym c.fits.ensures.fits ∙ c.if-not-fits.false) (c.loop-i.invariant ∙ rest_fits-end classes xs ps c.loop-i.i c.loop-i-test.false past))
