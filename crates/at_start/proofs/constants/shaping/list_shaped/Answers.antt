use Rattle.std.proofs.Common.{arith, map}
use Rattle.std.proofs.lemmas.Result.{err_from_is_err_and}
use Rattle.at_class.specs.TreeView.{tree_view}
use Rattle.at_start.proofs.PlantingShapes.{made_all, made_first, made_more, made_none, made_not_all, made_unknown}
use Rattle.at_start.proofs.constants.shaping.list_shaped.Goals as goal

pub loop-term-init : goal.loop-term-init
loop-term-init c = rw (c.new-trees.ensures.items) (made_first c.args.classes.now c.args.terms.now c.args.kind)

pub loop-term-preserved-then-is_made : goal.loop-term-preserved-then-is_made
loop-term-preserved-then-is_made c =
    made_more c.args.classes.now c.args.terms.now c.args.kind c.loop-term.term-index c.term-item.result (omega arith) c.term-item.is
    c.loop-term.fit _ (map tree_view c.loop-term.trees.items) _ c.if-is_made.true c.in_ok-is_made.ensures.known c.in_ok-is_made.ensures.added
    c.loop-term.invariant

pub loop-term-preserved : goal.loop-term-preserved
loop-term-preserved c =
    made_none c.args.classes.now c.args.terms.now c.args.kind c.loop-term.term-index c.term-item.result (omega arith) c.term-item.is
    c.loop-term.fit _ (map tree_view c.loop-term.trees.items) (map tree_view c.append_tree.new.trees.items) c.if-is_made.false c.in_ok-is_made.ensures.known c.in_ok-is_made.ensures.added
    c.loop-term.invariant

pub returns-in_err-is_made-clause-refused : goal.returns-in_err-is_made-clause-refused
returns-in_err-is_made-clause-refused c =
    let p = err_from_is_err_and c.from_residual.result c.from_residual.ensures.1 in
    rw (p.1, p.2) (made_unknown c.args.classes.now c.args.terms.now c.args.kind c.loop-term.term-index c.term-item.result (omega arith) c.term-item.is
    c.loop-term.fit (map tree_view c.loop-term.trees.items) c.in_err-is_made.field-0.0 c.loop-term.invariant c.in_err-is_made.ensures.refused)

pub returns-then-fit-clause-found : goal.returns-then-fit-clause-found
returns-then-fit-clause-found c =
    made_all c.args.classes.now c.args.terms.now c.args.kind c.loop-term.term-index c.loop-term-test.false c.loop-term.fit
    (map tree_view c.loop-term.trees.items) c.loop-term.invariant c.if-fit.true

pub returns-clause-refused : goal.returns-clause-refused
returns-clause-refused c =
    made_not_all c.args.classes.now c.args.terms.now c.args.kind c.loop-term.term-index c.loop-term-test.false c.loop-term.fit
    (map tree_view c.loop-term.trees.items) c.loop-term.invariant c.if-fit.false
