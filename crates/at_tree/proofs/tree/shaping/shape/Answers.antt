use Rattle.std.proofs.Common.{◌∙◌, sym, ap}
use Rattle.at_model.specs.Shaping.{names_classes}
use Rattle.at_model.proofs.of_texts.Shaped.{conforms_shaped}
use Rattle.at_class.specs.TreeView.{tree_view}
use Rattle.at_tree.specs.View.{term_view}
use Rattle.at_tree.proofs.ShapeLaws.{found-is, misshaped}
use Rattle.at_tree.proofs.tree.shaping.shape.Goals as goal

pub returns-in-Ok-clause-known : goal.returns-in-Ok-clause-known
returns-in-Ok-clause-known c =
    let classes = c.args.classes.now in
    let s = found-is classes (term_view c.args.term.now) c.args.under (tree_view c.in-Ok.tree) c.in-Ok.ensures.found in
    ap (names_classes classes) (sym s.written) ∙ (conforms_shaped classes c.shape_tree.ensures.sound.distinct (tree_view c.in-Ok.tree) c.args.under s.conforms).1

pub returns-in-Ok-clause-found : goal.returns-in-Ok-clause-found
returns-in-Ok-clause-found c = found-is c.args.classes.now (term_view c.args.term.now) c.args.under (tree_view c.in-Ok.tree) c.in-Ok.ensures.found

pub returns-then-is_known-clause-refused : goal.returns-then-is_known-clause-refused
returns-then-is_known-clause-refused c =
    misshaped c.args.classes.now c.shape_tree.ensures.sound (term_view c.args.term.now) c.args.under c.in-Err.fault (sym c.is_known.ensures ∙ c.if-is_known.true) c.in-Err.ensures.refused

pub returns-else-is_known-clause-refused : goal.returns-else-is_known-clause-refused
returns-else-is_known-clause-refused c = sym c.is_known.ensures ∙ c.if-is_known.false
