use Rattle.std.proofs.Common.{rules}
use Rattle.std.proofs.lemmas.Result.{err_from_is_err_and}
use Rattle.at_tree.specs.ReadTrees.{IsReadAs, of_shape}
use Rattle.at_tree.specs.View.{term_view}
use Rattle.at_class.specs.TreeView.{tree_view}
use Rattle.at_tree.proofs.ReadTreesLemmas.{no_term, no_tree, again_found, again_no_term, again_refused}
use Rattle.at_tree.proofs.tree.reading.read_by_term.Goals as goal

pub returns-in_err-term : goal.returns-in_err-term
returns-in_err-term c =
    let p = err_from_is_err_and c.from_residual.result c.from_residual.ensures.1 in
    let none = no_term c.args.classes.now c.args.text.now c.args.under c.in_err-term.field-0.0 c.in_err-term.ensures.only c.in_err-term.ensures.fault in
    rw (p.1, p.2) (record {
      found = tt;
      refused = none;
      again = λ u whole is same. again_no_term c.args.classes.now c.args.text.now c.args.under u c.in_err-term.field-0.0 (is, same) none;
    })

pub returns-in_err-shape : goal.returns-in_err-shape
returns-in_err-shape c =
    let p = err_from_is_err_and c.from_residual-in_err-shape.result c.from_residual-in_err-shape.ensures.1 in
    let none = no_tree c.args.classes.now c.args.text.now c.args.under (term_view c.in_ok-term.term) c.in_err-shape.field-0.0 c.in_ok-term.ensures.found c.in_err-shape.ensures.refused in
    rw (p.1, p.2) (record {
      found = tt;
      refused = none;
      again = λ u whole is same. again_refused c.args.classes.now c.in_err-shape.ensures.sound c.args.text.now c.args.under u (of_shape c.in_err-shape.field-0.0) whole (is, same) none;
    })

pub returns : goal.returns
returns c =
    let is : IsReadAs c.args.classes.now c.args.text.now c.args.under (tree_view c.in_ok-shape.field-0) =
    (term_view c.in_ok-term.term, c.in_ok-term.ensures.found, c.in_ok-shape.ensures.found) in
    record {
      found = is;
      refused = search rules;
      again = λ u whole is_term same. again_found c.args.classes.now c.in_ok-shape.ensures.sound c.args.text.now c.args.under u (tree_view c.in_ok-shape.field-0) whole (is_term, same) is;
    }
