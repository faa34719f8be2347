use Rattle.std.proofs.Common.{map}
use Rattle.std.proofs.lemmas.Result.{err_from_is_err_and}
use Rattle.at_class.specs.Grammar.{grammar_view, place_view}
use Rattle.at_start.specs.PlacedView.{placed_view}
use Rattle.at_start.proofs.PlantingFaults.{all_stand, last_level, told_barren, told_circle, told_filling, told_name, told_rule, told_term}
use Rattle.at_start.proofs.constants.plant_all.Goals as goal

pub returns-in_err-look_at_names : goal.returns-in_err-look_at_names
returns-in_err-look_at_names c =
    let p = err_from_is_err_and c.from_residual.result c.from_residual.ensures.1 in
    rw (p.1, p.2) (told_name (map place_view c.args.marks.now) (grammar_view c.args.grammar.now) (map placed_view c.args.constants.now)
    c.in_err-look_at_names.field-0.0 c.in_err-look_at_names.ensures)

pub returns-in_err-grown : goal.returns-in_err-grown
returns-in_err-grown c =
    let p = err_from_is_err_and c.from_residual-in_err-grown.result c.from_residual-in_err-grown.ensures.1 in
    rw (p.1, p.2) (told_rule (map place_view c.args.marks.now) (grammar_view c.args.grammar.now) (map placed_view c.args.constants.now)
    c.in_ok-look_at_names.ensures c.in_err-grown.field-0.0 c.in_err-grown.ensures.fault)

pub returns-in_err-look_at_filling : goal.returns-in_err-look_at_filling
returns-in_err-look_at_filling c =
    let p = err_from_is_err_and c.from_residual-in_err-look_at_filling.result c.from_residual-in_err-look_at_filling.ensures.1 in
    rw (p.1, p.2) (told_filling (map place_view c.args.marks.now) (grammar_view c.args.grammar.now) (map placed_view c.args.constants.now)
    c.in_ok-look_at_names.ensures c.in_ok-grown.ensures.fault c.in_err-look_at_filling.field-0.0 c.in_err-look_at_filling.ensures)

pub returns-in_err-plain : goal.returns-in_err-plain
returns-in_err-plain c =
    let p = err_from_is_err_and c.from_residual-in_err-plain.result c.from_residual-in_err-plain.ensures.1 in
    rw (p.1, p.2) (told_barren (map place_view c.args.marks.now) (grammar_view c.args.grammar.now) (map placed_view c.args.constants.now)
    c.in_ok-look_at_names.ensures c.in_ok-grown.ensures.fault c.in_ok-look_at_filling.ensures c.in_err-plain.field-0.0 c.in_err-plain.ensures.fault)

pub returns-in_err-look_at_terms : goal.returns-in_err-look_at_terms
returns-in_err-look_at_terms c =
    let p = err_from_is_err_and c.from_residual-in_err-look_at_terms.result c.from_residual-in_err-look_at_terms.ensures.1 in
    rw (p.1, p.2) (told_term (map place_view c.args.marks.now) (grammar_view c.args.grammar.now) (map placed_view c.args.constants.now)
    c.in_ok-look_at_names.ensures c.in_ok-grown.ensures.fault c.in_ok-look_at_filling.ensures c.in_ok-plain.ensures.fault c.in_ok-plain.plain c.in_ok-plain.ensures.built
    c.in_err-look_at_terms.field-0.0 c.in_err-look_at_terms.ensures)

pub returns-in_err-look_at_trees : goal.returns-in_err-look_at_trees
returns-in_err-look_at_trees c =
    let marks = map place_view c.args.marks.now in
    let ds = grammar_view c.args.grammar.now in
    let planted = c.in_ok-planted.planted in
    let p = err_from_is_err_and c.from_residual-in_err-look_at_trees.result c.from_residual-in_err-look_at_trees.ensures.1 in
    let is = last_level placed_view c.args.constants.now marks ds (grammar_view c.in_ok-grown.grown.grammar) planted c.in_ok-grown.ensures.grown
    c.in_ok-planted.ensures.0 in
    rw (p.1, p.2) (told_circle marks ds (map placed_view c.args.constants.now)
    c.in_ok-look_at_names.ensures c.in_ok-grown.ensures.fault c.in_ok-look_at_filling.ensures c.in_ok-plain.ensures.fault c.in_ok-plain.plain c.in_ok-plain.ensures.built
    c.in_ok-look_at_terms.ensures planted is c.in_err-look_at_trees.field-0.0 c.in_err-look_at_trees.ensures)

pub returns : goal.returns
returns c =
    let marks = map place_view c.args.marks.now in
    let ds = grammar_view c.args.grammar.now in
    let planted = c.in_ok-planted.planted in
    let is = last_level placed_view c.args.constants.now marks ds (grammar_view c.in_ok-grown.grown.grammar) planted c.in_ok-grown.ensures.grown
    c.in_ok-planted.ensures.0 in (
      all_stand marks ds (map placed_view c.args.constants.now) c.in_ok-look_at_names.ensures c.in_ok-grown.ensures.fault
          c.in_ok-look_at_filling.ensures c.in_ok-plain.ensures.fault c.in_ok-plain.plain c.in_ok-plain.ensures.built c.in_ok-look_at_terms.ensures planted is
          c.in_ok-look_at_trees.ensures,
      is,
      c.in_ok-planted.ensures.1,
    )
