use Rattle.std.proofs.Common.{◌∙◌, arith, map}
use Rattle.std.proofs.lemmas.Result.{err_from_is_err_and}
use Rattle.at_class.specs.Grammar.{grammar_view, place_view}
use Rattle.at_start.specs.ConstantFaults.{unlike}
use Rattle.at_start.specs.PlacedView.{placed_view}
use Rattle.at_start.proofs.PlantingLoops.{passed_by, told_here, told_nowhere}
use Rattle.at_start.proofs.constants.filling.look_at_kinds.Goals as goal

pub returns-in_err-look_at_kind : goal.returns-in_err-look_at_kind
returns-in_err-look_at_kind c =
    let p = err_from_is_err_and c.from_residual.result c.from_residual.ensures.1 in
    rw (p.1, p.2) (told_here (unlike (map place_view c.args.marks.now) (grammar_view c.args.grammar.now)) placed_view c.args.constants.now
    c.loop-placed.placed-index c.placed-item.result c.in_err-look_at_kind.field-0.0 (omega arith) c.placed-item.is
    c.in_err-look_at_kind.ensures c.loop-placed.invariant)

pub loop-placed-preserved : goal.loop-placed-preserved
loop-placed-preserved c =
    c.loop-placed.invariant ∙ passed_by (unlike (map place_view c.args.marks.now) (grammar_view c.args.grammar.now)) placed_view c.args.constants.now
    c.loop-placed.placed-index c.placed-item.result (omega arith) c.placed-item.is c.in_ok-look_at_kind.ensures

pub returns : goal.returns
returns c = told_nowhere (unlike (map place_view c.args.marks.now) (grammar_view c.args.grammar.now)) placed_view c.args.constants.now
    c.loop-placed.placed-index (omega arith) c.loop-placed.invariant
