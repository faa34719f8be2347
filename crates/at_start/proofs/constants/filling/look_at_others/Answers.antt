use Rattle.std.proofs.Common.{◌<◌, ◌∙◌, arith, length, map}
use Rattle.std.proofs.lemmas.Result.{err_from_is_err_and}
use Rattle.at_class.specs.Grammar.{grammar_view, place_view}
use Rattle.at_start.specs.PlacedView.{placed_view}
use Rattle.at_start.proofs.PlantingFillings.{again_here, again_later, again_nowhere}
use Rattle.at_start.proofs.constants.filling.look_at_others.Goals as goal

pub returns-in_err-look_at_other : goal.returns-in_err-look_at_other
returns-in_err-look_at_other c =
    let p = err_from_is_err_and c.from_residual.result c.from_residual.ensures.1 in
    let less : c.loop-i.i < length c.args.constants.now = omega arith in
    rw (p.1, p.2) (again_here (map place_view c.args.marks.now) (grammar_view c.args.grammar.now) placed_view c.args.constants.now c.loop-i.i
    c.index-constants-i.result less c.index-constants-i.is c.in_err-look_at_other.field-0.0 c.in_err-look_at_other.ensures c.loop-i.invariant)

pub loop-i-preserved : goal.loop-i-preserved
loop-i-preserved c =
    let less : c.loop-i.i < length c.args.constants.now = omega arith in
    c.loop-i.invariant ∙ again_later (map place_view c.args.marks.now) (grammar_view c.args.grammar.now) placed_view c.args.constants.now c.loop-i.i
    c.index-constants-i.result less c.index-constants-i.is c.in_ok-look_at_other.ensures

pub returns : goal.returns
returns c = again_nowhere (map place_view c.args.marks.now) (grammar_view c.args.grammar.now) placed_view c.args.constants.now c.loop-i.i
    (omega arith) c.loop-i.invariant
