use Rattle.std.proofs.Common.{◌∙◌, map, sym}
use Rattle.std.proofs.lemmas.Option.{none-some}
use Rattle.at_class.specs.Grammar.{grammar_view, place_view}
use Rattle.at_start.specs.Constants.{additions}
use Rattle.at_start.specs.PlacedView.{placed_view}
use Rattle.at_start.proofs.PlantingGrammars.{none_broken, tells_breaking}
use Rattle.at_start.proofs.constants.faults.refuse_breach.Goals as goal

pub returns-in-Err : goal.returns-in-Err
returns-in-Err c =
    tells_breaking (grammar_view c.args.grammar.now) (additions (map place_view c.args.marks.now) (grammar_view c.args.grammar.now) (map placed_view c.args.constants.now)) c.requires.breaks.0 c.in-Err.fault c.requires.breaks.1
    c.in-Err.ensures

pub unreachable-requires : goal.unreachable-requires
unreachable-requires c =
    none-some c.requires.breaks.0 (sym (none_broken (grammar_view c.args.grammar.now) (additions (map place_view c.args.marks.now) (grammar_view c.args.grammar.now) (map placed_view c.args.constants.now)) c.requires.faultless
    c.in-Ok.ensures) ∙ c.requires.breaks.1)
