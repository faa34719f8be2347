use Rattle.std.proofs.Common.{◌≡◌, arith, length}
use Rattle.std.proofs.lemmas.Bool.Decides.{nat_tests}
use Rattle.at_class.specs.Grammar.{grammar_view, place_view}
use Rattle.at_start.specs.PlacedView.{placed_view}
use Rattle.at_start.proofs.PlantingFaults.{no_constants}
use Rattle.at_start.proofs.constants.plant.Goals as goal

pub returns-then-is_empty-2 : goal.returns-then-is_empty-2
returns-then-is_empty-2 c =
    let none : length c.args.constants.now ≡ 0 = grind (arith, nat_tests) in
    let none' : length c.args.declared.marks.items ≡ 0 = grind (arith, nat_tests) in
    no_constants placed_view place_view c.args.constants.now c.args.declared.marks.items (grammar_view c.args.declared.grammar)
    c.args.declared.classes none none' c.requires.faultless c.requires.built c.requires.hierarchy
