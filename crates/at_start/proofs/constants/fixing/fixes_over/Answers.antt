use Rattle.std.proofs.Common.{List, [], ◌∷◌, arith, filter_map, map, refl}
use Rattle.at_class.specs.Fixing.{fixed_view}
use Rattle.at_class.specs.Grammar.{grammar_view}
use Rattle.at_start.specs.Constants.{fix_over, fixes_over}
use Rattle.at_start.specs.PlacedView.{placed_view}
use Rattle.at_start.specs.declared.constants.Placed.{Placed as PlacedValue}
use Rattle.at_start.proofs.PlantingFixes.{filter_split}
use Rattle.at_start.proofs.PlantingLoops.{next_part, no_part}
use Rattle.at_start.proofs.constants.fixing.fixes_over.Goals as goal

pub loop-placed-preserved : goal.loop-placed-preserved
loop-placed-preserved c =
    let f = fix_over c.args.below.now (grammar_view c.args.grammar.now) in
    let left = λ (ps : List PlacedValue). filter_map f (map placed_view ps) in
    let x = c.placed-item.result in
    next_part left left _ _ (filter_map f (placed_view x ∷ [])) _ c.args.constants.now c.loop-placed.placed-index x (omega arith) c.placed-item.is
    (λ rest. filter_split f (placed_view x) (map placed_view rest)) c.in_ok-append_fix.ensures c.loop-placed.invariant

pub returns : goal.returns
returns c =
    let f = fix_over c.args.below.now (grammar_view c.args.grammar.now) in
    no_part (λ (ps : List PlacedValue). filter_map f (map placed_view ps)) _ _ c.args.constants.now c.loop-placed.placed-index (omega arith) refl
    c.loop-placed.invariant
