use Rattle.std.proofs.Common.{map, subst, sym}
use Rattle.at_model.specs.Declarations.{AreNamed}
use Rattle.at_class.specs.Faults.{IsRefusedFor}
use Rattle.at_class.specs.Grammar.{grammar_view, place_view}
use Rattle.at_class.specs.declared.fault.ClassCode.{ClassCode}
use Rattle.at_text.specs.declared.fault.Fault.{Fault}
use Rattle.at_start.specs.PlacedView.{placed_view}
use Rattle.at_start.proofs.PlantingFillings.{additions_named}
use Rattle.at_start.proofs.PlantingGrammars.{breaks_of}
use Rattle.at_start.proofs.constants.grown.Goals as goal

pub build-requires : goal.build-requires
build-requires c =
    subst AreNamed (sym c.in_ok-whole.ensures)
    (additions_named (map place_view c.args.marks.now) (grammar_view c.args.grammar.now) (map placed_view c.args.constants.now) c.requires.named c.requires.names)

pub refuse_breach-requires-clause-breaks : goal.refuse_breach-requires-clause-breaks
refuse_breach-requires-clause-breaks c =
    let first = subst (λ (f : Fault ClassCode). IsRefusedFor (grammar_view c.in_ok-whole.whole) f) c.in-Err-Refused.field-0-is c.in-Err-Refused.ensures.refused in
    breaks_of _ _ _ c.in_ok-whole.ensures first

pub returns-in-Ok-clause-declared : goal.returns-in-Ok-clause-declared
returns-in-Ok-clause-declared c = record {
  named = subst AreNamed (sym c.in_ok-whole.ensures)
      (additions_named (map place_view c.args.marks.now) (grammar_view c.args.grammar.now) (map placed_view c.args.constants.now) c.requires.named c.requires.names);
  faultless = c.in-Ok.ensures.faultless;
  built = c.in-Ok.ensures.built;
  hierarchy = c.in-Ok.ensures.hierarchy;
}
