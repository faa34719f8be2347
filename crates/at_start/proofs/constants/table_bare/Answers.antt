use Rattle.std.proofs.Common.{◌∙◌, Option, ap, map, subst, sym}
use Rattle.std.specs.Option.{option_map}
use Rattle.at_model.specs.Declarations.{AreNamed, Declarations, Fault as GrammarFault, first_fault}
use Rattle.at_class.specs.Grammar.{grammar_view, place_view}
use Rattle.at_start.specs.ConstantFaults.{lacking}
use Rattle.at_start.proofs.PlantingFillings.{bare_named}
use Rattle.at_start.proofs.constants.table_bare.Goals as goal

pub build-requires : goal.build-requires
build-requires c = subst AreNamed (sym c.in_ok-bare.ensures) (bare_named (map place_view c.args.marks.now) (grammar_view c.args.grammar.now) c.requires)

pub returns-in-Ok-clause-fault : goal.returns-in-Ok-clause-fault
returns-in-Ok-clause-fault c =
    ap (λ (ds : Declarations). option_map (λ (f : GrammarFault). lacking f.at) (first_fault ds)) (sym c.in_ok-bare.ensures)
    ∙ ap (λ (o : Option GrammarFault). option_map (λ (f : GrammarFault). lacking f.at) o) c.in-Ok.ensures.faultless
