use Rattle.std.proofs.Common.{subst, sym}
use Rattle.at_model.specs.Declarations.{AreNamed, Declarations}
use Rattle.at_class.specs.Grammar.{grammar_view}
use Rattle.at_start.specs.ConstantFaults.{Finds, broken}
use Rattle.at_start.specs.PlacedView.{placed_view}
use Rattle.at_start.proofs.PlantingGrammars.{component_named, named_is}
use Rattle.at_start.proofs.constants.faults.look_at_component.Goals as goal

pub look_at_rules-requires : goal.look_at_rules-requires
look_at_rules-requires c =
    let k = placed_view c.args.placed.now in
    subst AreNamed (sym c.in_ok-add_component.ensures)
    (component_named (grammar_view c.args.whole.now) k.constant c.requires.named (named_is k c.requires.name))

pub returns-clause-fault : goal.returns-clause-fault
returns-clause-fault c =
    subst (λ (ds : Declarations). Finds (broken ds (placed_view c.args.placed.now)) c.look_at_rules.result) c.in_ok-add_component.ensures
    c.look_at_rules.ensures
