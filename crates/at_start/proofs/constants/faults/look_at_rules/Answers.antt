use Rattle.std.proofs.Common.{ap, subst}
use Rattle.std.specs.Option.{option_map}
use Rattle.at_model.specs.Declarations.{Fault}
use Rattle.at_class.specs.Faults.{IsRefusedFor, code_view}
use Rattle.at_class.specs.Grammar.{grammar_view}
use Rattle.at_class.specs.declared.fault.ClassCode.{ClassCode}
use Rattle.at_text.specs.declared.fault.Fault.{Fault as TextFault}
use Rattle.at_start.specs.ConstantFaults.{breach, broken}
use Rattle.at_start.specs.PlacedView.{placed_view}
use Rattle.at_start.proofs.PlantingLoops.{told_of}
use Rattle.at_start.proofs.constants.faults.look_at_rules.Goals as goal

pub returns-in-Err-Refused : goal.returns-in-Err-Refused
returns-in-Err-Refused c =
    let k = placed_view c.args.placed.now in
    let ds = grammar_view c.args.whole.now in
    let first = subst (λ (f : TextFault ClassCode). IsRefusedFor ds f) c.in-Err-Refused.field-0-is c.in-Err-Refused.ensures.refused in
    told_of (broken ds k) (breach k (code_view c.in-Err-Refused.code)) c.breach.result c.breach.ensures
    (ap (option_map (λ (f : Fault). breach k f.code)) first)
