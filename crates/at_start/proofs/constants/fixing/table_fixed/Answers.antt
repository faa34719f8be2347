use Rattle.std.proofs.Common.{◌∙◌, subst, sym}
use Rattle.std.proofs.lemmas.Option.{none-some}
use Rattle.at_class.specs.Faults.{IsRefusedFor}
use Rattle.at_class.specs.Grammar.{grammar_view}
use Rattle.at_class.specs.declared.fault.ClassCode.{ClassCode}
use Rattle.at_text.specs.declared.fault.Fault.{Fault}
use Rattle.at_start.proofs.constants.fixing.table_fixed.Goals as goal

pub unreachable-requires : goal.unreachable-requires
unreachable-requires c =
    let ds = grammar_view c.args.grammar.now in
    let first = subst (λ (f : Fault ClassCode). IsRefusedFor ds f) c.in-Err-Refused.field-0-is c.in-Err-Refused.ensures.refused in
    none-some _ (sym c.requires.faultless ∙ first)
