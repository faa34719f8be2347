use Rattle.std.proofs.Common.{subst, sym}
use Rattle.at_class.specs.Faults.{IsRefusedFor}
use Rattle.at_class.specs.Grammar.{grammar_view}
use Rattle.at_text.proofs.Recoded.{recoded}
use Rattle.at_start.specs.GrammarFiles.{RefusesRead, IsReadFault, breaks}
use Rattle.at_start.specs.declared.code.Code.{Code}
use Rattle.at_start.proofs.grammar.built.Goals as goal

pub returns-in-Err-clause-refused : goal.returns-in-Err-clause-refused
returns-in-Err-clause-refused c =
    let text = c.args.text.now in
    let ds = grammar_view c.in_ok-grammar.grammar in
    recoded _ (IsRefusedFor ds) (IsReadFault text) c.in-Err.fault c.map_code.result c.map_code.ensures c.in-Err.ensures.refused
    (λ k d at is first. subst (λ (x : Code). RefusesRead text x at) (sym is) (breaks ds k at c.in_ok-grammar.ensures.declares first)) tt
