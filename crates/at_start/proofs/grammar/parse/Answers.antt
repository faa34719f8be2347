use Rattle.std.proofs.Common.{subst, sym}
use Rattle.at_grammar.specs.Faults.{IsFault}
use Rattle.at_text.proofs.Recoded.{recoded}
use Rattle.at_start.specs.GrammarFiles.{RefusesRead, IsReadFault, no_grammar}
use Rattle.at_start.specs.declared.code.Code.{Code}
use Rattle.at_start.proofs.Declaring.{read_declared}
use Rattle.at_start.proofs.Naming.{classes_named}
use Rattle.at_start.proofs.grammar.parse.Goals as goal

pub returns-in-Ok-clause-named : goal.returns-in-Ok-clause-named
returns-in-Ok-clause-named c = let read = c.in-Ok.ensures.found in classes_named c.in-Ok.grammar.classes.items read.2.0 read.2.1.0 read.2.2

pub returns-in-Ok-clause-declares : goal.returns-in-Ok-clause-declares
returns-in-Ok-clause-declares c =
    let read = c.in-Ok.ensures.found in
    record { tokens = read.0; grammar = read.2.0; cut = read.1; spells = read.2.1; means = read_declared c.in-Ok.grammar.classes.items read.2.0 read.2.2 }

pub returns-in-Err-clause-refused : goal.returns-in-Err-clause-refused
returns-in-Err-clause-refused c =
    let text = c.args.text.now in
    recoded _ (IsFault text) (IsReadFault text) c.in-Err.fault c.map_code.result c.map_code.ensures c.in-Err.ensures.fault
    (λ k d at is fault. subst (λ (x : Code). RefusesRead text x at) (sym is) (no_grammar k at fault)) tt
