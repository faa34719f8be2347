use Rattle.std.proofs.Common.{subst, sym}
use Rattle.at_text.proofs.Recoded.{recoded}
use Rattle.at_java.specs.Files.{IsFault}
use Rattle.at_start.specs.AspectFiles.{IsReadingFaultOf, RefusesReading, no_java}
use Rattle.at_start.specs.declared.code.Code.{Code}
use Rattle.at_start.specs.declared.language.Language.TheVariants.{JastAdd}
use Rattle.at_start.proofs.aspects.read_java.Goals as goal

pub returns-in-Err-clause-refused : goal.returns-in-Err-clause-refused
returns-in-Err-clause-refused c =
    let text = c.args.text.now in
    let names = c.args.names.now in
    recoded _ (IsFault names text) (IsReadingFaultOf JastAdd names text) c.in-Err.fault c.map_code.result c.map_code.ensures
    c.in-Err.ensures.fault
    (λ k d at is fault. subst (λ (x : Code). RefusesReading JastAdd names text x at) (sym is) (no_java k at c.requires fault)) tt
