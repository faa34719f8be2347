use Rattle.std.proofs.Common.{subst, sym}
use Rattle.at_jrag.specs.Faults.{IsFault}
use Rattle.at_text.proofs.Recoded.{recoded}
use Rattle.at_start.specs.AspectFiles.{IsReadingFaultOf, RefusesReading, no_aspects}
use Rattle.at_start.specs.declared.code.Code.{Code}
use Rattle.at_start.specs.declared.language.Language.TheVariants.{Profile}
use Rattle.at_start.proofs.aspects.read_profile.Goals as goal

pub returns-in-Err-clause-refused : goal.returns-in-Err-clause-refused
returns-in-Err-clause-refused c =
    let text = c.args.text.now in
    let language = Profile c.args.forms in
    λ names. recoded _ (IsFault c.args.forms text) (IsReadingFaultOf language names text) c.in-Err.fault c.map_code.result
    c.map_code.ensures c.in-Err.ensures.fault
    (λ k d at is fault. subst (λ (x : Code). RefusesReading language names text x at) (sym is)
    (no_aspects k at c.requires fault)) tt
