use Rattle.std.proofs.Common.{List, ℕ, subst, sym}
use Rattle.std.proofs.lemmas.Result.{IfOk-weaker}
use Rattle.at_java.specs.Seen.{contents_view}
use Rattle.at_start.specs.AspectFiles.{Holds, no_text}
use Rattle.at_start.specs.declared.language.Language.{Language}
use Rattle.at_start.specs.declared.language.Language.TheVariants.{Profile}
use Rattle.at_start.proofs.aspects.read.Goals as goal

pub returns-in-Err-clause-refused : goal.returns-in-Err-clause-refused
returns-in-Err-clause-refused c = no_text c.in-Err.code c.in-Err.ensures

pub returns-in-Profile-clause-hold : goal.returns-in-Profile-clause-hold
returns-in-Profile-clause-hold c =
    let names = c.args.names.now in
    let profile = Profile c.in-Profile.forms in
    IfOk-weaker c.read_profile.result _ _ (λ v holds.
    subst (λ (l : Language). Holds l names c.args.bytes.now (contents_view v)) (sym c.in-Profile.is)
    (subst (λ (bytes : List ℕ). Holds profile names bytes (contents_view v)) c.in-Ok.ensures.1 (holds names))) c.read_profile.ensures.hold
