use Rattle.std.proofs.Common.{[], refl, subst, sym}
use Rattle.std.specs.Result.{IfErr}
use Rattle.at_start.specs.GrammarFiles.{IsGrammarFault, IsReadFault, no_text}
use Rattle.at_start.specs.declared.language.Language.TheVariants.{Profile}
use Rattle.at_start.proofs.Declaring.{refused_so}
use Rattle.at_start.proofs.grammar.declared_by.Goals as goal

pub returns-in-Err-clause-refused : goal.returns-in-Err-clause-refused
returns-in-Err-clause-refused c = no_text c.in-Err.code c.in-Err.ensures

pub returns-in-Profile-clause-refused : goal.returns-in-Profile-clause-refused
returns-in-Profile-clause-refused c =
    let same = c.in-Ok.ensures.1 in
    subst (λ l. IfErr c.built.result (IsGrammarFault l c.args.bytes.now)) (sym c.in-Profile.is)
    (refused_so (Profile c.in-Profile.field-0) c.args.bytes.now c.args.bytes.now [] c.in-Ok.ensures.0 (refl, refl) c.built.result
    (subst (λ t. IfErr c.built.result (IsReadFault t)) same c.built.ensures.refused))
