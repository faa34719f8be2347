use Rattle.std.proofs.Common.{◌∙◌, map, subst}
use Rattle.std.specs.Result.{IfErr}
use Rattle.at_class.specs.Grammar.{place_view}
use Rattle.at_start.specs.GrammarFiles.{IsReadFault}
use Rattle.at_start.specs.declared.language.Language.TheVariants.{JastAdd}
use Rattle.at_start.proofs.Declaring.{refused_so}
use Rattle.at_start.proofs.grammar.built_unslashed.Goals as goal

pub returns-clause-refused : goal.returns-clause-refused
returns-clause-refused c =
    let u = c.in_ok-bytes.field-0 in
    refused_so JastAdd c.args.text.now u.bytes.items (map place_view u.marks.items) c.requires c.in_ok-bytes.ensures.read
    c.built.result
    (subst (λ t. IfErr c.built.result (IsReadFault t)) (c.in-Ok.ensures.cases.0 ∙ c.deref.ensures.value) c.built.ensures.refused)
