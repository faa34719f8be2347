use Rattle.std.proofs.Common.{◌∙◌, ap, codes}
use Rattle.std.proofs.lemmas.Result.{err_from_is_err_and}
use Rattle.clap.specs.Walk.{texts}
use Rattle.clap.specs.Words.{found_of}
use Rattle.clap.proofs.WalkLemmas.{first_value-rows}
use Rattle.attrd.specs.Forms.{language_in}
use Rattle.attrd.specs.Options.{rows_found}
use Rattle.attrd.proofs.Asking.{asks_by, line_takes, names_known, usable_by}
use Rattle.attrd.proofs.options.words.options.Goals as goal

pub returns-in-Err-clause-refused : goal.returns-in-Err-clause-refused
returns-in-Err-clause-refused c taken =
    c.fault_of.ensures (c.in-Err.ensures.refused (line_takes (texts c.args.words.now) taken))

pub returns-in_err-language-clause-refused : goal.returns-in_err-language-clause-refused
returns-in_err-language-clause-refused c =
    let p = err_from_is_err_and c.from_residual.result c.from_residual.ensures.1 in
    let found = c.get_str.ensures ∙ first_value-rows (found_of c.in-Ok.matches) (codes "forms") in
    rw (p.1, p.2) (λ taken. c.in_err-language.ensures.refused
    (names_known (texts c.args.words.now) (rows_found c.in-Ok.matches) _ c.in-Ok.ensures.rows found taken))

pub options_of-requires-clause-language : goal.options_of-requires-clause-language
options_of-requires-clause-language c =
    c.in_ok-language.ensures.named
    ∙ ap language_in (c.get_str.ensures ∙ first_value-rows (found_of c.in-Ok.matches) (codes "forms"))

pub returns-clause-usable : goal.returns-clause-usable
returns-clause-usable c = usable_by (rows_found c.in-Ok.matches) _ c.in-Ok.ensures.whole c.in_ok-options_of.ensures

pub returns-clause-asked : goal.returns-clause-asked
returns-clause-asked c =
    let found = c.get_str.ensures ∙ first_value-rows (found_of c.in-Ok.matches) (codes "forms") in
    asks_by (texts c.args.words.now) (rows_found c.in-Ok.matches) _ c.in-Ok.ensures.rows found _ c.in-Ok.ensures.taken
    c.in_ok-language.ensures.known c.in_ok-options_of.ensures
