use Rattle.std.proofs.Common.{◌∙◌, ap, sym, Some, map, option_map}
use Rattle.std.proofs.lemmas.Result.{IfOk-weaker}
use Rattle.clap.specs.Words.{found_of, rows_of}
use Rattle.clap.proofs.CallerLemmas.{some_of_text}
use Rattle.clap.proofs.WalkLemmas.{raw_values-rows}
use Rattle.attrd.proofs.OptionsRead.{all_some}
use Rattle.attrd.proofs.options.words.files_of.Goals as goal

pub unwrap-requires : goal.unwrap-requires
unwrap-requires c =
    let found = found_of c.args.matches.now in
    some_of_text _ c.get_strs.result _ (c.get_strs.ensures ∙ raw_values-rows found c.args.name.now)
    (all_some c.args.name.now (rows_of found) c.requires)

pub returns : goal.returns
returns c =
    IfOk-weaker c.copies.result _ _ (λ texts same. ap Some same
    ∙ (ap (option_map (λ s. map (λ v. v.now) s.now)) (sym c.unwrap.ensures)
    ∙ (c.get_strs.ensures ∙ raw_values-rows (found_of c.args.matches.now) c.args.name.now))) c.copies.ensures
