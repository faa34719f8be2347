use Rattle.std.proofs.Common.{◌∙◌, ap, sym, Some, option_map}
use Rattle.std.proofs.lemmas.Result.{IfOk-weaker}
use Rattle.clap.specs.Words.{found_of}
use Rattle.clap.proofs.CallerLemmas.{some_of_text}
use Rattle.clap.proofs.WalkLemmas.{first_value-rows}
use Rattle.attrd.proofs.options.words.file_of.Goals as goal

pub unwrap-requires : goal.unwrap-requires
unwrap-requires c =
    some_of_text _ c.get_str.result _ (c.get_str.ensures ∙ first_value-rows (found_of c.args.matches.now) c.args.name.now) c.requires

pub returns : goal.returns
returns c =
    IfOk-weaker c.from_str.result _ _ (λ text same. ap Some same
    ∙ (ap (option_map (λ s. s.now)) (sym c.unwrap.ensures)
    ∙ (c.get_str.ensures ∙ first_value-rows (found_of c.args.matches.now) c.args.name.now))) c.from_str.ensures.ok
