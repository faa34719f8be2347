use Rattle.std.proofs.Common.{◌∙◌}
use Rattle.clap.specs.Words.{found_of, one_of, rows_of}
use Rattle.clap.proofs.WalkLemmas.{one_text-rows}
use Rattle.attrd.proofs.OptionsRead.{flag_read}
use Rattle.attrd.proofs.options.words.has_flag.Goals as goal

pub returns : goal.returns
returns c =
    let found = found_of c.args.matches.now in
    let same = one_text-rows found c.args.name.now in
    flag_read (one_of c.args.name.now (rows_of found)) c.get_flag.result
    (λ none. c.get_flag.ensures.none (same ∙ none)) (λ yes. c.get_flag.ensures.value (same ∙ yes))
    (λ off. c.get_flag.ensures.other (same ∙ off)) c.requires
