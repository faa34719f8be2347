use Rattle.std.proofs.Common.{◌∙◌, codes, lit<}
use Rattle.std.specs.Str.Parse.{ExplainsUnsignedError, HasUnsignedDigitsIfOk, ParsesUnsigned}
use Rattle.clap.specs.Words.{found_of, one_of, rows_of}
use Rattle.clap.proofs.WalkLemmas.{one_text-rows}
use Rattle.attrd.specs.Options.{max_nodes_asked}
use Rattle.attrd.proofs.OptionsRead.{given_read}
use Rattle.attrd.proofs.options.words.nodes_of.Goals as goal

pub returns : goal.returns
returns c =
    let found = found_of c.args.matches.now in
    let same = one_text-rows found (codes "nodes") in
    given_read 32 max_nodes_asked (lit< tt) _ (λ bs r. ParsesUnsigned 32 10 bs r × ExplainsUnsignedError 10 bs r × HasUnsignedDigitsIfOk bs r) (λ u x g. g.0)
    (one_of (codes "nodes") (rows_of found)) c.get_one.result
    (λ none. c.get_one.ensures.none (same ∙ none)) (λ text some. c.get_one.ensures.value text (same ∙ some)) c.requires
