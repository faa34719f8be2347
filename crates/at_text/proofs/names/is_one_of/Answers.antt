use Rattle.std.proofs.Common.{◌∙◌}
use Rattle.std.specs.Str.{bytes_eq}
use Rattle.at_text.proofs.Reserved.{any_seen}
use Rattle.at_text.proofs.names.is_one_of.Goals as goal

pub returns : goal.returns
returns c = c.contains.ensures.value ∙ any_seen (λ w. bytes_eq w c.args.word.now) (λ w. w.now) c.args.words.now
