use Rattle.std.proofs.Common.{sym, ◌∙◌}
use Rattle.at_text.proofs.Reserved.{reserved_with_no_letter}
use Rattle.at_text.proofs.names.is_reserved.Goals as goal

pub returns : goal.returns
returns c = reserved_with_no_letter c.args.word.now c.first_byte-first.result c.first_byte-first.ensures (sym c.is_ascii_lowercase.ensures.value ∙ c.if-is_ascii_lowercase.false) c.if-first-eq83.false
