use Rattle.at_grammar.proofs.Tokens.{took_sign}
use Rattle.at_grammar.proofs.reader.Reader.takes.Goals as goal

pub returns : goal.returns
returns c = rw c.is_some.ensures (took_sign _ c.takes_sign.result _ _ c.takes_sign.ensures)
