use Rattle.at_text.proofs.Decimals.{never_unequal}
use Rattle.at_protocol.proofs.CommandsLemmas.{no_word}
use Rattle.at_protocol.proofs.line.commands.read_word.Goals as goal

pub returns-else-eq : goal.returns-else-eq
returns-else-eq c = λ command h. no_word _ command c.requires (λ is. never_unequal _ _ _ is c.eq.ensures c.if-eq.false) h
