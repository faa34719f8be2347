use Rattle.std.proofs.Common.{sym, ◌∙◌}
use Rattle.at_text.proofs.Decimals.{never_unequal}
use Rattle.at_protocol.proofs.Numbers.{equal}
use Rattle.at_protocol.proofs.Places.{no_steps, steps_answer}
use Rattle.at_protocol.proofs.line.places.read_steps.Goals as goal

pub returns-then-eq : goal.returns-then-eq
returns-then-eq c = λ steps h. no_steps c.args.text.now (equal _ _ _ c.eq.ensures c.if-eq.true) steps h

pub returns : goal.returns
returns c = steps_answer c.args.text.now c.read_whole_path.result (sym c.is_empty.ensures ∙ c.if-is_empty.false) (λ is. never_unequal _ _ _ is c.eq.ensures c.if-eq.false) c.read_whole_path.ensures
