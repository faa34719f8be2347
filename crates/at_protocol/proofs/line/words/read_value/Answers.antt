use Rattle.std.proofs.Common.{sym}
use Rattle.at_text.proofs.Decimals.{same_int}
use Rattle.at_protocol.proofs.Numbers.{equal}
use Rattle.at_protocol.proofs.line.words.read_value.Goals as goal

pub returns-then-eq : goal.returns-then-eq
returns-then-eq c = (tt, sym (equal _ _ _ c.eq.ensures c.if-eq.true))

pub returns-then-eq-2 : goal.returns-then-eq-2
returns-then-eq-2 c = (tt, sym (equal _ _ _ c.eq-2.ensures c.if-eq-2.true))

pub returns-in-Some : goal.returns-in-Some
returns-in-Some c = rw (same_int c.in-Some.value c.in-Some.ensures.0) (c.in-Some.ensures.0, sym c.in-Some.ensures.1)
