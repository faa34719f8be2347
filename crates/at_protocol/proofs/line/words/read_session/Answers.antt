use Rattle.std.proofs.Common.{◌≡◌, sym, ◌∙◌, arith}
use Rattle.std.proofs.lemmas.Fmt.{decimal_injective}
use Rattle.at_protocol.proofs.line.words.read_session.Goals as goal

pub returns-in_default : goal.returns-in_default
returns-in_default c = λ n small is. c.in_default.ensures n (omega (arith, small)) is

pub returns-else-session-lt-MAX_SESSIONS : goal.returns-else-session-lt-MAX_SESSIONS
returns-else-session-lt-MAX_SESSIONS c = λ n small is.
    let same : c.in-Some.session ≡ n = decimal_injective c.in-Some.session n (omega arith) (omega (arith, small)) (sym c.in-Some.ensures ∙ is) in
    omega (arith, c.if-session-lt-MAX_SESSIONS.false, same, small)
