use Rattle.std.proofs.Common.{arith, subst}
use Rattle.std.proofs.lemmas.Result.{err_from_is_err_and}
use Rattle.at_model.specs.Lines.{IsSessionOf}
use Rattle.at_protocol.proofs.Lines.{needs_session, needs_space, needs_expected, is_head, line_is_utf8}
use Rattle.at_protocol.proofs.Sessions.{session_read, word_first}
use Rattle.at_protocol.proofs.line.read_head.Goals as goal

pub returns-in_default : goal.returns-in_default
returns-in_default c = λ l h. c.in_default.ensures.cases.0 (line_is_utf8 _ l h)

pub returns-in_default-read_session : goal.returns-in_default-read_session
returns-in_default-read_session c =
    let cut = c.in_ok-word.ensures in
    needs_session _ _ (session_read c.args.line.now c.in_ok-word.word.now c.read_session.result (word_first _ _ _ _ c.in-Ok.ensures.cases.0 cut.0 cut.1) c.read_session.ensures) c.in_default-read_session.is

pub returns-in_err-word : goal.returns-in_err-word
returns-in_err-word c =
    let p = err_from_is_err_and c.from_residual.result c.from_residual.ensures.1 in
    rw (p.1, p.2, c.in_err-word.ensures.0) (needs_space _ _ c.in-Ok.ensures.cases.0 c.in_err-word.ensures.1)

pub returns-in_err-expected : goal.returns-in_err-expected
returns-in_err-expected c =
    let p = err_from_is_err_and c.from_residual-in_err-expected.result c.from_residual-in_err-expected.ensures.1 in
    let cut = c.in_ok-word.ensures in
    rw (p.1, p.2) (needs_expected _ _ _ _ _ c.in-Ok.ensures.cases.0 cut.0 cut.1 c.in_err-expected.ensures)

pub returns : goal.returns
returns c =
    let cut = c.in_ok-word.ensures in
    let session = session_read c.args.line.now c.in_ok-word.word.now c.read_session.result (word_first _ _ _ _ c.in-Ok.ensures.cases.0 cut.0 cut.1) c.read_session.ensures in
    let begins = subst (IsSessionOf c.args.line.now) c.in-Some.is session in
    is_head c.args.line.now _ _ _ _ c.in-Some.session _ c.in-Ok.ensures.cases.0 cut.0 cut.1 begins c.in_ok-expected.ensures (omega (arith, c.if-line-gt-MAX_LINE.false))
