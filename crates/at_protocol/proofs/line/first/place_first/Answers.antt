use Rattle.std.proofs.lemmas.Result.{err_from_is_err_and}
use Rattle.at_protocol.specs.Words.{IsPlaceText}
use Rattle.at_protocol.proofs.Answering.{no_first, first_is, first_fails}
use Rattle.at_protocol.proofs.line.first.place_first.Goals as goal

pub returns-in_err-word : goal.returns-in_err-word
returns-in_err-word c =
    let p = err_from_is_err_and c.from_residual.result c.from_residual.ensures.1 in
    rw (p.1, p.2, c.in_err-word.ensures.0) (λ first h. no_first IsPlaceText c.args.text.now first c.in_err-word.ensures.1 h)

pub returns-in_err-read_place : goal.returns-in_err-read_place
returns-in_err-read_place c =
    let p = err_from_is_err_and c.from_residual-in_err-read_place.result c.from_residual-in_err-read_place.ensures.1 in
    let cut = c.in_ok-word.ensures in
    rw (p.1, p.2) (first_fails IsPlaceText _ _ _ _ cut.0 cut.1 c.in_err-read_place.ensures)

pub returns : goal.returns
returns c =
    let cut = c.in_ok-word.ensures in
    first_is IsPlaceText _ _ _ _ cut.0 cut.1 c.in_ok-read_place.ensures
