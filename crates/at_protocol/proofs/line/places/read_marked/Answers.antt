use Rattle.std.proofs.lemmas.Result.{err_from_is_err_and}
use Rattle.at_protocol.proofs.Places.{name_fails, steps_fail}
use Rattle.at_protocol.proofs.line.places.read_marked.Goals as goal

pub returns-in_err-name : goal.returns-in_err-name
returns-in_err-name c =
    let p = err_from_is_err_and c.from_residual.result c.from_residual.ensures.1 in
    let cut = c.at_slash.ensures in
    rw (p.1, p.2) (name_fails _ _ _ _ cut.split cut.front cut.behind c.in_err-name.ensures)

pub returns-in_err-steps : goal.returns-in_err-steps
returns-in_err-steps c =
    let p = err_from_is_err_and c.from_residual-in_err-steps.result c.from_residual-in_err-steps.ensures.1 in
    let cut = c.at_slash.ensures in
    rw (p.1, p.2) (steps_fail _ _ _ _ cut.split cut.front cut.behind c.in_err-steps.ensures)
