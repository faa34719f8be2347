use Rattle.std.proofs.Common.{sym, ◌∙◌}
use Rattle.std.proofs.lemmas.Result.{err_from_is_err_and}
use Rattle.at_protocol.proofs.Places.{is_filled}
use Rattle.at_protocol.proofs.CallsLemmas.{no_call, name_fails, arguments_fail}
use Rattle.at_protocol.proofs.line.arguments.read_call.Goals as goal

pub returns-in_err-name : goal.returns-in_err-name
returns-in_err-name c =
    let p = err_from_is_err_and c.from_residual.result c.from_residual.ensures.1 in
    rw (p.1, p.2, c.in_err-name.ensures.0) (no_call _ c.in_err-name.ensures.1)

pub returns-in_err-attribute : goal.returns-in_err-attribute
returns-in_err-attribute c =
    let p = err_from_is_err_and c.from_residual-in_err-attribute.result c.from_residual-in_err-attribute.ensures.1 in
    let cut = c.in_ok-name.ensures in
    rw (p.1, p.2) (name_fails _ _ _ _ cut.0 cut.1 c.in_err-attribute.ensures)

pub returns-in_err-arguments : goal.returns-in_err-arguments
returns-in_err-arguments c =
    let p = err_from_is_err_and c.from_residual-in_err-arguments.result c.from_residual-in_err-arguments.ensures.1 in
    let cut = c.in_ok-name.ensures in
    rw (p.1, p.2) (arguments_fail _ _ _ _ cut.0 cut.1 (is_filled _ (sym c.is_empty.ensures ∙ c.if-is_empty.false)) c.in_err-arguments.ensures)
