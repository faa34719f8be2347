use Rattle.std.proofs.Common.{inr}
use Rattle.std.proofs.lemmas.Result.{err_from_is_err_and}
use Rattle.at_jrag.proofs.reader.Reader.param.Goals as goal

pub returns-in_err-name-clause-missing : goal.returns-in_err-name-clause-missing
returns-in_err-name-clause-missing c =
    let p = err_from_is_err_and c.from_residual-in_err-name.result c.from_residual-in_err-name.ensures.1 in
    rw (p.1, p.2) (inr (_, _, c.in_ok-kind.ensures.found, c.in_err-name.ensures.missing))
