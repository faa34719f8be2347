use Rattle.std.proofs.Common.{refl}
use Rattle.std.proofs.lemmas.Result.{err_from_is_err_and}
use Rattle.at_java.proofs.Then.{then_got, then_fails}
use Rattle.at_java.proofs.Nexts.{then_on}
use Rattle.at_java.proofs.reader.Reader.target.Goals as goal

pub returns-in_err-class-clause-fault : goal.returns-in_err-class-clause-fault
returns-in_err-class-clause-fault c =
    let p = err_from_is_err_and c.from_residual.result c.from_residual.ensures.1 in
    rw (p.1, p.2) (then_fails _ _ _ _ c.in_err-class.ensures.fault)

pub returns-in_err-expects-clause-fault : goal.returns-in_err-expects-clause-fault
returns-in_err-expects-clause-fault c =
    let p = err_from_is_err_and c.from_residual-in_err-expects.result c.from_residual-in_err-expects.ensures.1 in
    rw (p.1, p.2) (then_on _ _ _ _ _ _ c.in_ok-class.ensures.found (then_fails _ _ _ _ c.in_err-expects.ensures.fault))

pub returns-in_err-name-clause-fault : goal.returns-in_err-name-clause-fault
returns-in_err-name-clause-fault c =
    let p = err_from_is_err_and c.from_residual-in_err-name.result c.from_residual-in_err-name.ensures.1 in
    rw (p.1, p.2) (then_on _ _ _ _ _ _ c.in_ok-class.ensures.found (then_on _ _ _ _ _ _ c.in_ok-expects.ensures.found (then_fails _ _ _ _ c.in_err-name.ensures.fault)))

pub returns-in_err-params-clause-fault : goal.returns-in_err-params-clause-fault
returns-in_err-params-clause-fault c =
    let f = rw c.as_str.ensures.value at c.in_err-params.ensures.fault in
    let p = err_from_is_err_and c.from_residual-in_err-params.result c.from_residual-in_err-params.ensures.1 in
    rw (p.1, p.2) (then_on _ _ _ _ _ _ c.in_ok-class.ensures.found (then_on _ _ _ _ _ _ c.in_ok-expects.ensures.found (then_on _ _ _ _ _ _ c.in_ok-name.ensures.found (then_fails _ _ _ _ f))))

pub returns-clause-found : goal.returns-clause-found
returns-clause-found c =
    let f = rw c.as_str.ensures.value at c.in_ok-params.ensures.found in
    then_got _ _ _ _ _ c.in_ok-class.ensures.found (then_got _ _ _ _ _ c.in_ok-expects.ensures.found (then_got _ _ _ _ _ c.in_ok-name.ensures.found (then_got _ _ _ _ _ f refl)))
