use Rattle.std.proofs.Common.{ap, arith}
use Rattle.std.proofs.lemmas.Result.{err_from_is_err_and}
use Rattle.at_text.specs.Rows.{left}
use Rattle.at_java.specs.Seen.{declared_view}
use Rattle.at_java.proofs.DeclarationLists.{none_among, more_among, among_end, among_too_many, among_fails}
use Rattle.at_java.proofs.reader.Reader.declarations.Goals as goal

pub returns-in-Some-clause-found : goal.returns-in-Some-clause-found
returns-in-Some-clause-found c = among_end _ _ _ c.loop-end.room _ c.loop-end.invariant c.in-Some.end _ c.in-Some.ensures

pub returns-then-room-eq0-clause-fault : goal.returns-then-room-eq0-clause-fault
returns-then-room-eq0-clause-fault c =
    let same = ap (λ r. left r.rest.now) c.in_default.ensures.0 in
    among_too_many _ _ _ c.loop-end.room _ c.loop-end.invariant _ (omega (arith, c.if-room-eq0.true)) c.in_default.ensures.1 same

pub returns-in_err-item-clause-fault : goal.returns-in_err-item-clause-fault
returns-in_err-item-clause-fault c =
    let same = ap (λ r. left r.rest.now) c.in_default.ensures.0 in
    let p = err_from_is_err_and c.from_residual.result c.from_residual.ensures.1 in
    rw (p.1, p.2)
    (among_fails _ _ _ c.loop-end.room _ c.loop-end.invariant _ _ _ (omega (arith, c.if-room-eq0.false)) c.in_default.ensures.1 same c.in_err-item.ensures.fault)

pub loop-end-preserved : goal.loop-end-preserved
loop-end-preserved c =
    let same = ap (λ r. left r.rest.now) c.in_default.ensures.0 in
    more_among _ _ _ c.loop-end.room _ c.loop-end.invariant (declared_view c.in_ok-item.item) _ _ _ _ (omega (arith, c.if-room-eq0.false))
    c.in_default.ensures.1 same c.in_ok-item.ensures.found c.in_ok-takes.ensures.decls c.in_ok-takes.ensures.constants
