use Rattle.std.proofs.Common.{map, ap, ◌∙◌, arith}
use Rattle.std.proofs.lemmas.List.{map_push}
use Rattle.std.proofs.lemmas.Result.{err_from_is_err_and}
use Rattle.at_text.specs.Rows.{left}
use Rattle.at_jrag.specs.View.{param_view}
use Rattle.at_java.proofs.ParamLists.{params_end, params_too_many, param_fails, comma_fails, param_read}
use Rattle.at_java.proofs.reader.Reader.some_params.Goals as goal

pub returns-then-room-eq0-clause-fault : goal.returns-then-room-eq0-clause-fault
returns-then-room-eq0-clause-fault c =
    params_too_many c.loop-room.room _ (map param_view c.loop-room.items.items) _ (omega (arith, c.if-room-eq0.true)) c.loop-room.invariant

pub returns-in_err-param-clause-fault : goal.returns-in_err-param-clause-fault
returns-in_err-param-clause-fault c =
    let p = err_from_is_err_and c.from_residual.result c.from_residual.ensures.1 in
    rw (p.1, p.2)
    (param_fails c.loop-room.room _ (map param_view c.loop-room.items.items) _ _ _
    (omega (arith, c.if-room-eq0.false)) c.loop-room.invariant c.in_err-param.ensures.fault)

pub returns-in-Some-clause-found : goal.returns-in-Some-clause-found
returns-in-Some-clause-found c =
    let q = ap (map param_view) c.in_ok-push.ensures.items ∙ map_push param_view c.loop-room.items.items c.in_ok-param.param in
    params_end c.loop-room.room _ (map param_view c.loop-room.items.items) (param_view c.in_ok-param.param) _ _ _ c.in-Some.end _
    (omega (arith, c.if-room-eq0.false)) c.loop-room.invariant c.in_ok-param.ensures.found c.in-Some.ensures q

pub returns-in_err-expects-clause-fault : goal.returns-in_err-expects-clause-fault
returns-in_err-expects-clause-fault c =
    let same = ap (λ r. left r.rest.now) c.in_default.ensures.0 in
    let p = err_from_is_err_and c.from_residual-in_err-expects.result c.from_residual-in_err-expects.ensures.1 in
    rw (p.1, p.2)
    (comma_fails c.loop-room.room _ (map param_view c.loop-room.items.items) (param_view c.in_ok-param.param) _ _ _ _ _
    (omega (arith, c.if-room-eq0.false)) c.loop-room.invariant c.in_ok-param.ensures.found c.in_default.ensures.1 same c.in_err-expects.ensures.fault)

pub loop-room-preserved : goal.loop-room-preserved
loop-room-preserved c =
    let same = ap (λ r. left r.rest.now) c.in_default.ensures.0 in
    let q = ap (map param_view) c.in_ok-push.ensures.items ∙ map_push param_view c.loop-room.items.items c.in_ok-param.param in
    param_read c.loop-room.room _ (map param_view c.loop-room.items.items) (param_view c.in_ok-param.param) _ _ _ _ _ _
    (omega (arith, c.if-room-eq0.false)) c.loop-room.invariant c.in_ok-param.ensures.found c.in_default.ensures.1 same c.in_ok-expects.ensures.found q
