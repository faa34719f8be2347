use Rattle.std.proofs.Common.{Err}
use Rattle.std.proofs.lemmas.Result.{err_from_is_err_and}
use Rattle.at_kinds.specs.Judging.{and_then, list_called}
use Rattle.at_kinds.specs.Typed.{typed_view, all_view, list_view, scope_view}
use Rattle.at_kinds.proofs.Parts.{fault_in, made_in}
use Rattle.at_kinds.proofs.typing.Scope.list_call.Goals as goal

pub returns-in_err-receiver : goal.returns-in_err-receiver
returns-in_err-receiver c = λ j ks is_j is_ks.
    let p = err_from_is_err_and c.from_residual.result c.from_residual.ensures.1 in
    rw (p.1, p.2) (fault_in typed_view list_view (λ k. and_then (list_called (scope_view c.args.self.now) c.args.fold
    c.args.at c.args.name.now k) ks) j c.args.receiver c.in_err-receiver.field-0.0 c.in_err-receiver.was is_j)

pub returns-in_err-arguments : goal.returns-in_err-arguments
returns-in_err-arguments c = λ j ks is_j is_ks.
    let p = err_from_is_err_and c.from_residual-in_err-arguments.result c.from_residual-in_err-arguments.ensures.1 in
    rw (p.1, p.2) (made_in typed_view list_view
    (λ k. and_then (list_called (scope_view c.args.self.now) c.args.fold c.args.at c.args.name.now k) ks) j
    c.args.receiver c.in_ok-receiver.receiver (Err c.in_err-arguments.field-0.0) c.in_ok-receiver.was is_j (fault_in
    all_view list_view (list_called (scope_view c.args.self.now) c.args.fold c.args.at c.args.name.now (typed_view
    c.in_ok-receiver.receiver)) ks c.args.arguments c.in_err-arguments.field-0.0 c.in_err-arguments.was is_ks))

pub returns : goal.returns
returns c = λ j ks is_j is_ks.
    made_in typed_view list_view
    (λ k. and_then (list_called (scope_view c.args.self.now) c.args.fold c.args.at c.args.name.now k) ks) j
    c.args.receiver c.in_ok-receiver.receiver c.list_called.result c.in_ok-receiver.was is_j
    (made_in all_view list_view (list_called (scope_view c.args.self.now) c.args.fold c.args.at c.args.name.now
    (typed_view c.in_ok-receiver.receiver)) ks c.args.arguments c.in_ok-arguments.arguments c.list_called.result
    c.in_ok-arguments.was is_ks c.list_called.ensures)
