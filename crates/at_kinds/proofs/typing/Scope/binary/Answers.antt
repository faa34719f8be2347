use Rattle.std.proofs.Common.{Err}
use Rattle.std.proofs.lemmas.Result.{err_from_is_err_and}
use Rattle.at_jrag.specs.View.{operator_view}
use Rattle.at_kinds.specs.Judging.{and_then, joined}
use Rattle.at_kinds.specs.Typed.{typed_view}
use Rattle.at_kinds.proofs.Parts.{fault_in, made_in}
use Rattle.at_kinds.proofs.typing.Scope.binary.Goals as goal

pub returns-in_err-left : goal.returns-in_err-left
returns-in_err-left c = λ j k is_j is_k.
    let p = err_from_is_err_and c.from_residual.result c.from_residual.ensures.1 in
    rw (p.1, p.2) (fault_in typed_view typed_view (λ a. and_then (joined c.args.at (operator_view c.args.sign) a) k) j c.args.left c.in_err-left.field-0.0 c.in_err-left.was is_j)

pub returns-in_err-right : goal.returns-in_err-right
returns-in_err-right c = λ j k is_j is_k.
    let p = err_from_is_err_and c.from_residual-in_err-right.result c.from_residual-in_err-right.ensures.1 in
    rw (p.1, p.2) (made_in typed_view typed_view (λ a. and_then (joined c.args.at (operator_view c.args.sign) a) k) j
    c.args.left c.in_ok-left.left (Err c.in_err-right.field-0.0) c.in_ok-left.was is_j
    (fault_in typed_view typed_view (joined c.args.at (operator_view c.args.sign) (typed_view c.in_ok-left.left)) k
    c.args.right c.in_err-right.field-0.0 c.in_err-right.was is_k))

pub returns : goal.returns
returns c = λ j k is_j is_k.
    made_in typed_view typed_view (λ a. and_then (joined c.args.at (operator_view c.args.sign) a) k) j c.args.left c.in_ok-left.left c.joined.result c.in_ok-left.was is_j
    (made_in typed_view typed_view (joined c.args.at (operator_view c.args.sign) (typed_view c.in_ok-left.left)) k
    c.args.right c.in_ok-right.right c.joined.result c.in_ok-right.was is_k c.joined.ensures)
