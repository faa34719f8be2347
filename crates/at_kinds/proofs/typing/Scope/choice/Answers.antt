use Rattle.std.proofs.Common.{Err}
use Rattle.std.proofs.lemmas.Result.{err_from_is_err_and}
use Rattle.at_kinds.specs.Judging.{and_then, chosen}
use Rattle.at_kinds.specs.Typed.{typed_view}
use Rattle.at_kinds.proofs.Parts.{fault_in, made_in}
use Rattle.at_kinds.proofs.typing.Scope.choice.Goals as goal

pub returns-in_err-test : goal.returns-in_err-test
returns-in_err-test c = λ i j k is_i is_j is_k.
    let p = err_from_is_err_and c.from_residual.result c.from_residual.ensures.1 in
    rw (p.1, p.2) (fault_in typed_view typed_view (λ x. and_then (λ a. and_then (chosen c.args.self.now.classes.now c.args.at x a) k) j) i c.args.test c.in_err-test.field-0.0 c.in_err-test.was is_i)

pub returns-in_err-left : goal.returns-in_err-left
returns-in_err-left c = λ i j k is_i is_j is_k.
    let p = err_from_is_err_and c.from_residual-in_err-left.result c.from_residual-in_err-left.ensures.1 in
    rw (p.1, p.2) (made_in typed_view typed_view
    (λ x. and_then (λ a. and_then (chosen c.args.self.now.classes.now c.args.at x a) k) j) i c.args.test
    c.in_ok-test.test (Err c.in_err-left.field-0.0) c.in_ok-test.was is_i (fault_in typed_view typed_view
    (λ a. and_then (chosen c.args.self.now.classes.now c.args.at (typed_view c.in_ok-test.test) a) k) j c.args.left
    c.in_err-left.field-0.0 c.in_err-left.was is_j))

pub returns-in_err-right : goal.returns-in_err-right
returns-in_err-right c = λ i j k is_i is_j is_k.
    let p = err_from_is_err_and c.from_residual-in_err-right.result c.from_residual-in_err-right.ensures.1 in
    rw (p.1, p.2) (made_in typed_view typed_view
    (λ x. and_then (λ a. and_then (chosen c.args.self.now.classes.now c.args.at x a) k) j) i c.args.test
    c.in_ok-test.test (Err c.in_err-right.field-0.0) c.in_ok-test.was is_i (made_in typed_view typed_view
    (λ a. and_then (chosen c.args.self.now.classes.now c.args.at (typed_view c.in_ok-test.test) a) k) j c.args.left
    c.in_ok-left.left (Err c.in_err-right.field-0.0) c.in_ok-left.was is_j (fault_in typed_view typed_view
    (chosen c.args.self.now.classes.now c.args.at (typed_view c.in_ok-test.test) (typed_view c.in_ok-left.left)) k
    c.args.right c.in_err-right.field-0.0 c.in_err-right.was is_k)))

pub returns : goal.returns
returns c = λ i j k is_i is_j is_k.
    made_in typed_view typed_view (λ x. and_then (λ a. and_then (chosen c.args.self.now.classes.now c.args.at x a) k) j) i c.args.test c.in_ok-test.test c.chosen.result c.in_ok-test.was is_i
    (made_in typed_view typed_view (λ a. and_then (chosen c.args.self.now.classes.now c.args.at
    (typed_view c.in_ok-test.test) a) k) j c.args.left c.in_ok-left.left c.chosen.result c.in_ok-left.was is_j
    (made_in typed_view typed_view
    (chosen c.args.self.now.classes.now c.args.at (typed_view c.in_ok-test.test) (typed_view c.in_ok-left.left)) k
    c.args.right c.in_ok-right.right c.chosen.result c.in_ok-right.was is_k c.chosen.ensures))
