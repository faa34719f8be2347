use Rattle.std.proofs.Common.{◌≡◌, ◌+◌, ◌∙◌, ℕ, List, length, ap, arith, map, refl, sym}
use Rattle.at_model.specs.Bodies.{Name}
use Rattle.at_model.specs.Run.{Gives, Run, Value as ModelValue}
use Rattle.at_body.specs.Values.{value_view}
use Rattle.at_body.specs.declared.value.Value.{Value}
use Rattle.at_body.proofs.HandedOn.{none_more, one_more}
use Rattle.at_evaluate.proofs.here.are_names.Goals as goal

pub loop-index-init : goal.loop-index-init
loop-index-init c = λ classes p bound same h. h

pub loop-index-preserved : goal.loop-index-preserved
loop-index-preserved c = λ classes p bound same h.
    let many : length p.passed ≡ length c.args.arguments.now = ap (λ (vs : List Value). length vs) same in
    c.loop-index.invariant classes p bound same (one_more classes p c.args.passed.now c.loop-index.index _ c.index-passed-index.result refl (omega arith) (omega (arith, many)) c.index-passed-index.is
    (c.if-not-is_passed.ensures refl ∙ ap (λ n. Name (n + c.loop-index.index)) (sym bound)) h)

pub returns : goal.returns
returns c = λ yes classes p bound same.
    let many : length p.passed ≡ length c.args.arguments.now = ap (λ (vs : List Value). length vs) same in
    c.loop-index.invariant classes p bound same (none_more classes p c.args.passed.now c.loop-index.index (omega arith) (omega (arith, many)))
    ∙ ap (λ (vs : List Value). let r : Run ℕ (List (ModelValue ℕ)) = Gives (map value_view vs) in r) same
