use Rattle.std.proofs.Common.{◌++◌, ◌∙◌, ap, arith, length, sym}
use Rattle.std.specs.Vec.Iter.{into_iter_items}
use Rattle.at_java.proofs.AspectLists.{one_moved, all_moved}
use Rattle.at_java.proofs.reader.files.append.Goals as goal

pub loop-constant-preserved : goal.loop-constant-preserved
loop-constant-preserved c =
    let at = c.loop-constant in
    let steps = c.in-Some.ensures.steps in
    (one_moved at.all.items _ c.in-Some.constant _ _ _ steps.0 c.in_ok-push.ensures.items at.invariant.0, omega (arith, at.invariant.1, steps.1, ap length steps.0))

pub returns : goal.returns
returns c =
    let at = c.loop-constant in
    all_moved at.all.items (into_iter_items at.constant-iterator) _ (sym at.invariant.1 ∙ c.in-None.ensures.steps.0) at.invariant.0
    ∙ ap (λ xs. c.args.all.now.items ++ xs) c.into_iter-constant-iterator.ensures.into_iter_gives.0
