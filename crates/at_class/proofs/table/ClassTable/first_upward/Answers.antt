use Rattle.std.proofs.Common.{◌≡◌, ◌-◌, ◌+◌, ◌≤◌, ◌<◌, Some, None, length, arith, sym, subst}
use Rattle.at_model.specs.Classes.{chain}
use Rattle.at_class.proofs.FirstUpward.{Finds, none_on_top, none_at_end, found_here, found_above}
use Rattle.at_class.proofs.table.ClassTable.first_upward.Goals as goal

pub loop-step-init : goal.loop-step-init
loop-step-init g c =
    let n : length c.args.self.now - 0 ≡ length c.args.self.now = omega arith in
    λ found. subst (λ m. Finds (goal.F-post g c.args.answer) c.args.self.now m (Some c.args.class) found) n

pub returns-in_default : goal.returns-in_default
unfolding chain
returns-in_default g c =
    let classes = c.args.self.now in
    let n = length classes - c.loop-step.step in
    let Answers = goal.F-post g c.args.answer in
    c.loop-step.invariant None (subst (λ o. Finds Answers classes n o None) (sym c.in_default.is) (none_on_top Answers classes n))

pub returns-in-Some-answer : goal.returns-in-Some-answer
unfolding chain
returns-in-Some-answer g c =
    let classes = c.args.self.now in
    let n = length classes in
    let i = c.loop-step.step in
    let Answers = goal.F-post g c.args.answer in
    let found = Some c.in-Some-answer.found in
    let less : i < n = omega (arith, c.len-step-end.ensures.len) in
    c.loop-step.invariant found (subst (λ o. Finds Answers classes (n - i) o found) (sym c.in-Some.is)
    (found_here Answers classes n i c.in-Some.met c.in-Some-answer.found less c.in-Some-answer.ensures))

pub loop-step-preserved : goal.loop-step-preserved
loop-step-preserved g c =
    let classes = c.args.self.now in
    let n = length classes in
    let i = c.loop-step.step in
    let Answers = goal.F-post g c.args.answer in
    let less : i < n = omega (arith, c.len-step-end.ensures.len) in
    λ found h.
    let above = subst (λ o. Finds Answers classes (n - (i + 1)) o found) c.parent-next.ensures.found h in
    c.loop-step.invariant found (subst (λ o. Finds Answers classes (n - i) o found) (sym c.in-Some.is)
    (found_above Answers classes n i c.in-Some.met found less c.in_default-answer.ensures above))

pub returns : goal.returns
unfolding chain
returns g c =
    let classes = c.args.self.now in
    let n = length classes in
    let Answers = goal.F-post g c.args.answer in
    let end : n ≤ c.loop-step.step = omega (arith, c.len-step-end.ensures.len) in
    c.loop-step.invariant None (none_at_end Answers classes n c.loop-step.step c.loop-step.next end)
