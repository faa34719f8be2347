use Rattle.std.proofs.Common.{◌≡◌, ◌<◌, ◌++◌, ◌∷◌, [], length, ap, sym, ◌∙◌, subst, rules, arith, eqb-true}
use Rattle.std.specs.Prelude.{IsUtf8}
use Rattle.std.proofs.lemmas.Bool.Decides.{nat_tests}
use Rattle.std.proofs.lemmas.List.{map-append}
use Rattle.std.proofs.lemmas.Result.{err_from_is_err_and}
use Rattle.at_tree.specs.PathView.{steps_view, step_view}
use Rattle.at_tree.proofs.PathFronts.{HasRead, nothing_yet, one_step_more, less, stops_behind, no_slash, all_steps, counted, not_root}
use Rattle.at_tree.proofs.path.read.whole_path.Goals as goal

pub loop-behind-init : goal.loop-behind-init
loop-behind-init c =
    (c.utf8.text, nothing_yet _ (steps_view c.in_ok-steps.steps.items) c.utf8.text (not_root c.args.text.now (sym c.is_root.ensures ∙ c.if-is_root.false)) (ap steps_view c.in_ok-steps.ensures.items))

pub loop-behind-preserved : goal.loop-behind-preserved
loop-behind-preserved c =
    let ss = steps_view c.loop-behind.steps.items in
    let s = step_view c.in_ok-step.step in
    let next = c.in_ok-step.next.now in
    let text : IsUtf8 next = search rules in
    let pushed : steps_view c.push.new.self.items ≡ ss ++ s ∷ [] = ap steps_view c.in_ok-push.ensures.items ∙ map-append step_view c.loop-behind.steps.items (c.in_ok-step.step ∷ []) in
    let more = one_step_more _ _ c.in-Some.behind.now next ss s c.loop-behind.invariant.1 c.in-Some.ensures (c.in_ok-step.ensures.taken ss) in
    (text, subst (HasRead c.args.text.now next) (sym pushed) more)

pub loop-behind-smaller : goal.loop-behind-smaller
loop-behind-smaller c =
    let ss = steps_view c.loop-behind.steps.items in
    less _ c.in-Some.behind.now c.in_ok-step.next.now ss (step_view c.in_ok-step.step) c.in-Some.ensures (c.in_ok-step.ensures.taken ss)

pub returns-in_err-step-clause-stops : goal.returns-in_err-step-clause-stops
returns-in_err-step-clause-stops c =
    let p = err_from_is_err_and c.from_residual-in_err-step.result c.from_residual-in_err-step.ensures.1 in
    let ss = steps_view c.loop-behind.steps.items in
    rw (p.1, p.2)
    (stops_behind c.args.text.now c.loop-behind.rest.now c.in-Some.behind.now ss _ c.loop-behind.invariant.1 c.in-Some.ensures (c.in_err-step.ensures.stops ss))

pub returns-then-is_empty-clause-stops : goal.returns-then-is_empty-clause-stops
returns-then-is_empty-clause-stops c =
    let steps = c.loop-behind.steps in
    no_slash _ _ _ c.loop-behind.invariant.1 c.in_default.ensures (λ _. counted steps.items _ _ c.is_empty.ensures steps.ok.0 ∙ c.if-is_empty.true)

pub returns-then-not-is_empty-clause-stops : goal.returns-then-not-is_empty-clause-stops
returns-then-not-is_empty-clause-stops c =
    let some : 0 < length c.loop-behind.rest.now = grind (arith, nat_tests, sym c.is_empty-2.ensures ∙ c.if-not-is_empty.true) in
    no_slash _ _ _ c.loop-behind.invariant.1 c.in_default.ensures (λ is. absurd (omega (arith, some, ap length is)))

pub returns-clause-found : goal.returns-clause-found
returns-clause-found c =
    let steps = c.loop-behind.steps in
    let end = eqb-true (length c.loop-behind.rest.now) 0 (sym c.is_empty-2.ensures ∙ c.if-not-is_empty.false) in
    all_steps _ _ _ c.loop-behind.invariant.1 end (counted steps.items _ _ c.is_empty.ensures steps.ok.0 ∙ c.if-is_empty.false)
