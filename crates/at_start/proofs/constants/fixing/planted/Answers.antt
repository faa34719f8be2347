use Rattle.std.proofs.Common.{◌∙◌, ap, arith, length, map, sym}
use Rattle.std.proofs.lemmas.Bool.Decides.{nat_tests}
use Rattle.at_model.specs.Declarations.{classes_of}
use Rattle.at_class.specs.Fixing.{fixed_as, fixed_view}
use Rattle.at_class.specs.Grammar.{grammar_view}
use Rattle.at_start.specs.Constants.{fixes_over}
use Rattle.at_start.specs.PlacedView.{placed_view}
use Rattle.at_start.proofs.PlantingLevels.{level_first, level_step, steady_from}
use Rattle.at_start.proofs.constants.fixing.planted.Goals as goal

pub returns-then-are_same : goal.returns-then-are_same
returns-then-are_same c =
    let ds = grammar_view c.args.grammar.now in
    let ks = map placed_view c.args.constants.now in
    let at = c.loop-step.invariant in
    let same = c.are_same.ensures c.if-are_same.true in
    let kept = ap (map fixed_view) (sym c.deref.ensures.value) ∙ same ∙ ap (map fixed_view) c.deref-in-loop-step.ensures.value
    ∙ c.in_ok-next.ensures ∙ ap (λ b. fixes_over b ds ks) at.1 in (
      at.1 ∙ sym (steady_from ds ks c.loop-step.step (length c.args.constants.now) (map fixed_view c.loop-step.fixed.items) at.0
          (sym at.1 ∙ at.2) kept),
      at.3,
    )

pub loop-step-preserved : goal.loop-step-preserved
loop-step-preserved c =
    let ds = grammar_view c.args.grammar.now in
    let ks = map placed_view c.args.constants.now in
    let at = c.loop-step.invariant in
    let built = c.in_ok-classes.ensures.built ∙ ap (λ fs. fixed_as (map fixed_view fs) (classes_of ds)) c.deref-in-loop-step-2.ensures.value in (
      grind (arith, nat_tests),
      built ∙ ap (λ fs. fixed_as fs (classes_of ds)) (c.in_ok-next.ensures ∙ ap (λ b. fixes_over b ds ks) at.1) ∙ level_step ds ks c.loop-step.step,
      built,
      c.in_ok-classes.ensures.hierarchy,
    )

pub loop-step-init : goal.loop-step-init
loop-step-init c =
    let ds = grammar_view c.args.grammar.now in (
      omega arith,
      c.requires.first ∙ sym (level_first ds (map placed_view c.args.constants.now)),
      c.requires.first ∙ ap (λ fs. fixed_as (map fixed_view fs) (classes_of ds)) (sym c.new-fixed.ensures.items),
      c.requires.hierarchy,
    )
