use Rattle.std.proofs.Common.{length, refl, sym, ◌∙◌}
use Rattle.std.proofs.lemmas.Bool.{eqb-true}
use Rattle.tries.specs.Worlds.{classes_at, RefersThere}
use Rattle.tries.proofs.Fitted.{all_first, first_fits, none_fit}
use Rattle.tries.proofs.instances.are_of.Goals as goal

pub loop-kind-init : goal.loop-kind-init
loop-kind-init c = (λ h. h, c.requires.there)

pub is_of-requires-clause-there : goal.is_of-requires-clause-there
is_of-requires-clause-there c = (all_first (RefersThere c.args.world.now) c.loop-kind.rest.now c.in-Some-split_first.value.now c.in-Some-split_first.others.now c.in-Some-split_first.ensures.cases.0 c.loop-kind.invariant.1).0

pub loop-kind-preserved : goal.loop-kind-preserved
loop-kind-preserved c =
    let w = c.args.world.now in
    let all = all_first (RefersThere w) c.loop-kind.rest.now c.in-Some-split_first.value.now c.in-Some-split_first.others.now c.in-Some-split_first.ensures.cases.0 c.loop-kind.invariant.1 in (
      λ h. c.loop-kind.invariant.0 (first_fits w.rules.classes (classes_at w) c.loop-kind.wanted.now c.in-Some.kind.now c.in-Some.other_kinds.now c.loop-kind.rest.now c.in-Some-split_first.value.now c.in-Some-split_first.others.now c.in-Some.ensures.cases.0 c.in-Some-split_first.ensures.cases.0 (c.if-not-is_of.ensures refl) h),
      all.1,
    )

pub returns : goal.returns
returns c h = c.loop-kind.invariant.0 (none_fit c.args.world.now.rules.classes (classes_at c.args.world.now) c.loop-kind.wanted.now c.loop-kind.rest.now c.in_default.ensures.cases (eqb-true (length c.loop-kind.rest.now) 0 (sym c.is_empty.ensures ∙ h)))
