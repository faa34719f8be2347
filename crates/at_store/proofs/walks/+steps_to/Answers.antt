use Rattle.std.proofs.Common.{◌≡◌, ◌<◌, subst, ◌++◌, [], ◌∷◌, Some, inl, inr, sym, ap, ◌∙◌, arith}
use Rattle.std.specs.List.{slice_get}
use Rattle.std.proofs.lemmas.List.{map-append, nil_from_length}
use Rattle.at_class.specs.View.{part_view}
use Rattle.at_model.specs.Paths.{Step, index_in as index_of, path_of}
use Rattle.at_model.specs.Classes.{parts}
use Rattle.at_tree.specs.PathView.{step_view, steps_view}
use Rattle.at_store.specs.Memory.{class_in, index_in}
use Rattle.at_store.specs.Numbers.{relabel}
use Rattle.at_store.specs.View.{memory_of}
use Rattle.at_model.specs.Paths.{IsPath}
use Rattle.at_store.proofs.Named.{step_written}
use Rattle.at_store.proofs.Upward.{joined, no_step, step_made, up_none}
use Rattle.at_store.proofs.walks.+steps_to.Goals as goal

pub returns-in_default-clause-led : goal.returns-in_default-clause-led
returns-in_default-clause-led t c s n p h found short is =
    let memory = memory_of c.args.slab.now in
    let e = up_none memory s h c.args.node n found (sym c.up_at.ensures ∙ c.in_default.is) in
    let same : [] ≡ p = (let g : Some [] ≡ Some p = sym (ap (path_of c.args.classes.now (relabel (class_in memory) s)) e) ∙ is in cc) in
    ap steps_view c.new-in_default.ensures.items ∙ same

pub returns-in_default-part_of-clause-led : goal.returns-in_default-part_of-clause-led
returns-in_default-part_of-clause-led t c s n p h found short is =
    let memory = memory_of c.args.slab.now in
    let j = joined memory s h c.args.classes.now c.args.node c.in-Some.place.0 c.in-Some.place.1 n p found (sym c.up_at.ensures ∙ c.in-Some.is) is in
    absurd (no_step c.args.classes.now (class_in memory c.in-Some.place.0) c.in-Some.place.1
    (index_in (memory c.args.node)) j.step (ap (λ k. slice_get (parts c.args.classes.now k) c.in-Some.place.1)
    (sym c.class_at.ensures) ∙ sym c.in_default-part_of.ensures.found) j.step_is)

pub returns-clause-led : goal.returns-clause-led
returns-clause-led t c s n p h found short is =
    let memory = memory_of c.args.slab.now in
    let j = joined memory s h c.args.classes.now c.args.node c.in-Some.place.0 c.in-Some.place.1 n p found (sym c.up_at.ensures ∙ c.in-Some.is) is in
    let front = c.in_ok-steps.ensures.led s j.node j.front h j.stands (omega (arith, short, j.shorter)) j.front_is in
    let step = step_made c.args.classes.now (class_in memory c.in-Some.place.0) c.in-Some.place.1
    (index_in (memory c.args.node)) (part_view c.in-Some-part_of.component.now) j.step
    (ap (λ k. slice_get (parts c.args.classes.now k) c.in-Some.place.1) (sym c.class_at.ensures)
    ∙ sym c.in-Some-part_of.ensures.found) j.step_is in
    ap steps_view c.in_ok-push.ensures.items ∙ map-append step_view c.in_ok-steps.steps.items (c.in_ok-step_by.field-0 ∷ []) ∙ ap (λ ss. ss ++ step_view c.in_ok-step_by.field-0 ∷ []) front ∙
    ap (λ x. j.front ++ x ∷ []) (c.in_ok-step_by.ensures ∙ ap (λ k. let x : Step = record {
      part = (part_view
          c.in-Some-part_of.component.now).name;
      index = index_of (part_view c.in-Some-part_of.component.now).shape k;
    } in
    x) (c.index_at.ensures (c.requires c.args.node).0) ∙ step) ∙ sym j.whole

pub returns-clause-written : goal.returns-clause-written
returns-clause-written t c =
    let p = part_view c.in-Some-part_of.component.now in
    let front = steps_view c.in_ok-steps.steps.items in
    subst IsPath (sym (ap steps_view c.in_ok-push.ensures.items ∙ map-append step_view c.in_ok-steps.steps.items (c.in_ok-step_by.field-0 ∷ [])))
    (step_written front p c.index_at.result (step_view c.in_ok-step_by.field-0) c.in_ok-steps.ensures.written
    (c.in-Some-part_of.ensures.named p (sym c.in-Some-part_of.ensures.found)) (subst (λ i. i < 16777216)
    (sym (c.index_at.ensures (c.requires c.args.node).0)) (c.requires c.args.node).1) c.in_ok-step_by.ensures)

pub returns-then-most-eq0-clause-apart : goal.returns-then-most-eq0-clause-apart
returns-then-most-eq0-clause-apart t c s n h found short = inl (nil_from_length n (omega (arith, short, c.if-most-eq0.true)))

pub returns-in_default-clause-apart : goal.returns-in_default-clause-apart
returns-in_default-clause-apart t c s n h found short = inl (up_none (memory_of c.args.slab.now) s h c.args.node n found (sym c.up_at.ensures ∙ c.in_default.is))

pub returns-in_default-part_of-clause-apart : goal.returns-in_default-part_of-clause-apart
returns-in_default-part_of-clause-apart t c s n h found short = inr c.in_default-part_of.ensures.apart

pub returns-clause-apart : goal.returns-clause-apart
returns-clause-apart t c s n h found short = inr c.in-Some-part_of.ensures.apart
