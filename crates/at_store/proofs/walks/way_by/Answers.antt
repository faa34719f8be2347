use Rattle.std.proofs.Common.{◌≡◌, ◌<◌, None, Some, length, sym, subst, ap, ◌∙◌, arith, option_map}
use Rattle.std.proofs.lemmas.List.{length-map}
use Rattle.at_class.specs.View.{part_view, shape_view}
use Rattle.at_model.specs.Paths.{place_in, part_named}
use Rattle.at_tree.specs.PathView.{step_view}
use Rattle.at_store.proofs.Parts.{step_nowhere, step_there}
use Rattle.at_store.proofs.walks.way_by.Goals as goal

pub returns-then-index-len : goal.returns-then-index-len
returns-then-index-len c = sym (step_nowhere c.args.classes.now c.args.class (step_view c.args.step.now) (omega (arith, c.if-index-len.true, c.len.ensures.len, c.index.ensures)))

pub returns-in_err-index : goal.returns-in_err-index
returns-in_err-index c =
    let same = c.parts.ensures in
    let named : part_named c.args.classes.now c.args.class (step_view c.args.step.now).part ≡ Some c.in_ok-part.part =
    ap (part_named c.args.classes.now c.args.class) (sym c.as_str.ensures.value) ∙ sym c.in_ok-part.ensures.found in
    let within : c.in_ok-part.part < length c.parts.result.now = subst (λ n. c.in_ok-part.part < n) (ap length (sym same) ∙ length-map c.parts.result.now part_view) c.in_ok-part.ensures.within in
    let place : place_in (shape_view c.index-parts-part.result.shape) c.args.step.now.index ≡ None = ap (λ q.
    place_in (shape_view q.shape) c.args.step.now.index) c.index-parts-part.is ∙ sym c.in_err-index.ensures in
    c.from_residual-in_err-index.ensures ∙ sym (step_there c.args.classes.now c.args.class (step_view c.args.step.now)
    c.in_ok-part.part c.parts.result.now c.index-parts-part.result same named within c.index-parts-part.is
    ∙ ap (option_map (λ i. (c.in_ok-part.part, i))) place)

pub returns : goal.returns
returns c =
    let same = c.parts.ensures in
    let named : part_named c.args.classes.now c.args.class (step_view c.args.step.now).part ≡ Some c.in_ok-part.part =
    ap (part_named c.args.classes.now c.args.class) (sym c.as_str.ensures.value) ∙ sym c.in_ok-part.ensures.found in
    let within : c.in_ok-part.part < length c.parts.result.now = subst (λ n. c.in_ok-part.part < n) (ap length (sym same) ∙ length-map c.parts.result.now part_view) c.in_ok-part.ensures.within in
    let place : place_in (shape_view c.index-parts-part.result.shape) c.args.step.now.index ≡ Some c.in_ok-index.index =
    ap (λ q. place_in (shape_view q.shape) c.args.step.now.index) c.index-parts-part.is
    ∙ sym c.in_ok-index.ensures in
    sym (step_there c.args.classes.now c.args.class (step_view c.args.step.now) c.in_ok-part.part c.parts.result.now
    c.index-parts-part.result same named within c.index-parts-part.is
    ∙ ap (option_map (λ i. (c.in_ok-part.part, i))) place)
