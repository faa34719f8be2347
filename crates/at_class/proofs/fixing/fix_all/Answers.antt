use Rattle.std.proofs.Common.{◌≡◌, map, ap, sym, subst, take, ◌∙◌, ◌++◌, ◌∷◌, []}
use Rattle.std.specs.List.{AllByRecursion}
use Rattle.std.proofs.lemmas.List.{map_more}
use Rattle.at_class.specs.View.{classes_view}
use Rattle.at_class.specs.TreeView.{cell_view}
use Rattle.at_class.specs.Fixing.{Fixed, IsWritten, fixed_as, fixed_view, with_fixed}
use Rattle.at_class.proofs.FixedParts.{fixed_more, written_more}
use Rattle.at_class.proofs.fixing.fix_all.Goals as goal

pub loop-one-preserved : goal.loop-one-preserved
loop-one-preserved c =
    let fs = map fixed_view (take c.loop-one.one-index c.args.fixed.now) in
    let f = fixed_view c.one-item.result in
    let more = map_more fixed_view c.args.fixed.now c.loop-one.one-index c.one-item.result c.loop-one-test.true ∙ ap (λ y. fs ++ fixed_view y ∷ []) (sym c.one-item.is) in
    let cell : Fixed = record { class = f.class; part = f.part; cell = cell_view c.in_ok-written.field-0 } in
    let same : cell ≡ f = ap (λ x. record { class = f.class; part = f.part; cell = x }) c.in_ok-written.ensures.same in (
      c.fix.ensures ∙ (λ j. with_fixed (same j) (c.loop-one.invariant.0 j)) ∙ sym (fixed_more fs f (classes_view c.args.classes.items)) ∙ ap (λ gs. fixed_as gs (classes_view c.args.classes.items)) (sym more),
      subst (λ gs. AllByRecursion IsWritten gs) (sym more) (written_more fs f c.loop-one.invariant.1 (subst IsWritten same c.in_ok-written.ensures.tokens)),
    )
