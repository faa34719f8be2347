use Rattle.std.proofs.Common.{◌≡◌, ℕ, ◌<◌, suc, ◌+◌, Some, None, Bool, true, false, nat_eq, ap, sym, ◌∙◌, subst, arith, inl, inr, length}
use Rattle.std.specs.List.{slice_get}
use Rattle.std.proofs.lemmas.Bool.{eqb-true}
use Rattle.std.proofs.lemmas.Option.{slice_get-get_or}
use Rattle.at_store.specs.Memory.{or_first}
use Rattle.at_store.proofs.Arranged.{found_here, found_nowhere, one_less_found}
use Rattle.at_store.proofs.entry.searched.Goals as goal

pub loop-index-init : goal.loop-index-init
loop-index-init c = λ j less at'. absurd (omega (arith, less))

pub returns-then-eq : goal.returns-then-eq
returns-then-eq c =
    let less : c.loop-index.index < length c.args.kids.now = omega (arith, c.loop-index-test.true, c.loop-index.auto.index-end) in
    let at' : slice_get c.args.kids.now c.loop-index.index ≡ Some c.args.node =
    slice_get-get_or _ c.loop-index.index c.index-kids-index.result less
    ∙ ap Some (sym c.index-kids-index.is ∙ eqb-true _ _ (sym c.eq.ensures ∙ c.if-eq.true)) in
    sym (ap or_first (found_here c.args.kids.now c.args.node c.loop-index.index c.loop-index.invariant at'))

pub loop-index-preserved : goal.loop-index-preserved
loop-index-preserved c =
    let less : c.loop-index.index < length c.args.kids.now = omega (arith, c.loop-index-test.true, c.loop-index.auto.index-end) in
    let at' : slice_get c.args.kids.now c.loop-index.index ≡ Some c.index-kids-index.result =
    slice_get-get_or _ c.loop-index.index c.index-kids-index.result less ∙ ap Some (sym c.index-kids-index.is) in
    one_less_found c.args.kids.now c.args.node c.loop-index.index c.index-kids-index.result c.loop-index.invariant at' (sym c.eq.ensures ∙ c.if-eq.false)

pub returns : goal.returns
returns c = sym (ap or_first (found_nowhere c.args.kids.now c.args.node (λ j less. c.loop-index.invariant j (omega (arith, less, c.loop-index-test.false, c.loop-index.auto.index-end)))))
