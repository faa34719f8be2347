use Rattle.at_evict.proofs.Common.{◌<◌, arith, length}
use Rattle.at_evict.proofs.of_folding.Parting.{parted_end, parted_goes, parted_start, parted_stays}
use Rattle.at_evict.proofs.refolding.Refolding.part.Goals as goal

pub loop-place-init : goal.loop-place-init
loop-place-init c none = parted_start _ _ c.args.rows.now.items _ none

pub loop-place-preserved-then-is_kept : goal.loop-place-preserved-then-is_kept
loop-place-preserved-then-is_kept c none =
    let l = c.loop-place in
    let count = c.len.ensures.value in
    let before = c.loop-place-test.true in
    let less : l.place < length l.rows.items = omega (arith, count, before) in
    rw c.is_kept.ensures.slots (parted_stays _ _ _ l.rows.items _ l.place _ _ less c.as_slice.ensures
    (c.is_kept.ensures.alone c.if-is_kept.true) (l.invariant none))

pub loop-place-preserved : goal.loop-place-preserved
loop-place-preserved c none =
    let l = c.loop-place in
    let count = c.len.ensures.value in
    let before = c.loop-place-test.true in
    let less : l.place < length l.rows.items = omega (arith, count, before) in
    parted_goes _ _ _ l.rows.items _ _ l.place c.swap_remove.result _ _ _ less c.as_slice.ensures c.swap_remove.ensures.value c.swap_remove.ensures.items
    (rw c.is_kept.ensures.slots at c.in_ok-gather_row.ensures) (l.invariant none)

pub returns : goal.returns
returns c none =
    let l = c.loop-place in
    let count = c.len.ensures.value in
    let behind = c.loop-place-test.false in
    parted_end _ _ _ l.rows.items l.place _ (omega (arith, count, behind)) (l.invariant none)
