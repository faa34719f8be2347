use Rattle.at_index.proofs.Common.{◌∙◌, ◌<◌, arith, length, sym}
use Rattle.at_index.proofs.RowLists.{keeps_then, row_goes, row_set}
use Rattle.at_index.proofs.linking.purge.Goals as goal

pub loop-place-preserved : goal.loop-place-preserved
loop-place-preserved g c =
    let l = c.loop-place in
    let count = c.len.ensures.value in
    let before = c.loop-place-test.true in
    let less : l.place < length l.rows.items = omega (arith, count, before) in
    keeps_then l.invariant (row_set l.place _ _ less c.as_slice.ensures c.trimmed-row.ensures c.set_row.ensures)

pub loop-place-preserved-then-is_empty : goal.loop-place-preserved-then-is_empty
loop-place-preserved-then-is_empty g c =
    let l = c.loop-place in
    let count = c.len.ensures.value in
    let before = c.loop-place-test.true in
    let less : l.place < length l.rows.items = omega (arith, count, before) in
    let none = sym c.is_empty.ensures ∙ c.if-is_empty.true in
    keeps_then l.invariant (row_goes l.place c.swap_remove.result _ c.trimmed-row.result less c.as_slice.ensures c.swap_remove.ensures.value c.trimmed-row.ensures none c.swap_remove.ensures.items)
