use Rattle.at_index.proofs.Common.{◌≡◌, ◌∙◌, IfSome, subst, swap_remove}
use Rattle.at_index.proofs.DeskEdges.{desk_goes}
use Rattle.at_index.proofs.RowLists.{keeps_then}
use Rattle.at_index.proofs.desk.purge.Goals as goal

pub loop-place-preserved-then-is_idle_at : goal.loop-place-preserved-then-is_idle_at
loop-place-preserved-then-is_idle_at g c n k =
    let l = c.loop-place in
    let es = l.desks.spots.entries in
    let new = c.swap_remove_index.new.self.entries in
    let (d, there, idle) = c.is_idle_at.ensures c.if-is_idle_at.true in
    let swapped = subst (λ o. IfSome o (λ p. new ≡ swap_remove es l.place p)) (c.swap_remove_index.ensures.entry ∙ there) c.swap_remove_index.ensures.entries in
    keeps_then (l.invariant n k) (desk_goes es new l.place d there idle swapped n k)
