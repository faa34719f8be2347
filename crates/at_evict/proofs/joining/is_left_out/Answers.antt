use Rattle.at_evict.proofs.Common.{◌≡◌, length, nat_eq, subst, sym, true, edges_in, Readers}
use Rattle.at_evict.proofs.of_folding.Joined.{left_out}
use Rattle.at_evict.proofs.joining.is_left_out.Goals as goal

pub returns-clause-same : goal.returns-clause-same
returns-clause-same c =
    let is = c.index-as_slice-place.is in
    left_out c.args.readers.now.items c.swap_remove.new.self.items c.args.place c.swap_remove.result c.index-as_slice-place.result c.requires
    c.swap_remove.ensures.value (rw c.as_slice.ensures at is)
    (subst (λ (z : Readers). nat_eq (length (edges_in z.edges)) 0 ≡ true) (sym is) (sym c.if-not-is_empty.ensures)) c.swap_remove.ensures.items
