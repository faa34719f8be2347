use Rattle.at_evict.proofs.Common.{◌≡◌, get_or, length-set, slice_set, items-with_items, Readers}
use Rattle.at_evict.proofs.of_folding.Joined.{one_fewer, one_list}
use Rattle.at_evict.proofs.joining.become_one.Goals as goal

pub returns : goal.returns
returns c =
    let rs = c.args.readers.now.items in
    let r = c.index-as_mut_slice-before.result in
    let is : r ≡ get_or rs c.args.before r = rw c.as_mut_slice.ensures.value at c.index-as_mut_slice-before.is in
    let made : Readers = record { facet = c.args.facet; edges = r.edges } in
    let whole = items-with_items c.args.readers.now (slice_set rs c.args.before made) (length-set rs c.args.before made) in
    record {
      same = one_list rs _ _ c.args.before c.args.place c.args.facet r c.swap_remove.result c.requires is c.swap_remove.ensures.value
          c.swap_remove.ensures.items (rw (c.as_mut_slice.ensures.value, ← is) whole);
      fewer = one_fewer rs _ _ c.args.before made c.swap_remove.ensures.len (rw (c.as_mut_slice.ensures.value, ← is) whole);
    }
