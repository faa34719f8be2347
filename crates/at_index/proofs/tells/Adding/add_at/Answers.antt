use Rattle.at_index.proofs.Common.{◌≡◌, get_or, length-set, slice_set, Readers}
use Rattle.smallvec.proofs.SmallVecLemmas.{items-with_items}
use Rattle.at_index.proofs.Gained.{gained_at}
use Rattle.at_index.proofs.tells.Adding.add_at.Goals as goal

pub returns : goal.returns
returns g c =
    let rs = c.args.readers.now.items in
    let r = c.index-as_mut_slice-place.result in
    let is : r ≡ get_or rs c.args.place r = rw c.as_mut_slice.ensures.value at c.index-as_mut_slice-place.is in
    let made : Readers = record { facet = r.facet; edges = c.add_edge.new.edges } in
    let gains = gained_at _ _ rs c.args.place r c.add_edge.new.edges c.add_edge.result is (rw (c.as_mut_slice.ensures.value, ← is) at c.add_edge.ensures.lists) c.add_edge.ensures.has in
    record { gains = rw (c.as_mut_slice.ensures.value, ← is, items-with_items c.args.readers.now (slice_set rs c.args.place made) (length-set rs c.args.place made)) gains }
