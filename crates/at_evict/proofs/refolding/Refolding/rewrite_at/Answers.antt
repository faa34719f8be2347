use Rattle.at_evict.proofs.Common.{◌≡◌, get_or, length-set, slice_set, items-with_items, Readers, get_other}
use Rattle.at_evict.proofs.of_folding.Places.{one_place}
use Rattle.at_evict.proofs.refolding.Refolding.rewrite_at.Goals as goal

pub returns : goal.returns
returns c =
    let rs = c.args.readers.now.items in
    let r = c.index-as_mut_slice-place.result in
    let is : r ≡ get_or rs c.args.place r = rw c.as_mut_slice.ensures.value at c.index-as_mut_slice-place.is in
    let made : Readers = record { facet = r.facet; edges = c.rewrite_list.new.edges } in
    let whole = items-with_items c.args.readers.now (slice_set rs c.args.place made) (length-set rs c.args.place made) in
    let here = one_place _ _ rs c.args.place r c.rewrite_list.new.edges
    c.rewrite_list.result c.requires is (rw (c.as_mut_slice.ensures.value, ← is) at c.rewrite_list.ensures) in
    record {
      here = rw (c.as_mut_slice.ensures.value, ← is, whole) here;
      others = rw (c.as_mut_slice.ensures.value, ← is, whole) (λ k differs. get_other rs c.args.place k made differs);
      len = rw (c.as_mut_slice.ensures.value, ← is, whole) (length-set rs c.args.place made);
    }
