use Rattle.at_evict.proofs.Common.{arith, refl, sym, slice_get_read, on_ok_weaker, get, one_slot}
use Rattle.at_evict.proofs.of_folding.Linking.{listed_to, to_one}
use Rattle.at_evict.proofs.refolding.Refolding.link_to.Goals as goal

pub returns : goal.returns
returns c =
    let place = c.in-Some.place.now in
    let at = slice_get_read c.args.lists.now.items _ place c.index_mut-list.result.now refl (omega arith) c.index_mut-list.ensures.value in
    on_ok_weaker c.add_links.result
    (λ h. listed_to (get c.args.self.now.entries.now.places) _ _ c.args.target place c.args.links.now (sym c.in-Some.ensures)
    (one_slot c.args.self.now.entries.now.placed c.args.target place (sym c.in-Some.ensures))
    (to_one c.args.lists.now.items _ place _ c.index_mut-list.result.now c.add_links.new.list at refl h)) c.add_links.ensures
