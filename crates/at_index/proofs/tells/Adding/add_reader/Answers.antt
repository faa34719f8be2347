use Rattle.at_index.proofs.Common.{◌∙◌, sym, refl, rules, slice_get_read, on_ok_weaker}
use Rattle.at_index.proofs.Gained.{list_changed, list_gained, list_stays}
use Rattle.at_index.proofs.Listing.{lists_same}
use Rattle.at_index.proofs.Locations.{stands_at}
use Rattle.at_index.proofs.tells.Adding.add_reader.Goals as goal

pub returns-in_err-make_list-clause-lists : goal.returns-in_err-make_list-clause-lists
returns-in_err-make_list-clause-lists g c l = lists_same (c.make_list.ensures.same l)

pub returns : goal.returns
returns g c =
    let at = slice_get_read c.make_list.new.readers.items _ c.index.result c.index_mut-list.result.now refl (rw c.index.ensures c.in_ok-make_list.ensures.there) c.index_mut-list.ensures.value in
    let new = c.add_among.new.readers in
    record {
      lists = λ l. list_changed _ _ _ _ new c.make_list.ensures.same at refl c.add_among.ensures.lists l;
      has = on_ok_weaker c.add_among.result
          (λ has l stands. list_gained _ _ _ _ new c.make_list.ensures.same at refl c.args.self.now.edge l
          (stands_at c.args.node c.args.facet l stands ∙ sym c.index.ensures) (rw c.index.ensures (has l stands)))
          (c.add_among.ensures.has c.args.node);
      others = λ l off. list_stays _ _ _ _ new c.make_list.ensures.same at refl l
          (rw c.index.ensures (c.add_among.ensures.others c.args.node l off));
      short = search rules;
    }
