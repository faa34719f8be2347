use Rattle.at_index.proofs.Common.{refl, on_ok_weaker, slice_get_within}
use Rattle.at_index.proofs.Added.{added_has, added_lists, added_others}
use Rattle.at_index.proofs.Gained.{among_changed, among_gained, among_stays}
use Rattle.at_index.proofs.tells.Adding.add_among.Goals as goal

pub add_at-requires : goal.add_at-requires
add_at-requires g c = let (r, at, is) = rw c.as_slice.ensures at c.in-Some.ensures in record { there = slice_get_within _ _ r at }

pub returns-in-Some : goal.returns-in-Some
returns-in-Some g c =
    let (edges, written, lists, has) = c.add_at.ensures.gains in
    let found = rw c.as_slice.ensures at c.in-Some.ensures in
    record {
      lists = λ n l. among_changed _ _ _ _ _ _ (λ k j. refl) found written lists n l;
      has = λ n. on_ok_weaker c.add_at.result (among_gained _ _ _ _ _ _ (λ k j. refl) found written _ n) has;
      others = λ n l differs. among_stays _ _ _ _ _ _ (λ k j. refl) found written n l differs;
    }

pub returns-in-None : goal.returns-in-None
returns-in-None g c =
    let added = c.add_facet.ensures.added in
    record {
      lists = λ n l. added_lists n c.args.facet _ _ _ _ c.add_facet.result added c.add_facet.ensures.err l;
      has = λ n. added_has n c.args.facet c.args.self.now.edge _ _ c.add_facet.result added;
      others = λ n l differs. added_others n c.args.facet c.args.self.now.edge _ _ c.add_facet.result added
          c.add_facet.ensures.err l differs;
    }
