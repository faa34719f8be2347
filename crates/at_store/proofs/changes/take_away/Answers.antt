use Rattle.std.proofs.Common.{rules, ◌≡◌, Some, sym, ap, ◌∙◌}
use Rattle.at_store.specs.Memory.{index_in, place_in, taken_out, up_in, with_index}
use Rattle.at_store.specs.View.{memory_of, stored_of, viewed}
use Rattle.at_store.proofs.Arranged.{reindexed_alike}
use Rattle.at_store.proofs.changes.take_away.Goals as goal

pub returns-in-Some : goal.returns-in-Some
returns-in-Some c = record {
  marks = search rules;
  written = λ once.
      let old = memory_of c.args.slab.now in
      let f = place_in (stored_of c.args.slab.now) in
      let freed = viewed f c.free.new.slab in
      let index = index_in (old c.args.node) in
      let up : up_in (old c.args.node) ≡ Some c.in-Some.place = sym c.up_at-up.ensures ∙ c.in-Some.is in
      let written = c.close_gap.ensures.written freed (reindexed_alike f (stored_of c.free.new.slab)) in (
        freed,
        c.free.ensures.freed f,
        λ k. ap (λ o. with_index 0 (taken_out o index freed k)) up ∙ ap (λ j.
            with_index 0 (taken_out (Some c.in-Some.place) j freed k)) (sym (c.index_at-index.ensures once)) ∙ written k,
      );
}

pub returns-in_default : goal.returns-in_default
returns-in_default c = record {
  marks = search rules;
  written = λ once.
      let old = memory_of c.args.slab.now in
      let f = place_in (stored_of c.args.slab.now) in
      let freed = viewed f c.free.new.slab in (
        freed,
        c.free.ensures.freed f,
        λ k. ap (λ o. with_index 0 (taken_out o (index_in (old c.args.node)) freed k))
            (sym c.up_at-up.ensures ∙ c.in_default.is) ∙ reindexed_alike f (stored_of c.free.new.slab) k,
      );
}
