use Rattle.at_evict.proofs.Common.{◌≤◌, ◌^◌, subst, sym, get, is_current, edges_to, own_edges, AreOrdered, AreTaken, Relinks, listed_at, slots_at, memory_of}
use Rattle.at_evict.proofs.of_folding.AtDesks.{own_refolded}
use Rattle.at_evict.proofs.of_folding.Nodes.{noted_still}
use Rattle.at_evict.proofs.of_folding.Reheld.{folds_held}
use Rattle.at_evict.proofs.of_folding.Rerun.{all_rerun}
use Rattle.at_evict.proofs.folding.fold.Goals as goal

pub is_sound-requires : goal.is_sound-requires
is_sound-requires c = record { taken = subst (AreTaken (memory_of c.args.entries.now)) (sym c.as_slice-slots.ensures.value) c.in_ok-taken.ensures.taken }

pub links_of-requires : goal.links_of-requires
links_of-requires c = record { taken = subst (AreTaken (memory_of c.args.entries.now)) (sym c.as_slice-slots.ensures.value) c.in_ok-taken.ensures.taken }

pub relink-requires : goal.relink-requires
relink-requires c = record {
  lone = c.in_ok-lone.ensures;
  taken = subst (AreTaken (memory_of c.args.entries.now)) (sym c.as_slice-slots.ensures.value) c.in_ok-taken.ensures.taken;
  ordered = subst (AreOrdered (get c.args.entries.now.places)) (sym c.as_slice-slots.ensures.value) c.in_ok-taken.ensures.ordered;
}

pub remove_folded-requires : goal.remove_folded-requires
remove_folded-requires c = record { taken = c.in_ok-relink.ensures.taken }

pub invariant_of-readers-2 : goal.invariant_of-readers-2
invariant_of-readers-2 c = record {
  seated = c.rerun.ensures.seated c.args.readers.now.seats.items c.args.readers.now.seated;
  short = subst (λ n. n ≤ 2 ^ 32) (sym c.rewrite.ensures.len) c.args.readers.now.short;
  few = c.args.readers.now.few;
}

pub returns : goal.returns
returns c =
    let r = c.args.readers.now in
    let m = memory_of c.args.entries.now in
    let into = slots_at c.args.plan.now in
    let own = own_refolded (is_current m) into r.desks.entries c.rewrite_desks.new.all.entries r.own.items c.rewrite.new.readers.items
    c.in_ok-rewrite_desks.ensures c.in_ok-rewrite.ensures.lists in
    let lists = all_rerun m into (own_edges r.desks.entries r.own.items) (own_edges c.rewrite_desks.new.all.entries c.rewrite.new.readers.items)
    r.seats.items _ _ own c.in_ok-rerun.ensures.edges in
    let relinked = subst (λ ls. Relinks into (listed_at (get c.args.entries.now.places) ls) m (memory_of c.relink.new.entries))
    c.as_slice.ensures.value c.in_ok-relink.ensures.relinked in
    record {
      held = λ standings puts on indexed. folds_held standings (edges_to r) _ puts c.args.entries.now c.remove_folded.new.entries _ into _ on indexed
          (c.is_sound.ensures c.if-not-is_sound.false) lists c.in_ok-links.ensures relinked c.remove_folded.ensures;
      noted = λ nodes h. noted_still _ _ (edges_to r) _ nodes lists h;
    }
