use Rattle.at_evict.proofs.Common.{◌∙◌, arith, get_or, subst, sym, get, AreLone, RelinksAt, slots_at, memory_of, got}
use Rattle.at_evict.proofs.of_folding.Linking.{listed_place}
use Rattle.at_evict.proofs.of_folding.Relinking.{relinks_end, relinks_more, relinks_start, relinks_taken}
use Rattle.at_evict.proofs.relinking.relink.Goals as goal

pub loop-place-init : goal.loop-place-init
loop-place-init c = relinks_start c.args.taken.now _

pub relink_at-requires : goal.relink_at-requires
relink_at-requires c = record {
  lone = subst (λ t. AreLone t (slots_at c.args.plan.now) c.args.lone.now.none c.args.lone.now.stamps.items)
      (sym (λ i x. c.loop-place.invariant.current x i)) c.requires.lone;
}

pub loop-place-preserved : goal.loop-place-preserved
loop-place-preserved c =
    let place = c.loop-place.place in
    let slot = get_or c.args.taken.now place 0 in
    let at = c.requires.ordered place slot (got c.args.taken.now place 0 c.loop-place-test.true) in
    relinks_more c.args.taken.now (get c.args.entries.now.places) place 0 _ _ _ c.loop-place-test.true c.requires.ordered c.loop-place.invariant
    (subst (λ ls. RelinksAt (slots_at c.args.plan.now) ls slot (memory_of c.loop-place.entries) (memory_of c.relink_at.new.entries))
    (c.list_at-gained.ensures ∙ sym (listed_place (get c.args.entries.now.places) c.args.links.now slot place at)) c.in_ok-relink_at.ensures)

pub returns-clause-relinked : goal.returns-clause-relinked
returns-clause-relinked c =
    relinks_end c.args.taken.now c.loop-place.place _ _ (omega (arith, c.loop-place-test.false)) c.requires.taken c.loop-place.invariant

pub returns-clause-taken : goal.returns-clause-taken
returns-clause-taken c = relinks_taken c.args.taken.now c.loop-place.place _ _ c.requires.taken c.loop-place.invariant
