use Rattle.at_cache.proofs.Common.{◌≡◌, ◌<◌, ◌∙◌, List, None, true, ap, length, map, option_map, refl, rules, subst, sym, value_view, loc_view, Standing, memory_of, held_in, AreTaken, edges_to, IsSlotFor, standing_of}
use Rattle.at_cache.proofs.of_cut.Alive.{reads_stand, uses_stand}
use Rattle.at_cache.proofs.of_cut.EnteredHeld.{made_so, not_held, puts_so, slot_still}
use Rattle.at_cache.proofs.of_cut.Enters.{has_entered}
use Rattle.at_cache.proofs.of_cut.Goes.{has_shown}
use Rattle.at_cache.proofs.of_cut.LeftHeld.{enters_none, left, left_alone, uses_alike}
use Rattle.at_cache.proofs.Users.{uses_none}
use Rattle.at_cache.proofs.renewing.enter_held.Goals as goal

-- where the entry doesn't come
pub returns-in_err-links-clause-enters : goal.returns-in_err-links-clause-enters
returns-in_err-links-clause-enters c = enters_none c.args.inst _ _ _ c.args.order _ _ _ _ _ (left_alone
    (edges_to c.args.readers.now) c.args.cut.now.entries c.args.cut.now.standings.items c.requires.awaited.indexed
    c.requires.awaited.tied c.requires.awaited.valued c.args.cut.now.standings.items (λ k. refl)) _ (search rules)

pub returns-in_err-make_standing-clause-enters : goal.returns-in_err-make_standing-clause-enters
returns-in_err-make_standing-clause-enters c = enters_none c.args.inst _ _ _ c.args.order _ _ _ _ _ (left_alone
    (edges_to c.args.readers.now) c.args.cut.now.entries c.args.cut.now.standings.items c.requires.awaited.indexed
    c.requires.awaited.tied c.requires.awaited.valued c.make_standing.new.standings.items
    c.make_standing.ensures.same) _ (search rules)

pub returns-in_err-add_readers-clause-enters : goal.returns-in_err-add_readers-clause-enters
returns-in_err-add_readers-clause-enters c = enters_none c.args.inst _ _ _ c.args.order _ _ _ _ _ (left
    (edges_to c.args.readers.now) (edges_to c.add_readers.new.readers) c.args.cut.now.entries c.args.cut.now.entries
    c.args.cut.now.standings.items c.make_standing.new.standings.items c.requires.awaited.indexed
    c.requires.awaited.tied c.requires.awaited.valued refl c.make_standing.ensures.same
    (reads_stand _ _ c.make_standing.ensures.same _ c.add_readers.ensures.reads) (uses_none _ _ _)) _ (search rules)

pub returns-in_err-add_users-clause-enters : goal.returns-in_err-add_users-clause-enters
returns-in_err-add_users-clause-enters c = enters_none c.args.inst _ _ _ c.args.order _ _ _ _ _ (left
    (edges_to c.args.readers.now) (edges_to c.add_readers.new.readers) c.args.cut.now.entries c.add_users.new.cut.entries
    c.args.cut.now.standings.items c.add_users.new.cut.standings.items c.requires.awaited.indexed
    c.requires.awaited.tied c.requires.awaited.valued refl
    (λ k. ap (λ (ss : List Standing). standing_of ss k) c.add_users.ensures.standings ∙ c.make_standing.ensures.same k)
    (reads_stand _ _ c.make_standing.ensures.same _ c.add_readers.ensures.reads)
    (uses_stand _ _ c.make_standing.ensures.same _ c.add_users.ensures.uses)) _ (search rules)

pub returns-in_err-put_in-clause-enters : goal.returns-in_err-put_in-clause-enters
returns-in_err-put_in-clause-enters c = let kept = rw c.in_err-put_in.was at c.put_in.ensures.err in enters_none
    c.args.inst _ _ _ c.args.order _ _ _ _ _ (left
    (edges_to c.args.readers.now) (edges_to c.add_readers.new.readers) c.args.cut.now.entries
    c.put_in.new.cut.entries c.args.cut.now.standings.items c.put_in.new.cut.standings.items
    c.requires.awaited.indexed c.requires.awaited.tied c.requires.awaited.valued refl
    (λ k. ap (λ (ss : List Standing). standing_of ss k) (kept.1 ∙ c.add_users.ensures.standings) ∙ c.make_standing.ensures.same k)
    (reads_stand _ _ c.make_standing.ensures.same _ c.add_readers.ensures.reads)
    (uses_alike (memory_of c.args.cut.now.entries) (memory_of c.add_users.new.cut.entries) (memory_of c.put_in.new.cut.entries) kept.0
    (uses_stand _ _ c.make_standing.ensures.same _ c.add_users.ensures.uses))) _ (search rules)

pub add_users-requires : goal.add_users-requires
add_users-requires c = record {
  there = subst (AreTaken (memory_of c.args.cut.now.entries)) (sym c.as_slice.ensures) c.in_ok-links.ensures.taken;
}

pub put_in-requires-clause-slot : goal.put_in-requires-clause-slot
put_in-requires-clause-slot c = subst (λ s. IsSlotFor c.add_users.new.cut.entries c.args.inst s) (sym c.fresh.ensures.slot)
    (slot_still c.args.cut.now.entries c.add_users.new.cut.entries c.args.inst c.args.edge.slot c.add_users.ensures.uses
    c.add_users.ensures.key c.requires.awaited.place)

pub put_in-requires-clause-hidden : goal.put_in-requires-clause-hidden
put_in-requires-clause-hidden c = subst (λ s. held_in c.add_users.new.cut s ≡ None) (sym c.fresh.ensures.slot)
    (not_held (edges_to c.args.readers.now) c.args.cut.now.entries c.args.cut.now.standings.items c.args.edge.stamp c.args.inst c.args.edge.slot c.requires.awaited
    (memory_of c.add_users.new.cut.entries) c.add_users.new.cut.standings.items
    (λ k. ap (λ (ss : List Standing). standing_of ss k) c.add_users.ensures.standings ∙ c.make_standing.ensures.same k) c.add_users.ensures.uses)

pub put_in-requires-clause-made : goal.put_in-requires-clause-made
put_in-requires-clause-made c = made_so c.args.inst c.fresh.result
    (option_map value_view c.args.value) c.in_ok-links.links.items c.args.edge.stamp (c.fresh.ensures.entry c.args.inst)

pub set_standing-requires-clause-there : goal.set_standing-requires-clause-there
set_standing-requires-clause-there c =
    let put = rw c.in_ok-put_in.was at c.put_in.ensures.puts in
    subst (λ n. c.args.edge.slot < n) (sym (put.room ∙ ap length c.add_users.ensures.standings))
    (rw c.in_ok-make_standing.was at c.make_standing.ensures.there)

pub returns : goal.returns
returns c =
    let put = puts_so c.args.inst c.fresh.result (option_map value_view c.args.value) c.in_ok-links.links.items
    c.args.edge.stamp (c.fresh.ensures.entry c.args.inst) c.args.edge.slot c.add_users.new.cut.standings.items
    c.put_in.new.cut.standings.items
    (memory_of c.add_users.new.cut.entries) (memory_of c.put_in.new.cut.entries) c.fresh.ensures.slot
    (rw c.in_ok-put_in.was at c.put_in.ensures.puts) in
    let within = subst (λ n. c.args.edge.slot < n) (sym (put.room ∙ ap length c.add_users.ensures.standings))
    (rw c.in_ok-make_standing.was at c.make_standing.ensures.there) in
    let done = has_entered (edges_to c.args.readers.now)
    (edges_to c.add_readers.new.readers) c.args.cut.now.entries c.put_in.new.cut.entries
    (memory_of c.add_users.new.cut.entries)
    c.args.cut.now.standings.items c.add_users.new.cut.standings.items c.put_in.new.cut.standings.items
    c.set_standing.new.standings.items c.args.edge.stamp c.args.edge.slot c.args.inst
    (option_map value_view c.args.value)
    c.in_ok-links.links.items c.as_slice.result.now (map loc_view c.args.reads.now) c.args.uses.now
    (record { since = c.args.edge.stamp; holds = true; traced = c.is_traced.result }) c.args.order
    c.requires.awaited.indexed c.requires.awaited.tied c.requires.awaited.valued c.requires.awaited.absent c.requires.present c.requires.awaited.its
    c.in_ok-links.ensures.taken c.in_ok-links.ensures.theirs
    (λ k. ap (λ (ss : List Standing). standing_of ss k) c.add_users.ensures.standings ∙ c.make_standing.ensures.same k)
    (reads_stand _ _ c.make_standing.ensures.same _ c.add_readers.ensures.reads)
    (rw c.in_ok-add_readers.was at c.add_readers.ensures.listed) c.as_slice.ensures
    (uses_stand _ _ c.make_standing.ensures.same _ c.add_users.ensures.uses) (rw c.in_ok-add_users.was at c.add_users.ensures.listed)
    put c.set_standing.ensures within refl refl (λ on. (c.is_traced.ensures on).0)
    (λ on. has_shown value_view c.args.value ∙ (c.is_traced.ensures on).1) in
    record {
      enters = record {
        indexed = done.indexed;
        tied = done.tied;
        valued = done.valued;
        puts = done.puts;
        err = tt;
        fails = tt;
        traces = done.traces;
        spares = done.spares;
      };
      noted = c.add_readers.ensures.noted;
    }
