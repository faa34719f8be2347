use Rattle.at_cache.proofs.Common.{sym, refl, get, edges_in, with_list, with_users}
use Rattle.at_cache.proofs.Changing.{still, absent_changed, length_changed, memory_changed, place_within, taken_slot, users_there}
use Rattle.at_cache.proofs.table.Table.exchange_users.Goals as goal

pub write_users-requires : goal.write_users-requires
write_users-requires c = place_within c.args.self.now.entries.entries (get c.args.self.now.places) c.args.slot _ c.args.self.now.placed (sym c.in-Some.ensures)

pub invariant_of-self : goal.invariant_of-self
invariant_of-self c =
    let (placed, come) = still c.args.self.now c.args.slot _ (sym c.in-Some.ensures) _
    (with_list c.args.users) (λ e. refl) c.write_users.ensures.written in
    record { placed = placed; come = come }

pub returns-in-Some : goal.returns-in-Some
returns-in-Some c =
    let t = c.args.self.now in
    let es = t.entries.entries in
    let slots = get t.places in
    let was = sym c.in-Some.ensures in
    let written = c.write_users.ensures.written in
    record {
      written = memory_changed es slots c.args.slot _ t.placed was _ (with_list c.args.users) (λ e. refl) written
          (with_users (edges_in c.args.users)) (λ e. refl);
      was = users_there es slots c.args.slot _ (edges_in c.write_users.result) was c.write_users.ensures.was;
      len = length_changed es slots c.args.slot _ t.placed was _ (with_list c.args.users) (λ e. refl) written;
      absent = absent_changed es slots c.args.slot _ t.placed was _ (with_list c.args.users) (λ e. refl) written;
      key = refl;
    }

pub returns-in-None-clause-written : goal.returns-in-None-clause-written
returns-in-None-clause-written c = absurd (taken_slot c.args.self.now.entries.entries (get c.args.self.now.places) c.args.slot c.requires.there (sym c.in-None.ensures))

pub returns-in-None-clause-was : goal.returns-in-None-clause-was
returns-in-None-clause-was c = absurd (taken_slot c.args.self.now.entries.entries (get c.args.self.now.places) c.args.slot c.requires.there (sym c.in-None.ensures))
