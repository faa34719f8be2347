use Rattle.at_cache.proofs.Common.{ap, option_map, refl, sym, get, edges_in, info, memory_of, relinked, with_rest}
use Rattle.at_cache.proofs.Changing.{still, memory_changed, place_within, unwritten}
use Rattle.at_cache.proofs.Moving.{at_none}
use Rattle.at_cache.proofs.table.Table.relink.Goals as goal

pub write_rest-requires : goal.write_rest-requires
write_rest-requires c = place_within c.args.self.now.entries.entries (get c.args.self.now.places) c.args.slot _ c.args.self.now.placed (sym c.in-Some.ensures)

pub invariant_of-self : goal.invariant_of-self
invariant_of-self c =
    let (placed, come) = still c.args.self.now c.args.slot _ (sym c.in-Some.ensures) _
    (with_rest c.args.links c.args.users) (λ e. refl) c.write_rest.ensures in
    record { placed = placed; come = come }

pub returns-in-Some : goal.returns-in-Some
returns-in-Some c =
    memory_changed c.args.self.now.entries.entries (get c.args.self.now.places) c.args.slot _ c.args.self.now.placed
    (sym c.in-Some.ensures) _ (with_rest c.args.links c.args.users) (λ e. refl) c.write_rest.ensures
    (relinked c.args.links.items (edges_in c.args.users)) (λ e. refl)

pub returns-in_default : goal.returns-in_default
returns-in_default c =
    unwritten (memory_of c.args.self.now) c.args.slot (relinked c.args.links.items (edges_in c.args.users))
    (ap (option_map info) (at_none c.args.self.now.entries.entries (get c.args.self.now.places) c.args.slot (sym c.in_default.ensures)))
