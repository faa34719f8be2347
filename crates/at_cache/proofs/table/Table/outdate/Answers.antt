use Rattle.at_cache.proofs.Common.{refl, sym, get, outdated, with_number}
use Rattle.at_cache.proofs.Changing.{still, memory_changed, place_within, taken_slot}
use Rattle.at_cache.proofs.table.Table.outdate.Goals as goal

pub write_number-requires : goal.write_number-requires
write_number-requires c = place_within c.args.self.now.entries.entries (get c.args.self.now.places) c.args.slot _
    c.args.self.now.placed (sym c.in-Some.ensures)

pub invariant_of-self : goal.invariant_of-self
invariant_of-self c =
    let (placed, come) = still c.args.self.now c.args.slot _ (sym c.in-Some.ensures) _
    (with_number c.args.links c.args.stamp) (λ e. refl) c.write_number.ensures in
    record { placed = placed; come = come }

pub returns-in-Some : goal.returns-in-Some
returns-in-Some c =
    memory_changed c.args.self.now.entries.entries (get c.args.self.now.places) c.args.slot _ c.args.self.now.placed
    (sym c.in-Some.ensures) _ (with_number c.args.links c.args.stamp) (λ e. refl) c.write_number.ensures
    (outdated c.args.links.items c.args.stamp) (λ e. refl)

pub returns-in-None : goal.returns-in-None
returns-in-None c = absurd (taken_slot c.args.self.now.entries.entries (get c.args.self.now.places) c.args.slot
    c.requires.there (sym c.in-None.ensures))
