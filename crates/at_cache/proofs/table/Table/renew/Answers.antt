use Rattle.at_cache.proofs.Common.{option_map, refl, sym, get, value_view, renewed, with_entry}
use Rattle.at_cache.proofs.Changing.{still, length_changed, memory_changed, place_within, taken_slot}
use Rattle.at_cache.proofs.table.Table.renew.Goals as goal

pub write_entry-requires : goal.write_entry-requires
write_entry-requires c = place_within c.args.self.now.entries.entries (get c.args.self.now.places) c.args.slot _ c.args.self.now.placed (sym c.in-Some.ensures)

pub invariant_of-self : goal.invariant_of-self
invariant_of-self c =
    let (placed, come) = still c.args.self.now c.args.slot _ (sym c.in-Some.ensures) _
    (with_entry c.args.value c.args.links c.args.stamp) (λ e. refl) c.write_entry.ensures in
    record { placed = placed; come = come }

pub returns-in-Some-clause-written : goal.returns-in-Some-clause-written
returns-in-Some-clause-written c = memory_changed c.args.self.now.entries.entries (get c.args.self.now.places) c.args.slot _ c.args.self.now.placed (sym c.in-Some.ensures) _ (with_entry c.args.value c.args.links c.args.stamp) (λ e. refl) c.write_entry.ensures
    (renewed (option_map value_view c.args.value) c.args.links.items c.args.stamp) (λ e. refl)

pub returns-in-Some-clause-len : goal.returns-in-Some-clause-len
returns-in-Some-clause-len c = length_changed c.args.self.now.entries.entries (get c.args.self.now.places) c.args.slot _ c.args.self.now.placed (sym c.in-Some.ensures) _ (with_entry c.args.value c.args.links c.args.stamp) (λ e. refl) c.write_entry.ensures

pub returns-in_default-clause-written : goal.returns-in_default-clause-written
returns-in_default-clause-written c = absurd (taken_slot c.args.self.now.entries.entries (get c.args.self.now.places) c.args.slot c.requires.there (sym c.in_default.ensures))
