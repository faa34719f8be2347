use Rattle.at_cache.proofs.Common.{sym, refl, get, with_mark, doomed}
use Rattle.at_cache.proofs.Changing.{still, length_changed, marked, memory_changed, place_within, taken_slot}
use Rattle.at_cache.proofs.table.Table.set_going.Goals as goal

pub write_mark-requires : goal.write_mark-requires
write_mark-requires c = place_within c.args.self.now.entries.entries (get c.args.self.now.places) c.args.slot _ c.args.self.now.placed (sym c.in-Some.ensures)

pub invariant_of-self : goal.invariant_of-self
invariant_of-self c =
    let (placed, come) = still c.args.self.now c.args.slot _ (sym c.in-Some.ensures) _
    (with_mark c.before-in-Some.result) (λ e. refl) c.write_mark.ensures in
    record { placed = placed; come = come }

pub returns-in-Some-clause-written : goal.returns-in-Some-clause-written
returns-in-Some-clause-written c = memory_changed c.args.self.now.entries.entries (get c.args.self.now.places) c.args.slot _ c.args.self.now.placed (sym c.in-Some.ensures) _ (with_mark c.before-in-Some.result) (λ e. refl) c.write_mark.ensures (doomed c.args.first) (marked c.before-in-Some.result c.args.first c.before-in-Some.ensures.going c.before-in-Some.ensures.next)

pub returns-in-Some-clause-len : goal.returns-in-Some-clause-len
returns-in-Some-clause-len c = length_changed c.args.self.now.entries.entries (get c.args.self.now.places) c.args.slot _ c.args.self.now.placed (sym c.in-Some.ensures) _ (with_mark c.before-in-Some.result) (λ e. refl) c.write_mark.ensures

pub returns-in_default-clause-written : goal.returns-in_default-clause-written
returns-in_default-clause-written c = absurd (taken_slot c.args.self.now.entries.entries (get c.args.self.now.places) c.args.slot c.requires.there (sym c.in_default.ensures))
