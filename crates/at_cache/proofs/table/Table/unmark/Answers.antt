use Rattle.at_cache.proofs.Common.{sym, refl, get, memory_of, unmarked, with_mark}
use Rattle.at_cache.specs.declared.mark.Mark.TheVariants as mark
use Rattle.at_cache.proofs.Changing.{still, free_slot, length_changed, mark_there, memory_changed, place_within, unwritten}
use Rattle.at_cache.proofs.table.Table.unmark.Goals as goal

pub exchange_mark-requires : goal.exchange_mark-requires
exchange_mark-requires c = place_within c.args.self.now.entries.entries (get c.args.self.now.places) c.args.slot _ c.args.self.now.placed (sym c.in-Some.ensures)

pub invariant_of-self : goal.invariant_of-self
invariant_of-self c =
    let (placed, come) = still c.args.self.now c.args.slot _ (sym c.in-Some.ensures) _
    (with_mark mark.Stays) (λ e. refl) c.exchange_mark.ensures.written in
    record { placed = placed; come = come }

pub returns-in-Some-clause-written : goal.returns-in-Some-clause-written
returns-in-Some-clause-written c = memory_changed c.args.self.now.entries.entries (get c.args.self.now.places) c.args.slot _ c.args.self.now.placed (sym c.in-Some.ensures) _ (with_mark mark.Stays) (λ e. refl) c.exchange_mark.ensures.written unmarked (λ e. refl)

pub returns-in-Some-clause-len : goal.returns-in-Some-clause-len
returns-in-Some-clause-len c = length_changed c.args.self.now.entries.entries (get c.args.self.now.places) c.args.slot _ c.args.self.now.placed (sym c.in-Some.ensures) _ (with_mark mark.Stays) (λ e. refl) c.exchange_mark.ensures.written

pub returns-in-Some-clause-was : goal.returns-in-Some-clause-was
returns-in-Some-clause-was c = mark_there c.args.self.now.entries.entries (get c.args.self.now.places) c.args.slot _ c.exchange_mark.result (sym c.in-Some.ensures) c.exchange_mark.ensures.was

pub returns-in-None-clause-none : goal.returns-in-None-clause-none
returns-in-None-clause-none c = (free_slot c.args.self.now.entries.entries (get c.args.self.now.places) c.args.slot (sym c.in-None.ensures), λ k. refl)

pub returns-in-None-clause-written : goal.returns-in-None-clause-written
returns-in-None-clause-written c = unwritten (memory_of c.args.self.now) c.args.slot unmarked
    (free_slot c.args.self.now.entries.entries (get c.args.self.now.places) c.args.slot (sym c.in-None.ensures))
