use Rattle.at_cache.proofs.Common.{◌≡◌, ◌∙◌, ℕ, Some, option_map, sym, ap, subst, refl, rules, get, info, memory_of, at}
use Rattle.at_cache.proofs.Came.{come_more}
use Rattle.at_cache.proofs.Changing.{entered_at, free_slot, memory_entered}
use Rattle.at_cache.proofs.Moving.{apart_by, given_back, placed, slot_entered, table_by, table_entered}
use Rattle.at_cache.proofs.table.Table.enter.Goals as goal

pub returns-in_err-slot-clause-err : goal.returns-in_err-slot-clause-err
returns-in_err-slot-clause-err c =
    let es = c.args.self.now.entries.entries in
    let k = subst (λ s. (k : ℕ) → option_map info (at es (get s) k) ≡ option_map info (at es (get c.args.self.now.places) k)) (sym c.in_err-slot.ensures.err) (λ k. refl) in search rules

pub returns-in_err-note_attribute-clause-err : goal.returns-in_err-note_attribute-clause-err
returns-in_err-note_attribute-clause-err c = let k : (k : ℕ) → memory_of c.args.self.now k ≡ memory_of c.args.self.now k = λ k. refl in search rules

pub invariant_of-self-then-append : goal.invariant_of-self-then-append
invariant_of-self-then-append c =
    let up = c.in_ok-slot.ensures.updates in
    let noted = rw (c.index.ensures, c.attribute.ensures) at c.in_ok-note_attribute.ensures.noted in
    record {
      placed = placed (table_entered c.args.self.now.entries.entries c.append.new.entries.entries (get c.args.self.now.places) (get c.insert.new.self) c.in_ok-slot.slot c.args.instance c.args.entry (c.requires.slot ∙ sym c.in_ok-slot.ensures.key) (table_by c.args.self.now.placed) c.in_ok-slot.ensures.was_vacant c.if-append.ensures.entries (up.changed ∙ ap Some c.len.ensures.len) up.others) (apart_by c.append.new.entries.entries c.append.ensures.unique);
      come = come_more _ _ c.args.instance c.args.entry c.args.self.now.attributes.items _ c.if-append.ensures.entries c.note_attribute.ensures.stay noted c.args.self.now.come;
    }

pub returns-then-append-clause-enters : goal.returns-then-append-clause-enters
returns-then-append-clause-enters c =
    let up = c.in_ok-slot.ensures.updates in
    let (here, others) = memory_entered c.in_ok-slot.slot (c.args.instance, c.args.entry) _ _ (slot_entered c.args.self.now.entries.entries c.append.new.entries.entries (get c.args.self.now.places) (get c.insert.new.self) c.in_ok-slot.slot c.args.instance c.args.entry (c.requires.slot ∙ sym c.in_ok-slot.ensures.key) (table_by c.args.self.now.placed) c.in_ok-slot.ensures.was_vacant c.if-append.ensures.entries (up.changed ∙ ap Some c.len.ensures.len) up.others) in
    let same = c.requires.slot ∙ sym c.in_ok-slot.ensures.key in
    entered_at same (record { free = free_slot c.args.self.now.entries.entries (get c.args.self.now.places) c.in_ok-slot.slot c.in_ok-slot.ensures.was_vacant; here = here; others = others })

pub returns-clause-err : goal.returns-clause-err
returns-clause-err c k =
    let up = c.in_ok-slot.ensures.updates in
    let back = c.try_remove.ensures.updates in
    let slots_same = given_back (get c.args.self.now.places) (get c.insert.new.self) (get c.try_remove.new.self) c.in_ok-slot.slot c.in_ok-slot.ensures.was_vacant back.changed up.others back.others in
    (λ i. option_map info (at (c.if-append.ensures.entries i) (slots_same i) k))
