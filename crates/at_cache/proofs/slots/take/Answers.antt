use Rattle.at_cache.proofs.Common.{◌≡◌, ◌∙◌, ℕ, None, nat_eq, if◌then◌else◌, option_map, slice_get, sym, ap, subst, lookup, get, IsMoved, IsPlaced, at, same_instance}
use Rattle.at_cache.proofs.Came.{none_still}
use Rattle.at_cache.proofs.Moving.{AreApart, apart_by, entry_there, nothing_removed, nothing_there, placed, removed_is, removes, table_by}
use Rattle.at_cache.proofs.slots.take.Goals as goal

pub returns-in_err-place-clause-placed : goal.returns-in_err-place-clause-placed
returns-in_err-place-clause-placed c is = subst (λ s. IsPlaced c.args.entries.now.entries (get s)) (sym c.in_err-place.ensures.absent) is

pub returns-in_err-place-clause-removed : goal.returns-in_err-place-clause-removed
returns-in_err-place-clause-removed c is = c.from_residual.ensures ∙ sym (ap (option_map (λ e. e.1)) (nothing_there c.args.entries.now.entries (get c.args.slots.now) c.args.slot (sym c.in_err-place.ensures.value)))

pub returns-in_err-place-clause-others : goal.returns-in_err-place-clause-others
returns-in_err-place-clause-others c is =
    let es = c.args.entries.now.entries in
    let slots = get c.args.slots.now in
    subst (λ s. (k : ℕ) → at es (get s) k ≡ (if nat_eq k c.args.slot then None else at es slots k)) (sym c.in_err-place.ensures.absent) (nothing_removed es slots c.args.slot (sym c.in_err-place.ensures.value))

pub returns-in_err-_instance : goal.returns-in_err-_instance
returns-in_err-_instance c =
    let none = λ (is : IsPlaced c.args.entries.now.entries (get c.args.slots.now)).
    entry_there _ _ c.args.slot _ (table_by is) (sym c.in_ok-place.ensures.value)
    (sym c.in_err-_instance.ensures.entry) in
    record {
      placed = λ is. absurd (none is);
      removed = λ is. absurd (none is);
      others = λ is. absurd (none is);
      absent = λ i h. ap (lookup (same_instance i)) c.in_err-_instance.ensures.unchanged ∙ h;
      len = λ is. absurd (none is);
    }

pub returns-clause-placed : goal.returns-clause-placed
returns-clause-placed c is =
    let updates = c.in_ok-place.ensures.updates in
    let (table, others) = removes c.args.entries.now.entries (get c.args.slots.now) (get c.try_remove.new.self) (get c.note.new.slots) c.args.slot c.in_ok-place.place _ (table_by is) (sym c.in_ok-place.ensures.value) updates.changed updates.others (sym c.in_ok-_instance.ensures.entry)
    (subst (λ es. IsMoved (option_map (λ e. e.1.slot) (slice_get es c.in_ok-place.place)) c.in_ok-place.place (get c.try_remove.new.self) (get c.note.new.slots)) c.in_ok-_instance.ensures.entries c.note.ensures) in
    subst (λ es. IsPlaced es (get c.note.new.slots)) (sym c.in_ok-_instance.ensures.entries) (placed table (subst AreApart c.in_ok-_instance.ensures.entries (apart_by c.swap_remove_index.new.self.entries c.swap_remove_index.ensures.unique)))

pub returns-clause-removed : goal.returns-clause-removed
returns-clause-removed c is = removed_is c.args.entries.now.entries (get c.args.slots.now) c.args.slot _ _ (sym c.in_ok-place.ensures.value) (sym c.in_ok-_instance.ensures.entry)

pub returns-clause-others : goal.returns-clause-others
returns-clause-others c is =
    let updates = c.in_ok-place.ensures.updates in
    let (table, others) = removes c.args.entries.now.entries (get c.args.slots.now) (get c.try_remove.new.self) (get c.note.new.slots) c.args.slot c.in_ok-place.place _ (table_by is) (sym c.in_ok-place.ensures.value) updates.changed updates.others (sym c.in_ok-_instance.ensures.entry)
    (subst (λ es. IsMoved (option_map (λ e. e.1.slot) (slice_get es c.in_ok-place.place)) c.in_ok-place.place (get c.try_remove.new.self) (get c.note.new.slots)) c.in_ok-_instance.ensures.entries c.note.ensures) in
    subst (λ es. (k : ℕ) → at es (get c.note.new.slots) k ≡ (if nat_eq k c.args.slot then None else at c.args.entries.now.entries (get c.args.slots.now) k)) (sym c.in_ok-_instance.ensures.entries) others

pub returns-clause-absent : goal.returns-clause-absent
returns-clause-absent c i h = c.in_ok-_instance.ensures.updates.0 i ∙ none_still (same_instance _ i) _ h
