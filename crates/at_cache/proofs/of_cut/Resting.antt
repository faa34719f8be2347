-- An entry that isn't going is before none.
use Rattle.at_cache.proofs.Common.{◌≡◌, ℕ, true, false, true≢false, Option, None, Some, option_map, refl, sym, ap, ◌∙◌, none-some, same_Some, get, Instance, Entry, Mark, Table, Info, info, is_going, memory_of, next_of, at}
use Rattle.at_cache.specs.declared.mark.Mark.TheVariants as mark

next_none : (mark : Mark) → is_going mark ≡ false → next_of mark ≡ None
next_none mark.Stays h = refl
next_none mark.Last h = absurd (true≢false h)
next_none (mark.Before s) h = absurd (true≢false h)

pub resting : (t : Table) (k : ℕ) (e : Info) → memory_of t k ≡ Some e → e.going ≡ false → e.next ≡ None
resting t k e there idle = by (at t.entries.entries (get t.places) k) there
  where
    by : (o : Option (Instance ℕ × Entry)) → option_map info o ≡ Some e → e.next ≡ None
    by None h = absurd (none-some e h)
    by (Some x) h =
        let is : info x ≡ e = same_Some (info x) e h in
        ap (λ (y : Info). y.next) (sym is) ∙ next_none x.1.mark (ap (λ (y : Info). y.going) is ∙ idle)
