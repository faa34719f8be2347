-- What can be kept again stays so.
use Rattle.at_cache.proofs.Common.{◌≡◌, ◌⊎◌, inl, inr, ℕ, List, Bool, true, false, Option, None, Some, IsSome, is_some, if◌then◌else◌, option_map, refl, sym, ap, ◌∙◌, subst, true≢false, lookup, option_and_then, none-some, same_Some, Instance, Location, Value, same_instance, instances_equiv, same_true, Edge, Entry, Order, Standing, Table, Info, memory_of, Entries, Puts, last_of, remembered, standing_of, trace_at, trace_of, AreAlike, IsSpared, IsStill, IsTraceOf, KeepsTrace, Memories, PutsTrace, SparesOthers, Trace, TracesKept}
use Rattle.at_cache.proofs.of_cut.HeldSlots.{entry_in, slot_of}
use Rattle.at_cache.proofs.of_cut.Retraced.{last_slot, trace_is, traced_of, traced_slot}

-- an entry that is traced still, with the same value, has the trace that it had
pub kept_trace : (lists later : Location ℕ → List Edge) (told tnew : Table) (st ts : List Standing) (k : ℕ) (g f : Info) (t : Trace)
    → memory_of told k ≡ Some g → memory_of tnew k ≡ Some f → f.instance ≡ g.instance → f.value ≡ g.value
    → (standing_of ts k).traced ≡ true → (remembered lists told st).traced g.instance ≡ Some t
    → ((u : Trace) → (remembered later tnew ts).traced g.instance ≡ Some u → (remembered lists told st).traced g.instance ≡ Some u)
    → (remembered later tnew ts).traced g.instance ≡ Some t
kept_trace lists later told tnew st ts k g f t had now its value on traced back =
    let (v, was_on, some, is) = trace_is lists told st k g had t traced in
    let made : Trace = trace_of later (memory_of tnew) k f v in
    let there : (remembered later tnew ts).traced g.instance ≡ Some made =
    ap (remembered later tnew ts).traced (sym its)
    ∙ traced_slot later tnew ts k f now
    ∙ ap (λ b. traced_of later (memory_of tnew) k b f) on
    ∙ ap (option_map (trace_of later (memory_of tnew) k f)) (value ∙ some) in
    there ∙ ap Some (same_Some made t (sym (back made there) ∙ traced))

-- where the entry of an instance is the same but for what used it, the last value is
module _ (lists later : Location ℕ → List Edge) (told tnew : Table) (st ts : List Standing) (j : Instance ℕ)
    (stays : (k : ℕ) (g : Info) → memory_of told k ≡ Some g → g.instance ≡ j
    → (f : Info) × (memory_of tnew k ≡ Some f) × (f.instance ≡ g.instance))
    (was : (k : ℕ) (f : Info) → memory_of tnew k ≡ Some f → f.instance ≡ j
    → (g : Info) × (memory_of told k ≡ Some g) × (f.instance ≡ g.instance) × (f.value ≡ g.value)) where
  pub last_at : (remembered later tnew ts).last j ≡ (remembered lists told st).last j
  last_at = by (lookup (same_instance j) tnew.entries.entries) refl (lookup (same_instance j) told.entries.entries) refl
    where
      by : (a : Option Entry) → lookup (same_instance j) tnew.entries.entries ≡ a
          → (b : Option Entry) → lookup (same_instance j) told.entries.entries ≡ b
          → (remembered later tnew ts).last j ≡ (remembered lists told st).last j
      by None is None had = ap last_of is ∙ sym (ap last_of had)
      by (Some x) is b had =
          let (f, now, its) = slot_of tnew j x is in
          let (g, there, named, value) = was x.slot f now its in
          ap (remembered later tnew ts).last (sym its)
          ∙ last_slot later tnew ts x.slot f now
          ∙ value
          ∙ sym (last_slot lists told st x.slot g there)
          ∙ ap (remembered lists told st).last (sym named ∙ its)
      by None is (Some y) had =
          let (g, there, its) = slot_of told j y had in
          let (f, now, named) = stays y.slot g there its in
          let (x, found, at_s, value) = entry_in tnew y.slot f now in
          absurd (none-some x (sym (subst (λ i. lookup (same_instance i) tnew.entries.entries ≡ None)
          (sym (named ∙ its)) is) ∙ found))

-- all stays
pub alike_itself : (m : Memories) → AreAlike m m
alike_itself m = record { traced = λ i. refl; last = λ i. refl }

pub spares_alike : (i : Instance ℕ) (after : Entries) (old new : Memories) → AreAlike old new → SparesOthers i after old new
spares_alike i after old new same = record {
  spares = λ j t apart traced. inl (same.traced j ∙ traced);
  last = λ u. inl (same.last u);
}

-- first each trace of another one stays, with all last values, and then those are spared
pub spares_after : (i : Instance ℕ) (after : Entries) (old mid new : Memories) → ((j : Instance ℕ) → (i ≡ j → ⊥) → KeepsTrace j old mid)
    → ((j : Instance ℕ) → mid.last j ≡ old.last j) → SparesOthers i after mid new → SparesOthers i after old new
spares_after i after old mid new others last s = record {
  spares = λ j t apart traced. by j t (s.spares j t apart (others j apart t traced));
  last = λ u. elim (s.last u) [ inl same ↦ inl (same ∙ last u) | inr its ↦ inr its ];
}
  where
    by : (j : Instance ℕ) (t : Trace) → IsSpared mid new j t → IsSpared old new j t
    by j t (inl there) = inl there
    by j t (inr o) = inr (record { one = o.one; used = o.used; another = λ e. o.another (e ∙ sym (last o.one)) })

-- where no entry that is traced is in the slot of the instance, this has no trace
pub untraced_at : (lists : Location ℕ → List Edge) (t : Table) (st : List Standing) (i : Instance ℕ) (slot : ℕ)
    → (elim (lookup (same_instance i) t.entries.entries) as (λ _. Type 0) [ None ↦ slot ≡ t.places.vacant_key | Some e ↦ slot ≡ e.slot ])
    → ((e : Info) → memory_of t slot ≡ Some e → (standing_of st slot).traced ≡ false) → (remembered lists t st).traced i ≡ None
untraced_at lists t st i slot place off = by (lookup (same_instance i) t.entries.entries) refl place
  where
    by : (o : Option Entry) → lookup (same_instance i) t.entries.entries ≡ o
        → (elim o as (λ _. Type 0) [ None ↦ slot ≡ t.places.vacant_key | Some e ↦ slot ≡ e.slot ]) → (remembered lists t st).traced i ≡ None
    by None none is = ap (λ (o : Option Entry). option_and_then (λ (x : Entry). trace_at lists st (memory_of t) x.slot) o) none
    by (Some x) found is =
        let (e, there, its) = slot_of t i x found in
        ap (remembered lists t st).traced (sym its)
        ∙ traced_slot lists t st x.slot e there
        ∙ ap (λ b. traced_of lists (memory_of t) x.slot b e)
        (ap (λ n. (standing_of st n).traced) (sym is) ∙ off e (ap (memory_of t) is ∙ there))

-- nor has it one where it has no entry
pub untraced_none : (lists : Location ℕ → List Edge) (t : Table) (st : List Standing) (i : Instance ℕ)
    → lookup (same_instance i) t.entries.entries ≡ None → (remembered lists t st).traced i ≡ None
untraced_none lists t st i none = ap (λ (o : Option Entry). option_and_then (λ (x : Entry).
    trace_at lists st (memory_of t) x.slot) o) none

-- where only what has an entry is traced
pub untraced_sure : (entries : Entries) (m : Memories) → TracesKept entries m → (i : Instance ℕ) → entries i ≡ None →
    m.traced i ≡ None
untraced_sure entries m kept i absent = by (m.traced i) refl
  where
    by : (o : Option Trace) → m.traced i ≡ o → m.traced i ≡ None
    by None is = is
    by (Some t) is = absurd (true≢false (sym (subst IsSome absent (kept i t is))))

-- so it is once one more was put
pub sure_put : (old new : Entries) (m n : Memories) (i : Instance ℕ) (v : Option (Value ℕ)) (ls : List (Location ℕ))
    (us : List (Instance ℕ)) (o : Order) → Puts old i v ls us new → PutsTrace i v ls us o m n →
    TracesKept old m → TracesKept new n
sure_put old new m n i v ls us o h traces kept = λ j t is. by j t (traces j t is)
  where
    here : IsSome (new i)
    here = ap is_some (h.adds i ∙ ap (λ b. if b then Some h.entry else old i) (instances_equiv.refl i))

    there : (j : Instance ℕ) (b : Bool) → same_instance i j ≡ b → IsSome (old j) → IsSome (new j)
    there j true same some = subst (λ x. IsSome (new x)) (same_true i j same) here
    there j false same some = ap is_some (h.adds j ∙ ap (λ b. if b then Some h.entry else old j) same) ∙ some

    by : (j : Instance ℕ) (t : Trace) → IsStill m n j t ⊎ ((i ≡ j) × IsTraceOf i v ls us o n t) → IsSome (new j)
    by j t (inl still) = there j (same_instance i j) refl (kept j t still.traced)
    by j t (inr its) = subst (λ x. IsSome (new x)) its.0 here
