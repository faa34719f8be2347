-- What an edit leaves of entries that stay in memory.
use Rattle.at_cache.proofs.Common.{◌≡◌, inl, inr, ℕ, List, Bool, true, false, true≢false, Option, None, Some, option_map, if◌then◌else◌, refl, sym, ap, ◌∙◌, subst, arith, lookup, option_and_then, none-some, same_Some, Instance, Location, Value, same_instance, value_view, Cut, Edge, Entry, Standing, Table, Info, Memory, info, memory_of, Kept, LeavesUntouched, LosesTouched, TakesAway, IsIndexed, covers, edge_to, is_listed, AreValued, IsTied, held, held_of, kept_held, last_of, remembered, standing_of, trace_at, trace_of, FlushesTraces, SparesAtEdit, Trace, is_in}
use Rattle.at_cache.proofs.Ending.{has_edge, indexed_after, leaves, loses}
use Rattle.at_cache.proofs.Index as index
use Rattle.at_cache.proofs.Index.{kept_at}
use Rattle.at_cache.proofs.of_cut.Again.{held_as, held_from, held_on}
use Rattle.at_cache.proofs.of_cut.Alive.{tied_on, was_alive}
use Rattle.at_cache.proofs.Showing.{AreShown, leaves_of, loses_of}
use Rattle.at_cache.proofs.Shown.{found_by, held_by}
use Rattle.at_cache.proofs.Testing.{indexed_by, tested}

-- what is kept of instances is what is held in slots
module _ (lists : Location ℕ → List Edge) (t : Table) (ss : List Standing) (puts : ℕ) where
  abbrev H : Memory
  H k = held ss (memory_of t) k

  held_is : (o : Option Entry) (k : Kept) → option_map (λ (e : Entry). let k : Kept = record { value = option_map value_view e.value; covers = covers lists H puts e.slot } in k) (held_of ss o) ≡ Some k
      → (e : Entry) × (o ≡ Some e) × ((standing_of ss e.slot).holds ≡ true) × ((let k : Kept = record { value = option_map value_view e.value; covers = covers lists H puts e.slot } in k) ≡ k)
  held_is None k h = absurd (none-some k h)
  held_is (Some e) k h = by (standing_of ss e.slot).holds refl
    where
      by : (b : Bool) → (standing_of ss e.slot).holds ≡ b → (f : Entry) × (Some e ≡ Some f) × ((standing_of ss f.slot).holds ≡ true) × ((let k : Kept = record { value = option_map value_view f.value; covers = covers lists H puts f.slot } in k) ≡ k)
      by true on = (e, refl, on, same_Some _ k (sym (ap (λ b. option_map (λ (e : Entry). let k : Kept = record { value = option_map value_view e.value; covers = covers lists H puts e.slot } in k) (if b then Some e else None)) on) ∙ h))
      by false off = absurd (none-some k (sym (ap (λ b. option_map (λ (e : Entry). let k : Kept = record { value = option_map value_view e.value; covers = covers lists H puts e.slot } in k) (if b then Some e else None)) off) ∙ h))

  pub shown_held : AreShown (kept_held lists t ss puts) (kept_at lists (held ss (memory_of t)) puts)
  shown_held = record {
    shows = λ i k h.
        let (e, found, on, is) = held_is (lookup (same_instance i) t.entries.entries) k h in
        let (j, there, same) = found_by t i e found in
        let here : H e.slot ≡ Some (held_as ss e.slot (info (j, e))) = held_on ss (memory_of t) e.slot (info (j, e)) there on in
        (e.slot, index.standing lists H puts e.slot (held_as ss e.slot (info (j, e))), ap (option_map (index.standing lists H puts e.slot)) here, is, same);
    finds = λ i s x h same. by i s x (H s) refl h same;
  }
    where
      by : (i : Instance ℕ) (s : ℕ) (x : index.Standing) (o : Option Info) → H s ≡ o → kept_at lists H puts s ≡ Some x → same_instance i x.instance ≡ true → kept_held lists t ss puts i ≡ Some x.kept
      by i s x None none h same = absurd (none-some x (sym (ap (option_map (index.standing lists H puts s)) none) ∙ h))
      by i s x (Some g) there h same =
          let (f, in_memory, on, is) = held_from ss (memory_of t) s g there in
          let x_is : index.standing lists H puts s g ≡ x = same_Some _ x (sym (ap (option_map (index.standing lists H puts s)) there) ∙ h) in
          let alike : same_instance i f.instance ≡ true = ap (λ (g : Info). same_instance i g.instance) is ∙ ap (λ (y : index.Standing). same_instance i y.instance) x_is ∙ same in
          let (e, j, found, of_slot, e_is) = held_by t i s f in_memory alike in
          let holds : (standing_of ss e.slot).holds ≡ true = ap (λ n. (standing_of ss n).holds) of_slot ∙ on in
          ap (λ o. option_map (λ (e : Entry). let k : Kept = record { value = option_map value_view e.value; covers = covers lists H puts e.slot } in k) (held_of ss o)) found
          ∙ ap (λ b. option_map (λ (e : Entry). let k : Kept = record { value = option_map value_view e.value; covers = covers lists H puts e.slot } in k) (if b then Some e else None)) holds
          ∙ ap Some (ap (λ n. let k : Kept = record { value = option_map value_view e.value; covers = covers lists H puts n } in k) of_slot
          ∙ ap (λ (f : Info). let k : Kept = record { value = f.value; covers = covers lists H puts s } in k) (e_is)
          ∙ ap (λ (g : Info). let k : Kept = record { value = g.value; covers = covers lists H puts s } in k) is
          ∙ ap (λ (y : index.Standing). y.kept) x_is)

-- the last value of an instance is that of its slot
pub last_same : (old new : Table) → ((k : ℕ) → memory_of new k ≡ memory_of old k) → (i : Instance ℕ) → last_of (lookup (same_instance i) new.entries.entries) ≡ last_of (lookup (same_instance i) old.entries.entries)
last_same old new same i = by (lookup (same_instance i) new.entries.entries) refl (lookup (same_instance i) old.entries.entries) refl
  where
    by : (a : Option Entry) → lookup (same_instance i) new.entries.entries ≡ a → (b : Option Entry) → lookup (same_instance i) old.entries.entries ≡ b → last_of (lookup (same_instance i) new.entries.entries) ≡ last_of (lookup (same_instance i) old.entries.entries)
    by None is None was = ap last_of is ∙ sym (ap last_of was)
    by (Some e) is b was =
        let (j, there, alike) = found_by new i e is in
        let (f, k, found, of_slot, f_is) = held_by old i e.slot (info (j, e)) (sym (same e.slot) ∙ there) alike in
        ap last_of is ∙ sym (ap last_of found ∙ ap (λ (x : Info). x.value) f_is)
    by None is (Some f) was =
        let (j, there, alike) = found_by old i f was in
        let (e, k, found, of_slot, e_is) = held_by new i f.slot (info (j, f)) (same f.slot ∙ there) alike in
        absurd (none-some e (sym is ∙ found))

-- what a trace is of
module _ (lists : Location ℕ → List Edge) (ss : List Standing) (m : Memory) (s : ℕ) where
  abbrev traced_as : Info → Option Trace
  traced_as e = if (standing_of ss s).traced then option_map (trace_of lists m s e) e.value else None

  pub trace_is : (t : Trace) → trace_at lists ss m s ≡ Some t → (f : Info) × (m s ≡ Some f) × ((standing_of ss s).traced ≡ true) × ((v : Value ℕ) × (f.value ≡ Some v) × (trace_of lists m s f v ≡ t))
  trace_is t h = by (m s) refl
    where
      by_value : (f : Info) → m s ≡ Some f → (standing_of ss s).traced ≡ true → (o : Option (Value ℕ)) → f.value ≡ o → option_map (trace_of lists m s f) o ≡ Some t → (g : Info) × (m s ≡ Some g) × ((standing_of ss s).traced ≡ true) × ((v : Value ℕ) × (g.value ≡ Some v) × (trace_of lists m s g v ≡ t))
      by_value f there on None none k = absurd (none-some t k)
      by_value f there on (Some v) some k = (f, there, on, (v, some, same_Some (trace_of lists m s f v) t k))

      by_flag : (f : Info) → m s ≡ Some f → (b : Bool) → (standing_of ss s).traced ≡ b → traced_as f ≡ Some t → (g : Info) × (m s ≡ Some g) × ((standing_of ss s).traced ≡ true) × ((v : Value ℕ) × (g.value ≡ Some v) × (trace_of lists m s g v ≡ t))
      by_flag f there true on k = by_value f there on f.value refl (sym (ap (λ b. if b then option_map (trace_of lists m s f) f.value else None) on) ∙ k)
      by_flag f there false off k = absurd (none-some t (sym (ap (λ b. if b then option_map (trace_of lists m s f) f.value else None) off) ∙ k))

      by : (o : Option Info) → m s ≡ o → (g : Info) × (m s ≡ Some g) × ((standing_of ss s).traced ≡ true) × ((v : Value ℕ) × (g.value ≡ Some v) × (trace_of lists m s g v ≡ t))
      by None none = absurd (none-some t (sym (ap (option_and_then traced_as) none) ∙ h))
      by (Some f) there = by_flag f there (standing_of ss s).traced refl (sym (ap (option_and_then traced_as) there) ∙ h)

  pub trace_there : (f : Info) (v : Value ℕ) → m s ≡ Some f → (standing_of ss s).traced ≡ true → f.value ≡ Some v → trace_at lists ss m s ≡ Some (trace_of lists m s f v)
  trace_there f v there on some =
      ap (option_and_then traced_as) there
      ∙ ap (λ b. if b then option_map (trace_of lists m s f) f.value else None) on
      ∙ ap (option_map (trace_of lists m s f)) some

-- the trace of an instance is that of its slot
module _ (lists : Location ℕ → List Edge) (t : Table) (ss : List Standing) (i : Instance ℕ) where
  pub traced_by : (tr : Trace) → (remembered lists t ss).traced i ≡ Some tr → (e : Entry) × (j : Instance ℕ) × (memory_of t e.slot ≡ Some (info (j, e))) × (same_instance i j ≡ true) × (trace_at lists ss (memory_of t) e.slot ≡ Some tr)
  traced_by tr h = by (lookup (same_instance i) t.entries.entries) refl
    where
      by : (o : Option Entry) → lookup (same_instance i) t.entries.entries ≡ o → (e : Entry) × (j : Instance ℕ) × (memory_of t e.slot ≡ Some (info (j, e))) × (same_instance i j ≡ true) × (trace_at lists ss (memory_of t) e.slot ≡ Some tr)
      by None none = absurd (none-some tr (sym (ap (option_and_then (λ (e : Entry). trace_at lists ss (memory_of t) e.slot)) none) ∙ h))
      by (Some e) found = let (j, there, same) = found_by t i e found in (e, j, there, same, sym (ap (option_and_then (λ (e : Entry). trace_at lists ss (memory_of t) e.slot)) found) ∙ h)

  pub traced_of : (s : ℕ) (f : Info) (tr : Trace) → memory_of t s ≡ Some f → same_instance i f.instance ≡ true → trace_at lists ss (memory_of t) s ≡ Some tr → (remembered lists t ss).traced i ≡ Some tr
  traced_of s f tr there same is =
      let (e, j, found, of_slot, e_is) = held_by t i s f there same in
      ap (option_and_then (λ (e : Entry). trace_at lists ss (memory_of t) e.slot)) found ∙ ap (trace_at lists ss (memory_of t)) of_slot ∙ is

-- What an edit takes is taken from what reads a touched location, and what is kept from all that stands for one.
module _ (says : Location ℕ → Bool → Type 0) (lists : Location ℕ → List Edge) (puts : ℕ) (a b : Cut)
    (t : TakesAway says lists a.standings.items (memory_of a.entries) b.standings.items (memory_of b.entries)) where
  all_same : memory_of a.entries ≡ memory_of b.entries
  all_same i k = sym (t.entries k) i

  -- what is kept was
  was_held : (s : ℕ) (f : Info) → memory_of a.entries s ≡ Some f → (standing_of b.standings.items s).holds ≡ true
      → (standing_of a.standings.items s).holds ≡ true
  was_held s f there on =
      let (o, was, alike) = t.works.same s (held_as b.standings.items s f) (held_on b.standings.items (memory_of b.entries) s f (t.entries s ∙ there) on) in
      let (g, found, before, is) = held_from a.standings.items (memory_of a.entries) s o was in
      before

  pub tied_after : IsTied lists puts a.standings.items (memory_of a.entries) → IsTied lists puts b.standings.items (memory_of b.entries)
  tied_after i = tied_on puts b.standings.items (omega arith)
      (λ s f there. was_alive (standing_of a.standings.items s) (standing_of b.standings.items s)
      (was_held s f (sym (t.entries s) ∙ there)) (t.traces.fewer s))
      (subst (IsTied lists puts a.standings.items) all_same i)

  pub valued_after : AreValued a.standings.items (memory_of a.entries) → AreValued b.standings.items (memory_of b.entries)
  valued_after h s e there on = h s e (sym (t.entries s) ∙ there) (t.traces.fewer s on)

  module _ (i : IsIndexed lists puts (held a.standings.items (memory_of a.entries))) where
    pub held_after : IsIndexed lists puts (held b.standings.items (memory_of b.entries))
    held_after = tested (indexed_after (indexed_by i) says t.begins t.works)

    pub leaves_held : LeavesUntouched says (kept_held lists a.entries a.standings.items puts) (kept_held lists b.entries b.standings.items puts)
    leaves_held = leaves_of (shown_held lists a.entries a.standings.items puts) (shown_held lists b.entries b.standings.items puts) says
        (leaves (indexed_by i) says t.begins t.works)

    pub loses_held : LosesTouched says (kept_held lists a.entries a.standings.items puts) (kept_held lists b.entries b.standings.items puts)
    loses_held = loses_of (shown_held lists a.entries a.standings.items puts) (shown_held lists b.entries b.standings.items puts) says
        (loses (indexed_by i) says t.begins t.works)

  -- what is traced still looked at no touched location itself
  untouched : (s : ℕ) (e : Info) → memory_of a.entries s ≡ Some e → (standing_of b.standings.items s).traced ≡ true
      → (l : Location ℕ) → is_listed (edge_to s e) (lists l) ≡ true → says l false
  untouched s e there on l h = elim (t.begins.all l) [
    | inl said ↦ said
    | inr all ↦ absurd (true≢false (sym on ∙ t.traces.lost (edge_to s e) (all (edge_to s e) (is_in (lists l) (edge_to s e) h)) (ap (option_map (λ (n : Info). n.stamp)) there)))
  ]

  pub flushes_traces : FlushesTraces says (remembered lists a.entries a.standings.items) (remembered lists b.entries b.standings.items)
  flushes_traces i tr h =
      let (e, j, there, alike, at_slot) = traced_by lists b.entries b.standings.items i tr h in
      let s = e.slot in
      let (f, found, on, (v, some, is)) = trace_is lists b.standings.items (memory_of b.entries) s tr at_slot in
      let was = sym (t.entries s) ∙ found in
      let same_f : info (j, e) ≡ f = same_Some (info (j, e)) f (sym there ∙ found) in
      let alike_f : same_instance i f.instance ≡ true = ap (λ (x : Info). same_instance i x.instance) (sym same_f) ∙ alike in
      let stood = trace_there lists a.standings.items (memory_of a.entries) s f v was (t.traces.fewer s on) some ∙ ap (λ (m : Memory). Some (trace_of lists m s f v)) all_same ∙ ap Some is in (
        record {
          traced = traced_of lists a.entries a.standings.items i s f tr was alike_f stood;
          value = last_same a.entries b.entries t.entries i;
          uses = λ u listed. last_same a.entries b.entries t.entries u;
        },
        λ l reads. untouched s f was on l (ap (λ (x : Trace). x.reads l) is ∙ reads),
      )

  -- a trace that is there no more looked at what was touched
  pub spares_edit : SparesAtEdit says false (remembered lists a.entries a.standings.items) (remembered lists b.entries b.standings.items)
  spares_edit i tr h =
      let (e, j, there, alike, at_slot) = traced_by lists a.entries a.standings.items i tr h in
      let (f, found, on, (v, some, is)) = trace_is lists a.standings.items (memory_of a.entries) e.slot tr at_slot in
      let same_f : info (j, e) ≡ f = same_Some (info (j, e)) f (sym there ∙ found) in
      let alike_f = ap (λ (x : Info). same_instance i x.instance) (sym same_f) ∙ alike in
      elim (t.traces.spared e.slot on) [
        | inl still ↦ inl (traced_of lists b.entries b.standings.items i e.slot f tr (t.entries e.slot ∙ found) alike_f
            (trace_there lists b.standings.items (memory_of b.entries) e.slot f v (t.entries e.slot ∙ found) still some
            ∙ ap (λ (m : Memory). Some (trace_of lists m e.slot f v)) (sym all_same) ∙ ap Some is))
        | inr (x, c, at, tells) ↦
            let (l, said, listed) = t.begins.from x c in
            let stamp : f.stamp ≡ x.stamp = same_Some f.stamp x.stamp (sym (ap (option_map (λ (n : Info). n.stamp)) (ap (memory_of a.entries) at ∙ found)) ∙ tells) in
            inr (inl (l, ap (λ (x : Trace). x.reads l) (sym is) ∙ subst (λ n. is_listed (edge_to n f) (lists l) ≡ true) at (has_edge (lists l) x f listed stamp), said))
      ]
