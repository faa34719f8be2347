-- What stays where an entry that was to come doesn't.
use Rattle.at_cache.proofs.Common.{◌≡◌, inl, ℕ, ◌+◌, List, Option, None, Some, Result, Ok, Err, OnOk, OnErr, is_some, option_map, if◌then◌else◌, refl, sym, ap, ◌∙◌, subst, arith, lookup, option_and_then, Instance, Location, Value, same_instance, value_view, Cut, Edge, Entry, Order, Standing, Table, Info, Memory, memory_of, Entries, Kept, KeepsAll, Puts, Reads, Uses, is_current, IsIndexed, covers, EntersHeld, kept_cut, AreValued, IsTied, alive, held, is_alive, kept_held, remembered, shown, standing_of, KeepsTrace, SparesOthers, StayTraced, reads_none}
use Rattle.at_cache.proofs.of_cut.Alive.{tied_on}
use Rattle.at_cache.proofs.of_cut.Lifting.{kept_still, stale_held}
use Rattle.at_cache.proofs.Users.{back, uses_none}
use Rattle.at_cache.proofs.of_cut.Retraced.{stale_traces, trace_is, traced_in}
use Rattle.at_cache.proofs.of_cut.Spared.{kept_trace, last_at}
use Rattle.at_cache.proofs.of_cut.Tying.{tied_still}

-- what memories show by standings that are the same
module _ (st ts : List Standing) (same : (k : ℕ) → standing_of ts k ≡ standing_of st k) where
  pub held_alike : (m : Memory) → held st m ≡ held ts m
  held_alike m n k = option_and_then (shown (sym (same k) n)) (m k)

  pub kept_alike : (lists : Location ℕ → List Edge) (t : Table) (puts : ℕ) → KeepsAll (kept_held lists t st puts)
      (kept_held lists t ts puts)
  kept_alike lists t puts i n =
      option_map (λ (e : Entry). let k : Kept = record {
        value = option_map value_view e.value;
        covers = covers lists (λ k. option_and_then (shown (same k n)) (memory_of t k)) puts e.slot;
      } in k)
      (option_and_then (λ (e : Entry). if (same e.slot n).holds then Some e else None) (lookup
      (same_instance i) t.entries.entries))

-- the same where the slots have the same
pub uses_alike : {told : Memory} {x : Edge} {links : List ℕ} (m mid new : Memory) → ((k : ℕ) → new k ≡ mid k) → Uses told x links m mid
    → Uses told x links m new
uses_alike {told} {x} {links} m mid new same u = subst (Uses told x links m) (λ n k. sym (same k) n) u

-- All that is owed where the entry doesn't come.
pub record Left (lists later : Location ℕ → List Edge) (told tnew : Table) (st ts : List Standing)
    (puts : ℕ) : Type 0 where
  pub indexed : IsIndexed later (puts + 1) (held ts (memory_of tnew))
  pub tied : IsTied later (puts + 1) ts (memory_of tnew)
  pub valued : AreValued ts (memory_of tnew)
  pub err : KeepsAll (kept_held lists told st puts) (kept_held later tnew ts (puts + 1))
  pub stay : StayTraced (remembered lists told st) (remembered later tnew ts)
  pub spares : (i : Instance ℕ) (after : Entries) → SparesOthers i after (remembered lists told st) (remembered later tnew ts)

module _ (lists later : Location ℕ → List Edge) (told tnew : Table)
    (st ts : List Standing) {puts : ℕ} {x : Edge} {reads : List (Location ℕ)} {links : List ℕ}
    (i : IsIndexed lists puts (held st (memory_of told))) (t : IsTied lists puts st (memory_of told)) (v : AreValued st
    (memory_of told)) (stamp : x.stamp ≡ puts)
    (same : (k : ℕ) → standing_of ts k ≡ standing_of st k)
    (r : Reads (is_current (alive st (memory_of told))) x reads lists later)
    (u : Uses (alive st (memory_of told)) x links (memory_of told) (memory_of tnew)) where
  trace_left : (j : Instance ℕ) → KeepsTrace j (remembered lists told st) (remembered later tnew ts)
  trace_left j trace traced =
      let (k, g, had, named) = traced_in lists told st j trace traced in
      let its = ap (remembered lists told st).traced named ∙ traced in
      let (v, on, value, is) = trace_is lists told st k g had trace its in
      let (f, now, it) = u.there k g had in
      ap (remembered later tnew ts).traced (sym named)
      ∙ kept_trace lists later told tnew st ts k g f trace had now (ap (λ (n : Info). n.instance) it)
      (ap (λ (n : Info). n.value) it) (ap (λ (z : Standing). z.traced) (same k) ∙ on) its
      (λ w h. (stale_traces lists later told tnew st ts t stamp r u.there (back u)
      (λ n. ap (λ (z : Standing). z.traced) (same n)) g.instance w h).traced)

  last_left : (j : Instance ℕ) → (remembered later tnew ts).last j ≡ (remembered lists told st).last j
  last_left j = last_at lists later told tnew st ts j
      (λ k g had its. let (f, now, it) = u.there k g had in (f, now, ap (λ (n : Info). n.instance) it))
      (λ k f now its. let (g, had, it) = back u k f now in
      (g, had, ap (λ (n : Info). n.instance) it, ap (λ (n : Info). n.value) it))

  -- where only edges came
  pub left : Left lists later told tnew st ts puts
  left = record {
    indexed = subst (IsIndexed later (puts + 1)) (held_alike st ts same (memory_of tnew))
        (stale_held st told tnew lists later puts x reads links i stamp r u);
    tied = tied_on (puts + 1) ts (omega arith) (λ k f found on. ap is_alive (sym (same k)) ∙ on) (tied_still t stamp r u);
    valued = λ k f found on.
        let (e, there, is) = back u k f found in
        ap (λ (n : Info). is_some n.value) is ∙ v k e there (ap (λ (s : Standing). s.traced) (sym (same k)) ∙ on);
    err = λ j. kept_alike st ts same later tnew (puts + 1) j
        ∙ kept_still st told tnew lists later puts x reads links i stamp r u j;
    stay = λ j trace h. stale_traces lists later told tnew st ts t stamp r u.there (back u)
        (λ k. ap (λ (s : Standing). s.traced) (same k)) j trace h;
    spares = λ i after. record {
      spares = λ j trace apart traced. inl (trace_left j trace traced);
      last = λ j. inl (last_left j);
    };
  }

-- where nothing came
module _ (lists : Location ℕ → List Edge) (told : Table) (st : List Standing) {puts : ℕ}
    (i : IsIndexed lists puts (held st (memory_of told))) (t : IsTied lists puts st (memory_of told)) (v : AreValued st
    (memory_of told)) where
  pub left_alone : (ts : List Standing) → ((k : ℕ) → standing_of ts k ≡ standing_of st k)
      → Left lists lists told told st ts puts
  left_alone ts same = left lists lists told told st ts {x = record { slot = 0; stamp = puts }} i t v refl same
      (reads_none _ _ _) (uses_none _ _ _)

-- what holds whatever came
pub on_err : {A E : Type 0} (r : Result (Unit {0}) E) → A → OnErr r A
on_err (Ok p) a = tt
on_err (Err e) a = a

-- so the entry didn't come to be kept
pub enters_none : {E : Type 0} (i : Instance ℕ) (v : Option (Value ℕ)) (looked : List (Location ℕ))
    (taken : List (Instance ℕ)) (o : Order) (number : ℕ) (lists : Location ℕ → List Edge) (old : Cut)
    (later : Location ℕ → List Edge) (new : Cut)
    → Left lists later old.entries new.entries old.standings.items new.standings.items number
    → (r : Result (Unit {0}) E) → OnOk r ⊥ → EntersHeld i v looked taken o number lists old later new r
enters_none {E = E} i v looked taken o number lists old later new k r off = record {
  indexed = k.indexed;
  tied = k.tied;
  valued = k.valued;
  puts = puts r off;
  err = on_err r k.err;
  fails = on_err r k.stay;
  traces = λ j trace h. inl (k.stay j trace h);
  spares = k.spares i (kept_cut later new (number + 1));
}
  where
    puts : (r : Result (Unit {0}) E) → OnOk r ⊥
        → OnOk r (Puts (kept_cut lists old number) i v looked taken (kept_cut later new (number + 1)))
    puts (Ok p) off = absurd off
    puts (Err e) off = tt
