-- What isn't kept leaves memory.
use Rattle.at_cache.proofs.Common.{◌≡◌, inl, inr, ℕ, zero, suc, ◌<◌, ◌≤◌, ◌+◌, List, [], ◌∷◌, ◌++◌, ◌||◌, if◌then◌else◌, length, option_map, Bool, true, false, true≢false, Option, None, Some, is_some, IfNone, OnSome, nat_eq, Contains, slice_index_or, refl, sym, ap, ◌∙◌, subst, arith, list_any, get, option_and_then, cases_eq, cases_lt, eq-eqb, ne_eqb, or_right, none-some, Instance, Location, Cut, Edge, Standing, Table, Info, Memory, info, memory_of, KeepsAll, IsIndexed, edge_to, is_listed, AreHeld, LosesTraces, Sheds, ShedsAt, Shrinks, AreValued, IsChanged, IsTied, held, instances_in, is_tied, kept_held, remembered, shown, standing_of, trace_of, untraced, FlushesTraces, IsStill, Memories, StayTraced, Trace}
use Rattle.at_cache.specs.Standings.{nothing}
use Rattle.at_cache.proofs.Came.{none_by}
use Rattle.at_cache.proofs.Index.{kept_at}
use Rattle.at_cache.proofs.Moving.{at_none}
use Rattle.at_cache.proofs.Showing.{same_of}
use Rattle.at_cache.proofs.of_cut.Again.{held_as, held_from, held_off, held_on, tied_there, used_there}
use Rattle.at_cache.proofs.of_cut.Alive.{by_holding}
use Rattle.at_cache.proofs.of_cut.Flushed.{shown_held}
use Rattle.at_cache.proofs.of_cut.Retraced.{last_slot, names, slot_among, trace_is, traced_in, traced_slot}
use Rattle.at_cache.proofs.of_cut.Seeing.{past_nothing}

-- an entry's slot is one of those of the slab
slot_within : (t : Table) (k : ℕ) (f : Info) → memory_of t k ≡ Some f → k < length t.places.slots
slot_within t k f h = elim (cases_lt k (length t.places.slots)) [
  | inl is ↦ is
  | inr over ↦ absurd (none-some f (sym (ap (option_map info) (at_none t.entries.entries (get t.places) k (past t.places.slots k over))) ∙ h))
]
  where
    past : {T : Type 0} (xs : List (Option T)) (k : ℕ) → length xs ≤ k → slice_index_or xs k None ≡ None
    past [] k over = refl
    past (x ∷ xs) zero over = absurd (omega (arith, over))
    past (x ∷ xs) (suc k) over = past xs k (omega (arith, over))

module _ (st : List Standing) where
  -- one slot
  pub sheds_nothing : (slot : ℕ) (m : Memory) → (standing_of st slot).holds ≡ true → ShedsAt st slot m m
  sheds_nothing slot m on = record { gone = λ e h. on; stays = λ k h. refl; from = λ k e h. h }

  pub sheds_none : (slot : ℕ) (m : Memory) → is_some (m slot) ≡ false → ShedsAt st slot m m
  sheds_none slot m none = record {
    gone = λ e h. absurd (none-some e (sym (none_by (m slot) none) ∙ h));
    stays = λ k h. refl;
    from = λ k e h. h;
  }

  sheds_one : (slot : ℕ) (m new : Memory) → (standing_of st slot).holds ≡ false → new slot ≡ None
      → ((k : ℕ) → (k ≡ slot → ⊥) → new k ≡ m k) → ShedsAt st slot m new
  sheds_one slot m new off none others = record {
    gone = λ e h. absurd (none-some e (sym none ∙ h));
    stays = λ k on. elim (cases_eq k slot) [
      | inl same ↦ absurd (true≢false (sym on ∙ ap (λ j. (standing_of st j).holds) same ∙ off))
      | inr differs ↦ others k differs
    ];
    from = λ k e h. elim (cases_eq k slot) [
      | inl same ↦ absurd (none-some e (sym none ∙ ap new (sym same) ∙ h))
      | inr differs ↦ sym (others k differs) ∙ h
    ];
  }

  pub sheds_by : (slot : ℕ) (m new : Memory) {T : Type 0} (A : Type 0) (o : Option T) → (standing_of st slot).holds ≡ false → is_some (m slot) ≡ true
      → IfNone o ((m slot ≡ None) × A) → OnSome o (new slot ≡ None) → OnSome o ((k : ℕ) → (k ≡ slot → ⊥) → new k ≡ m k) → ShedsAt st slot m new
  sheds_by slot m new A None off there none gone others = absurd (true≢false (sym there ∙ ap is_some (none.0)))
  sheds_by slot m new A (Some e) off there none gone others = sheds_one slot m new off gone others

  -- What isn't kept of the first slots is gone.
  pub record ShedsBelow (n : ℕ) (old new : Memory) : Type 0 where
    pub gone : (k : ℕ) (e : Info) → k < n → new k ≡ Some e → (standing_of st k).holds ≡ true
    pub stays : (k : ℕ) → (standing_of st k).holds ≡ true → new k ≡ old k
    pub from : (k : ℕ) (e : Info) → new k ≡ Some e → old k ≡ Some e

  pub sheds_start : (m : Memory) → ShedsBelow 0 m m
  sheds_start m = record { gone = λ k e less. absurd (omega (arith, less)); stays = λ k h. refl; from = λ k e h. h }

  pub sheds_more : (n : ℕ) (m mid new : Memory) → ShedsBelow n m mid → ShedsAt st n mid new → ShedsBelow (n + 1) m new
  sheds_more n m mid new a b = record {
    gone = λ k e less h. elim (cases_eq k n) [
      | inl same ↦ ap (λ j. (standing_of st j).holds) same ∙ b.gone e (ap new (sym same) ∙ h)
      | inr differs ↦ a.gone k e (below k less differs) (b.from k e h)
    ];
    stays = λ k on. b.stays k on ∙ a.stays k on;
    from = λ k e h. a.from k e (b.from k e h);
  }
    where
      below : (k : ℕ) → k < n + 1 → (k ≡ n → ⊥) → k < n
      below k less differs = elim (cases_lt k n) [ inl is ↦ is | inr over ↦ absurd (differs (omega (arith, less, over))) ]

  pub sheds_end : (t : Table) (n count : ℕ) (new : Memory) → length t.places.slots ≤ count → count ≤ n → ShedsBelow n (memory_of t) new → Sheds st (memory_of t) new
  sheds_end t n count new a b s = record {
    stays = s.stays;
    only = λ k e h. let inside = slot_within t k e (s.from k e h) in s.gone k e (omega (arith, inside, a, b)) h;
  }

-- Where all that is in memory is kept, it is tied as what is kept is.
module _ (lists : Location ℕ → List Edge) (st : List Standing) (m : Memory) (puts : ℕ) (on : AreHeld st m) (i : IsIndexed lists puts (held st m)) where
  here : (s : ℕ) (e : Info) → m s ≡ Some e → held st m s ≡ Some (held_as st s e)
  here s e there = held_on st m s e there (on s e there)

  tied_by : (s : ℕ) (e : Info) (p : ℕ) (g : Info) → m p ≡ Some g → is_listed (edge_to s e) g.users ≡ true → is_tied m s e p ≡ true
  tied_by s e p g there listed = ap (λ (o : Option Info). elim o as (λ _. Bool) [ None ↦ false | Some f ↦ is_listed (edge_to s e) f.users ]) there ∙ listed

  pub tied_held : IsTied lists puts st m
  tied_held = record {
    idle = λ s e there. i.idle s (held_as st s e) (here s e there);
    known = λ s e there. i.known s (held_as st s e) (here s e there);
    used = λ s e there live p h.
        let (f, found, less, listed) = used_there (held st m) s (held_as st s e) p (i.used s (held_as st s e) (here s e there) p h) in
        let (g, in_p, holds, is) = held_from st m p f found in
        tied_by s e p g in_p (ap (λ (x : Info). is_listed (edge_to s e) x.users) is ∙ listed);
    uses = λ p f found x h e there same. i.uses p (held_as st p f) (here p f found) x h (held_as st x.slot e) (here x.slot e there) same;
    past_readers = i.past_readers;
    past_users = λ p f found x h. i.past_users p (held_as st p f) (here p f found) x h;
  }

-- What is kept is what it was, and is found as it was.
module _ (lists : Location ℕ → List Edge) (t u : Table) (st : List Standing) (puts : ℕ) (s : Sheds st (memory_of t) (memory_of u)) where
  same_held : (k : ℕ) → held st (memory_of u) k ≡ held st (memory_of t) k
  same_held k = by (standing_of st k).holds refl
    where
      by : (b : Bool) → (standing_of st k).holds ≡ b → held st (memory_of u) k ≡ held st (memory_of t) k
      by true on = ap (option_and_then (shown (standing_of st k))) (s.stays k on)
      by false off = held_off st (memory_of u) k off ∙ sym (held_off st (memory_of t) k off)

  all_held : held st (memory_of u) ≡ held st (memory_of t)
  all_held i k = same_held k i

  pub keeps_shed : KeepsAll (kept_held lists t st puts) (kept_held lists u st puts)
  keeps_shed = same_of (shown_held lists t st puts) (shown_held lists u st puts) (λ k. ap (λ (m : Memory). kept_at lists m puts k) all_held)

  pub valued_shed : AreValued st (memory_of t) → AreValued st (memory_of u)
  valued_shed h k e there on = h k e (sym (s.stays k (s.only k e there)) ∙ there) on

  module _ (i : IsIndexed lists puts (held st (memory_of t))) where
    pub indexed_shed : IsIndexed lists puts (held st (memory_of u))
    indexed_shed = subst (IsIndexed lists puts) (sym all_held) i

    pub tied_shed : IsTied lists puts st (memory_of u)
    tied_shed = tied_held lists st (memory_of u) puts s.only indexed_shed

    instances_same : (ps : List ℕ) → ((p : ℕ) → list_any (nat_eq p) ps ≡ true → (standing_of st p).holds ≡ true)
        → instances_in (memory_of t) ps ≡ instances_in (memory_of u) ps
    instances_same [] on = refl
    instances_same (p ∷ ps) on =
        ap (λ us. us ++ instances_in (memory_of t) ps) (ap names (sym (s.stays p (on p (ap (λ b. b || list_any (nat_eq p) ps) (eq-eqb p p refl))))))
        ∙ ap (λ us. names (memory_of u p) ++ us) (instances_same ps (λ q h. on q (or_right (nat_eq q p) (list_any (nat_eq q) ps) h)))

    same_last : (k : ℕ) (f : Info) → memory_of u k ≡ Some f → (remembered lists u st).last f.instance ≡ (remembered lists t st).last f.instance
    same_last k f there = last_slot lists u st k f there ∙ sym (last_slot lists t st k f (sym (s.stays k (s.only k f there)) ∙ there))

    pub stay_shed : StayTraced (remembered lists t st) (remembered lists u st)
    stay_shed j trace traced =
        let (k, f, there, named) = traced_in lists u st j trace traced in
        let (v, on, value, it) = trace_is lists u st k f there trace (ap (remembered lists u st).traced named ∙ traced) in
        let was = sym (s.stays k (s.only k f there)) ∙ there in
        let holds : (p : ℕ) → list_any (nat_eq p) f.links ≡ true → (standing_of st p).holds ≡ true
        = λ p h.
        let live = by_holding (standing_of st k) (s.only k f there) in
        let (g, in_p, edge) = tied_there (memory_of u) k f p (tied_shed.used k f there live p h) in
        s.only p g in_p in
        let same : trace_of lists (memory_of t) k f v ≡ trace
        = ap (λ us. let x : Trace = record { value = v; reads = λ l. is_listed (edge_to k f) (lists l); uses = us } in x) (instances_same f.links holds) ∙ it in
        record {
          traced = ap (remembered lists t st).traced (sym named) ∙ traced_slot lists t st k f was
              ∙ ap (λ b. if b then option_map (trace_of lists (memory_of t) k f) f.value else None) on
              ∙ ap (option_map (trace_of lists (memory_of t) k f)) value ∙ ap Some same;
          value = ap (remembered lists u st).last (sym named) ∙ same_last k f there ∙ ap (remembered lists t st).last named;
          uses = λ w c.
              let (p, g, among, in_p, its) = slot_among (memory_of u) f.links w (subst (λ us. Contains us w) (sym (ap (λ (x : Trace). x.uses) it)) c) in
              ap (remembered lists u st).last (sym its) ∙ same_last p g in_p ∙ ap (remembered lists t st).last its;
        }

-- The first slots have lost their traces.
pub record LosesBelow (n : ℕ) (old new : List Standing) : Type 0 where
  pub done : (k : ℕ) → k < n → standing_of new k ≡ untraced (standing_of old k)
  pub rest : (k : ℕ) → n ≤ k → standing_of new k ≡ standing_of old k

pub loses_start : (ss : List Standing) → LosesBelow 0 ss ss
loses_start ss = record { done = λ k less. absurd (omega (arith, less)); rest = λ k over. refl }

pub loses_more : (n : ℕ) (ss mid new : List Standing) → LosesBelow n ss mid → IsChanged untraced n mid new → LosesBelow (n + 1) ss new
loses_more n ss mid new a t = record {
  done = λ k less. elim (cases_eq k n) [
    | inl same ↦ written k true (eq-eqb k n same) ∙ ap untraced (a.rest k (omega (arith, same)))
    | inr differs ↦ written k false (ne_eqb k n differs) ∙ a.done k (below k less differs)
  ];
  rest = λ k over. written k false (ne_eqb k n (λ same. absurd (omega (arith, over, same)))) ∙ a.rest k (omega (arith, over));
}
  where
    written : (k : ℕ) (b : Bool) → nat_eq k n ≡ b → standing_of new k ≡ (if b then untraced (standing_of mid k) else standing_of mid k)
    written k b is = t k ∙ ap (λ c. if c then untraced (standing_of mid k) else standing_of mid k) is

    below : (k : ℕ) → k < n + 1 → (k ≡ n → ⊥) → k < n
    below k less differs = elim (cases_lt k n) [ inl is ↦ is | inr over ↦ absurd (differs (omega (arith, less, over))) ]

pub loses_end : (n : ℕ) (old new : List Standing) → length old ≤ n → LosesBelow n old new → LosesTraces old new
loses_end n old new all a k = elim (cases_lt k n) [
  | inl less ↦ a.done k less
  | inr over ↦
      let none : standing_of old k ≡ nothing = past_nothing old k (omega (arith, over, all)) in
      a.rest k over ∙ none ∙ ap untraced (sym none)
]

-- Where no entry is traced any more, what is kept is what it was.
module _ (lists : Location ℕ → List Edge) (t : Table) (ss ts : List Standing) (puts : ℕ) (lost : LosesTraces ss ts) where
  still_held : (k : ℕ) → held ts (memory_of t) k ≡ held ss (memory_of t) k
  still_held k = by (memory_of t k)
    where
      by : (o : Option Info) → option_and_then (shown (standing_of ts k)) o ≡ option_and_then (shown (standing_of ss k)) o
      by None = refl
      by (Some e) = ap (λ (x : Standing). if x.holds then Some (let f : Info = record e { since = x.since } in f) else None) (lost k)

  still : held ts (memory_of t) ≡ held ss (memory_of t)
  still i k = still_held k i

  pub keeps_untraced : KeepsAll (kept_held lists t ss puts) (kept_held lists t ts puts)
  keeps_untraced = same_of (shown_held lists t ss puts) (shown_held lists t ts puts) (λ k. ap (λ (m : Memory). kept_at lists m puts k) still)

  pub there_untraced : AreHeld ss (memory_of t) → AreHeld ts (memory_of t)
  there_untraced on k e there = ap (λ (x : Standing). x.holds) (lost k) ∙ on k e there

  pub indexed_untraced : IsIndexed lists puts (held ss (memory_of t)) → IsIndexed lists puts (held ts (memory_of t))
  indexed_untraced = subst (IsIndexed lists puts) (sym still)

  none_traced : (k : ℕ) → (standing_of ts k).traced ≡ true → ⊥
  none_traced k on = true≢false (sym on ∙ ap (λ (x : Standing). x.traced) (lost k))

  pub valued_untraced : AreValued ts (memory_of t)
  valued_untraced k e there on = absurd (none_traced k on)

  pub stay_untraced : (m : Memories) → StayTraced m (remembered lists t ts)
  stay_untraced m j trace traced =
      let (k, f, there, named) = traced_in lists t ts j trace traced in
      let (v, on, value, it) = trace_is lists t ts k f there trace (ap (remembered lists t ts).traced named ∙ traced) in
      absurd (none_traced k on)

-- one after the other
still_then : (a b c : Memories) (i : Instance ℕ) (t : Trace) → StayTraced a b → IsStill b c i t → IsStill a c i t
still_then a b c i t first next = let was = first i t next.traced in
    record { traced = was.traced; value = next.value ∙ was.value; uses = λ u h. next.uses u h ∙ was.uses u h }

pub stays_then : (a b c : Memories) → StayTraced a b → StayTraced b c → StayTraced a c
stays_then a b c first next i t h = still_then a b c i t first (next i t h)

pub flushes_then : (says : Location ℕ → Bool → Type 0) (a b c : Memories) → StayTraced a b → FlushesTraces says b c → FlushesTraces says a c
flushes_then says a b c first next i t h = let (still, untouched) = next i t h in (still_then a b c i t first still, untouched)

pub shrinks_then : {lists mid later : Location ℕ → List Edge} {a b c : Cut} {p q r : ℕ} → Shrinks lists a p mid b q → Shrinks mid b q later c r → Shrinks lists a p later c r
shrinks_then x y = record { kept = λ i k h. x.kept i k (y.kept i k h); stay = stays_then _ _ _ x.stay y.stay }
