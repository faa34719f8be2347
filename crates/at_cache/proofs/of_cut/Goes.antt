-- How settling goes on.
use Rattle.at_cache.proofs.Common.{◌≡◌, [], inl, inr, ◌<◌, ◌+◌, ◌-◌, ◌^◌, ◌++◌, ◌∷◌, ℕ, zero, suc, List, length, get_or, take, Bool, true, false, not, Option, Some, None, IsSome, is_some, option_map, min, nat_eq, if◌then◌else◌, Contains, refl, sym, ap, ◌∙◌, subst, arith, true≢false, list_any, lookup, option_and_then, same_Some, Instance, Location, Value, same_instance, Edge, Entry, Standing, Table, get, Info, info, memory_of, at, value_at, PutsBy, AreTraces, CanKeep, HasSettled, IsWhole, IsTied, instances_in, is_alive, kept_held, remembered, standing_of, trace_at, trace_of, held, HasSlot, AreAlike, AreAllKept, Memories, Settled, StayTraced, Trace, itself, head_of, none_in, cases_eq, eq-eqb, false_from_ne_true, or_cases, take_more, Contains-append_cases, Contains-append_left, Contains-append_right, Contains-get_or, AreTaken, IsIndexed, edge_to, is_listed, Contains-cons_cases}
use Rattle.at_cache.specs.declared.settling.Counts.{Counts}
use Rattle.at_cache.specs.Settling.{GoesOn}
use Rattle.at_cache.proofs.of_cut.Behind.{KeepsOn, all_kept_on, settles_below, settles_itself, settles_none, settles_on, settles_then}
use Rattle.std.proofs.lemmas.Bool.{eqb-true}
use Rattle.at_cache.proofs.Users.{from_kept}
use Rattle.at_cache.proofs.of_cut.Again.{again, again_indexed, is_among, tied_there}
use Rattle.at_cache.proofs.of_cut.Alive.{by_trace, tied_on}
use Rattle.at_cache.proofs.of_cut.HeldSlots.{entry_in, holds_slot, kept_slot, off_slot, puts_again, slot_of}

module _ (lists : Location ℕ → List Edge) (t : Table) where
  -- what was traced is
  pub traces_same : (before after : List Standing) → ((k : ℕ)
      → (standing_of after k).traced ≡ (standing_of before k).traced)
      → (m : Memories) → AreTraces lists t before m → AreTraces lists t after m
  traces_same before after same m are i = are i ∙ λ k. option_and_then (λ (x : Entry). there x.slot k)
      (lookup (same_instance i) t.entries.entries)
    where
      there : (s : ℕ) → trace_at lists before (memory_of t) s ≡ trace_at lists after (memory_of t) s
      there s = ap (λ b. option_and_then (λ (e : Info). if b then option_map (trace_of lists (memory_of t) s e)
          e.value else None) (memory_of t s)) (sym (same s))

  pub goes_none : (i : Instance ℕ) (st : List Standing) (c : Counts) → IsWhole lists t st c → GoesOn lists t i st c st c
  goes_none i st c whole = record {
    whole = whole;
    traced = λ k. refl;
    settles = λ m are. settles_none m i (kept_held lists t st c.puts) c.work whole.few;
  }

  module _ (i : Instance ℕ) (a b c : List Standing) (x y z : Counts) where
    pub goes_then : GoesOn lists t i a x b y → GoesOn lists t i b y c z → GoesOn lists t i a x c z
    goes_then first second = record {
      whole = second.whole;
      traced = λ k. second.traced k ∙ first.traced k;
      settles = λ m are. settles_then m i _ _ _ _ _ _ (first.settles m are)
          (second.settles m (traces_same a b first.traced m are));
    }

    pub goes_below : (u : Instance ℕ) (trace : Trace) (front back : List (Instance ℕ))
        → (remembered lists t a).traced i ≡ Some trace
        → trace.uses ≡ front ++ u ∷ back → AreAllKept (kept_held lists t b y.puts) front
        → GoesOn lists t i a x b y → GoesOn lists t u b y c z → GoesOn lists t i a x c z
    goes_below u trace front back traced is all first second = record {
      whole = second.whole;
      traced = λ k. second.traced k ∙ first.traced k;
      settles = λ m are. settles_below m i u trace front back _ _ _ _ _ _ (are i ∙ traced) is all (first.settles m are)
          (second.settles m (traces_same a b first.traced m are));
    }

  pub goes_on_kept : (i : Instance ℕ) (a b : List Standing) (x y : Counts) → GoesOn lists t i a x b y
      → KeepsOn (kept_held lists t a x.puts) (kept_held lists t b y.puts)
  goes_on_kept i a b x y goes = settles_on (remembered lists t a) i _ _ _ _
      (goes.settles (remembered lists t a) (λ i. refl))

  -- of slots, the instances
  pub instances_at : (front back : List ℕ) (p : ℕ) (f : Info) → memory_of t p ≡ Some f
      → instances_in (memory_of t) (front ++ p ∷ back) ≡ instances_in (memory_of t) front ++ f.instance ∷ instances_in
      (memory_of t) back
  instances_at [] back p f there =
      ap (λ (o : Option Info). (elim o as (λ _. List (Instance ℕ)) [ None ↦ [] | Some e ↦ e.instance ∷ [] ])
      ++ instances_in (memory_of t) back) there
  instances_at (q ∷ qs) back p f there =
      ap (λ us. (elim (memory_of t q) as (λ _. List (Instance ℕ)) [ None ↦ [] | Some e ↦ e.instance ∷ [] ]) ++ us)
      (instances_at qs back p f there)
      ∙ joined (elim (memory_of t q) as (λ _. List (Instance ℕ)) [ None ↦ [] | Some e ↦ e.instance ∷ [] ]) _ _
    where
      joined : (xs ys zs : List (Instance ℕ)) → xs ++ (ys ++ zs) ≡ (xs ++ ys) ++ zs
      joined [] ys zs = refl
      joined (w ∷ ws) ys zs = ap (λ vs. w ∷ vs) (joined ws ys zs)

  -- one more of those that were used
  pub goes_past : (i : Instance ℕ) (a b c : List Standing) (x y z : Counts) (trace : Trace) (front back : List ℕ)
      (p : ℕ) (f : Info)
      → (remembered lists t a).traced i ≡ Some trace → trace.uses ≡ instances_in (memory_of t) (front ++ p ∷ back)
      → memory_of t p ≡ Some f
      → AreAllKept (kept_held lists t b y.puts) (instances_in (memory_of t) front) → GoesOn lists t i a x b y
      → GoesOn lists t f.instance b y c z
      → GoesOn lists t i a x c z × (IsSome (value_at (kept_held lists t c z.puts f.instance))
      → AreAllKept (kept_held lists t c z.puts) (instances_in (memory_of t) (front ++ p ∷ [])))
  goes_past i a b c x y z trace front back p f traced uses there all first second = (
    goes_below i a b c x y z f.instance trace (instances_in (memory_of t) front) (instances_in (memory_of t) back)
        traced
        (uses ∙ instances_at front back p f there) all first second,
    λ some u among. one_more (instances_in (memory_of t) front) f.instance
        (all_kept_on _ _ (goes_on_kept f.instance b c y z second) _ all) some u
        (subst (λ us. Contains us u) (instances_at front [] p f there) among),
  )
    where
      one_more : (us : List (Instance ℕ)) (u : Instance ℕ) → AreAllKept (kept_held lists t c z.puts) us
          → IsSome (value_at (kept_held lists t c z.puts u))
          → AreAllKept (kept_held lists t c z.puts) (us ++ u ∷ [])
      one_more us u all some w among = elim (Contains-append_cases us (u ∷ []) w among) [
        | inl d ↦ all w d
        | inr d ↦ elim (Contains-cons_cases u w [] d) [
          | inl same ↦ subst (λ v. IsSome (value_at (kept_held lists t c z.puts v))) same some
          | inr none ↦ absurd (none_in w none)
        ]
      ]

  -- the trace of the entry in a slot
  pub trace_slot : (st : List Standing) (s : ℕ) (e : Info) (v : Value ℕ) → memory_of t s ≡ Some e
      → (standing_of st s).traced ≡ true → e.value ≡ Some v
      → (remembered lists t st).traced e.instance ≡ Some (trace_of lists (memory_of t) s e v)
  trace_slot st s e v there traced valued =
      let (x, found, at_s, value) = entry_in t s e there in
      ap (λ (o : Option Entry). option_and_then (λ (x : Entry). trace_at lists st (memory_of t) x.slot) o) found
      ∙ ap (trace_at lists st (memory_of t)) at_s
      ∙ ap (λ (o : Option Info). option_and_then (λ (e : Info). if (standing_of st s).traced then option_map
      (trace_of lists (memory_of t) s e) e.value else None) o) there
      ∙ ap (λ b. if b then option_map (trace_of lists (memory_of t) s e) e.value else None) traced
      ∙ ap (option_map (trace_of lists (memory_of t) s e)) valued

  -- what is traced has a value
  pub value_slot : (st : List Standing) (c : Counts) (s : ℕ) (e : Info) → IsWhole lists t st c → memory_of t s ≡ Some e
      → (standing_of st s).traced ≡ true
      → (v : Value ℕ) × (e.value ≡ Some v)
  value_slot st c s e whole there traced = by e.value refl
    where
      by : (o : Option (Value ℕ)) → e.value ≡ o → (v : Value ℕ) × (e.value ≡ Some v)
      by None none = absurd (true≢false (sym (whole.valued s e there traced) ∙ ap is_some none))
      by (Some v) is = (v, is)

  -- an entry that is kept has its value
  pub value_kept : (st : List Standing) (puts s : ℕ) (e : Info) → memory_of t s ≡ Some e
      → (standing_of st s).holds ≡ true → is_some e.value ≡ true
      → IsSome (value_at (kept_held lists t st puts e.instance))
  value_kept st puts s e there on some = ap (λ o. is_some (value_at o)) (kept_slot lists t st puts s e there on) ∙ some

  -- all that an entry used is in memory
  pub links_taken : (st : List Standing) (puts s : ℕ) (e : Info) → IsTied lists puts st (memory_of t) → memory_of t s ≡ Some e
      → (standing_of st s).traced ≡ true → AreTaken (memory_of t) e.links
  links_taken st puts s e tied there traced p c =
      let live = by_trace (standing_of st s) traced in
      let (f, in_p, listed) = tied_there (memory_of t) s e p (tied.used s e there live p (is_among e.links p c)) in
      ap is_some in_p

  pub instance_among : (ps : List ℕ) (p : ℕ) (f : Info) → memory_of t p ≡ Some f → list_any (nat_eq p) ps ≡ true
      → Contains (instances_in (memory_of t) ps) f.instance
  instance_among [] p f in_p h = absurd (true≢false (sym h))
  instance_among (q ∷ qs) p f in_p h = elim (or_cases (nat_eq p q) (list_any (nat_eq p) qs) h) [
    | inl same ↦
        Contains-append_left _ (instances_in (memory_of t) qs) f.instance
        (subst (λ (o : Option Info). Contains (elim o as (λ _. List (Instance ℕ))
        [ None ↦ [] | Some e ↦ e.instance ∷ [] ]) f.instance)
        (sym in_p ∙ ap (memory_of t) (eqb-true p q same)) (head_of f.instance []))
    | inr rest ↦ Contains-append_right (elim (memory_of t q) as (λ _. List (Instance ℕ))
        [ None ↦ [] | Some e ↦ e.instance ∷ [] ]) _ f.instance (instance_among qs p f in_p rest)
  ]

  -- each that it used, where the values of all are kept
  links_hold : (st : List Standing) (puts s : ℕ) (e : Info) → IsTied lists puts st (memory_of t) → memory_of t s ≡ Some e
      → (standing_of st s).traced ≡ true
      → AreAllKept (kept_held lists t st puts) (instances_in (memory_of t) e.links)
      → (p : ℕ) → list_any (nat_eq p) e.links ≡ true → (f : Info) × (memory_of t p ≡ Some f)
      × ((standing_of st p).holds ≡ true)
  links_hold st puts s e tied there traced all p h =
      let (f, in_p, listed) = tied_there (memory_of t) s e p (tied.used s e there (by_trace (standing_of st s) traced) p h) in
      (f, in_p, holds_slot lists t st puts p f in_p (all f.instance (instance_among e.links p f in_p h)))

  -- the entry in the slot is kept again
  pub goes_itself : (s : ℕ) (a b : List Standing) (x y : Counts) (e : Info) → memory_of t s ≡ Some e
      → IsWhole lists t a x → CanKeep lists t s a x
      → (standing_of a s).holds ≡ false → ((k : ℕ) → standing_of b k ≡
      (if nat_eq k s then again x.puts else standing_of a k))
      → y.puts ≡ x.puts + 1 → y.work ≡ min (x.work + 1) (2 ^ 64 - 1)
      → GoesOn lists t e.instance a x b y × IsSome (value_at (kept_held lists t b y.puts e.instance))
  goes_itself s a b x y e there whole (traced, all) off set puts work =
      let (v, valued) = value_slot a x s e whole there traced in
      let here : standing_of b s ≡ again x.puts = set s ∙ ap (λ c. if c then again x.puts else standing_of a s)
      (eq-eqb s s refl) in
      let others : (k : ℕ) → (k ≡ s → ⊥) → standing_of b k ≡ standing_of a k = λ k differs. set k
      ∙ ap (λ c. if c then again x.puts else standing_of a k)
      (false_from_ne_true (nat_eq k s) (λ h. differs (eqb-true k s h))) in
      let links = links_hold a x.puts s e whole.tied there traced (all e there) in
      let on : (p : ℕ) → list_any (nat_eq p) e.links ≡ true → (standing_of a p).holds ≡ true =
      λ p h. let (f, in_p, holds) = links p h in holds in
      let same : (k : ℕ) → (standing_of b k).traced ≡ (standing_of a k).traced = λ k. elim (cases_eq k s) [
        | inl is ↦ ap (λ n. (standing_of b n).traced) is ∙ ap (λ (z : Standing). z.traced) here ∙ sym traced
            ∙ ap (λ n. (standing_of a n).traced) (sym is)
        | inr differs ↦ ap (λ (z : Standing). z.traced) (others k differs)
      ] in
      let live : (k : ℕ) (f : Info) → memory_of t k ≡ Some f → is_alive (standing_of b k) ≡ true → is_alive (standing_of a k) ≡ true
      = λ k f in_k h. elim (cases_eq k s) [
        | inl is ↦ ap (λ n. is_alive (standing_of a n)) is ∙ by_trace (standing_of a s) traced
        | inr differs ↦ ap is_alive (sym (others k differs)) ∙ h
      ] in
      let puts_it = puts_again lists t a b x.puts s e there off traced here others whole.indexed whole.tied links in (
        record {
          whole = record {
            indexed = subst (λ n. IsIndexed lists n (held b (memory_of t))) (sym puts)
                (again_indexed lists (memory_of t) a b x.puts s e there off traced here others whole.indexed whole.tied on);
            tied = subst (λ n. IsTied lists n b (memory_of t)) (sym puts) (tied_on (x.puts + 1) b (omega arith) live whole.tied);
            valued = λ k f in_k h. whole.valued k f in_k (sym (same k) ∙ h);
            few = omega (arith, work);
          };
          traced = same;
          settles = λ m are.
              settles_itself m e.instance (trace_of lists (memory_of t) s e v) (kept_held lists t a x.puts)
              (kept_held lists t a x.puts) (kept_held lists t b y.puts) x.work x.work y.work
              (are e.instance ∙ trace_slot a s e v there traced valued)
              (off_slot lists t a x.puts s e there off)
              (all e there)
              (subst (λ n. PutsBy (kept_held lists t a x.puts) e.instance (Some v)
              (λ l. is_listed (edge_to s e) (lists l)) (instances_in (memory_of t) e.links)
              (kept_held lists t b n)) (sym puts)
              (subst (λ o. PutsBy (kept_held lists t a x.puts) e.instance o
              (λ l. is_listed (edge_to s e) (lists l)) (instances_in (memory_of t) e.links)
              (kept_held lists t b (x.puts + 1))) valued puts_it))
              work
              (settles_none m e.instance (kept_held lists t a x.puts) x.work whole.few);
        },
        value_kept b y.puts s e there (ap (λ (z : Standing). z.holds) here) (whole.valued s e there traced),
      )

-- what was looked up is the entry in the slot
pub is_pair : (t : Table) (s : ℕ) (e : Info) (x : Instance ℕ × Entry) → Some x ≡ at t.entries.entries (get t.places) s
    → memory_of t s ≡ Some e → info x ≡ e
is_pair t s e x found there = same_Some (info x) e (ap (option_map info) found ∙ there)

pub has_shown : {A V : Type 0} (f : A → V) (o : Option A) → is_some (option_map f o) ≡ is_some o
has_shown f None = refl
has_shown f (Some a) = refl

-- a list at a place
pub before_place : {X : Type 0} (xs : List X) (n : ℕ) (x : X) → n < length xs → (back : List X)
    × (xs ≡ take n xs ++ get_or xs n x ∷ back)
before_place [] n x less = absurd (omega (arith, less))
before_place (y ∷ ys) zero x less = (ys, refl)
before_place (y ∷ ys) (suc n) x less = let (back, rest) = before_place ys n x (omega (arith, less)) in
    (back, ap (λ zs. y ∷ zs) rest)

pub is_on : (b : Bool) → not b ≡ false → b ≡ true
is_on true h = refl
is_on false h = absurd (true≢false h)

-- the next one of the slots
module _ (lists : Location ℕ → List Edge) (t : Table) (slots : List ℕ) (n : ℕ) (i : Instance ℕ) (a b c : List Standing)
    (x y z : Counts) (trace : Trace) where
  pub goes_at : n < length slots → AreTaken (memory_of t) slots → (remembered lists t a).traced i ≡ Some trace
      → trace.uses ≡ instances_in (memory_of t) slots
      → GoesOn lists t i a x b y × AreAllKept (kept_held lists t b y.puts) (instances_in (memory_of t) (take n slots))
      → (result : Bool) → HasSettled lists t (get_or slots n 0) b y result c z
      → GoesOn lists t i a x c z × (result ≡ true → AreAllKept (kept_held lists t c z.puts)
      (instances_in (memory_of t) (take (n + 1) slots)))
  goes_at less taken traced uses (goes, all) result settled =
      let (f, in_p) = from_kept (memory_of t) (get_or slots n 0)
      (taken (get_or slots n 0) (Contains-get_or slots n 0 less)) in
      let (back, is) = before_place slots n 0 less in
      let (next, kept) = settled f in_p in
      let (on, more) = goes_past lists t i a b c x y z trace (take n slots) back (get_or slots n 0) f traced
      (uses ∙ ap (instances_in (memory_of t)) is) in_p all goes next in (
        on,
        λ h. subst (λ ps. AreAllKept (kept_held lists t c z.puts) (instances_in (memory_of t) ps))
            (sym (take_more slots n 0 less)) (more (kept h)),
      )

-- from an instance that has an entry
module _ (lists : Location ℕ → List Edge) (t : Table) (i : Instance ℕ) (s : ℕ) (has : HasSlot t i s)
    (a b : List Standing) (y z : Counts) (result : Bool) (settled : HasSettled lists t s a y result b z) where
  pub goes_from : GoesOn lists t i a y b z
  goes_from =
      let (e, there, is) = slot_of t i has.entry has.found in
      subst (λ j. GoesOn lists t j a y b z) is (settled e (subst (λ n. memory_of t n ≡ Some e) has.there there)).0

  pub settled_from : (n : ℕ) × Settled (remembered lists t a) i n (kept_held lists t a y.puts)
      (kept_held lists t b z.puts) × (z.work ≡ min (y.work + n) (2 ^ 64 - 1))
  settled_from = goes_from.settles (remembered lists t a) (λ j. refl) i itself

  pub stay_from : StayTraced (remembered lists t a) (remembered lists t b)
  stay_from j trace traced = record {
    traced = traces_same lists t a b goes_from.traced (remembered lists t a) (λ j. refl) j ∙ traced;
    value = refl;
    uses = λ u among. refl;
  }

  pub alike_from : AreAlike (remembered lists t a) (remembered lists t b)
  alike_from = record {
    traced = λ j. sym (traces_same lists t a b goes_from.traced (remembered lists t a) (λ i. refl) j);
    last = λ j. refl;
  }

-- where all stays
pub stay_traced : (m : Memories) → StayTraced m m
stay_traced m j trace traced = record { traced = traced; value = refl; uses = λ u among. refl }

-- what is traced has a standing
pub standing_in : (st : List Standing) (k : ℕ) → (standing_of st k).traced ≡ true → k < length st
standing_in [] k h = absurd (true≢false (sym h))
standing_in (x ∷ xs) zero h = omega arith
standing_in (x ∷ xs) (suc k) h = let less = standing_in xs k h in omega (arith, less)
