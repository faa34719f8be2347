-- What is traced where an entry comes, or comes in place of one.
use Rattle.at_cache.proofs.Common.{◌≡◌, inl, inr, [], ◌++◌, ◌∷◌, ◌||◌, ℕ, List, Bool, true, false, Option, Some, None, option_map, nat_eq, if◌then◌else◌, Contains, refl, sym, ap, ◌∙◌, subst, arith, list_any, lookup, option_and_then, cases_eq, eq-eqb, or_right, Contains-append_cases, none-some, same_Some, Contains-cons_cases, Instance, Location, Value, same_instance, Edge, Entry, Order, Standing, Table, Info, Memory, memory_of, AreListed, Reads, with_users, is_current, IsIndexed, edge_to, is_listed, IsTied, alive, held, instances_in, is_alive, last_of, remembered, standing_of, trace_at, trace_of, IsStill, IsTraceOf, PutsTrace, StayTraced, Trace, none_in}
use Rattle.at_cache.specs.declared.keeper.Order.TheVariants as order
use Rattle.at_cache.proofs.of_cut.Again.{tied_there}
use Rattle.at_cache.proofs.of_cut.Alive.{by_trace, tells_on}
use Rattle.at_cache.proofs.of_cut.Comes.{Comes, listed_it, listed_same}
use Rattle.at_cache.proofs.Users.{listed_still}
use Rattle.at_cache.proofs.of_cut.HeldSlots.{entry_in, slot_of}

abbrev pub traced_of : (lists : Location ℕ → List Edge) → Memory → (slot : ℕ) → Bool → Info → Option Trace
traced_of lists m s b e = if b then option_map (trace_of lists m s e) e.value else None

-- what is remembered of the entry in a slot
module _ (lists : Location ℕ → List Edge) (t : Table) (st : List Standing) (k : ℕ) (f : Info)
    (there : memory_of t k ≡ Some f) where
  pub traced_slot : (remembered lists t st).traced f.instance ≡ traced_of lists (memory_of t) k
      (standing_of st k).traced f
  traced_slot =
      let (x, found, at_s, value) = entry_in t k f there in
      ap (λ (o : Option Entry). option_and_then (λ (x : Entry). trace_at lists st (memory_of t) x.slot) o) found
      ∙ ap (trace_at lists st (memory_of t)) at_s
      ∙ ap (λ (o : Option Info). option_and_then (λ (e : Info). traced_of lists (memory_of t) k
      (standing_of st k).traced e) o) there

  pub last_slot : (remembered lists t st).last f.instance ≡ f.value
  last_slot = let (x, found, at_s, value) = entry_in t k f there in ap last_of found ∙ value

  -- a trace of it
  pub trace_is : (trace : Trace) → (remembered lists t st).traced f.instance ≡ Some trace
      → (v : Value ℕ) × ((standing_of st k).traced ≡ true) × (f.value ≡ Some v)
      × (trace_of lists (memory_of t) k f v ≡ trace)
  trace_is trace traced = by (standing_of st k).traced refl (sym traced_slot ∙ traced)
    where
      valued : (o : Option (Value ℕ)) → f.value ≡ o → option_map (trace_of lists (memory_of t) k f) o ≡ Some trace
          → (v : Value ℕ) × (f.value ≡ Some v) × (trace_of lists (memory_of t) k f v ≡ trace)
      valued None none h = absurd (none-some trace h)
      valued (Some v) is h = (v, is, same_Some (trace_of lists (memory_of t) k f v) trace h)

      by : (b : Bool) → (standing_of st k).traced ≡ b → traced_of lists (memory_of t) k b f ≡ Some trace
          → (v : Value ℕ) × ((standing_of st k).traced ≡ true) × (f.value ≡ Some v)
          × (trace_of lists (memory_of t) k f v ≡ trace)
      by true on h = let (v, is, same) = valued f.value refl h in (v, on, is, same)
      by false on h = absurd (none-some trace h)

-- an instance that is traced has an entry
pub traced_in : (lists : Location ℕ → List Edge) (t : Table) (st : List Standing) (j : Instance ℕ) (trace : Trace)
    → (remembered lists t st).traced j ≡ Some trace
    → (k : ℕ) × (f : Info) × (memory_of t k ≡ Some f) × (f.instance ≡ j)
traced_in lists t st j trace traced = by (lookup (same_instance j) t.entries.entries) refl
  where
    by : (o : Option Entry) → lookup (same_instance j) t.entries.entries ≡ o → (k : ℕ) × (f : Info)
        × (memory_of t k ≡ Some f) × (f.instance ≡ j)
    by None none = absurd (none-some trace (sym (ap (λ (o : Option Entry). option_and_then
        (λ (x : Entry). trace_at lists st (memory_of t) x.slot) o) none) ∙ traced))
    by (Some x) found = let (f, there, is) = slot_of t j x found in (x.slot, f, there, is)

abbrev pub names : Option Info → List (Instance ℕ)
names o = elim o as (λ _. List (Instance ℕ)) [ None ↦ [] | Some e ↦ e.instance ∷ [] ]

-- of which slot an instance is
pub slot_among : (m : Memory) (ps : List ℕ) (u : Instance ℕ) → Contains (instances_in m ps) u
    → (p : ℕ) × (f : Info) × (list_any (nat_eq p) ps ≡ true) × (m p ≡ Some f) × (f.instance ≡ u)
slot_among m [] u c = absurd (none_in u c)
slot_among m (q ∷ qs) u c = elim (Contains-append_cases (names (m q)) (instances_in m qs) u c) [
  | inl here ↦ by (m q) refl here
  | inr rest ↦ let (p, f, h, is, its) = slot_among m qs u rest in
      (p, f, or_right (nat_eq p q) (list_any (nat_eq p) qs) h, is, its)
]
  where
    by : (o : Option Info) → m q ≡ o → Contains (names o) u → (p : ℕ) × (f : Info)
        × (list_any (nat_eq p) (q ∷ qs) ≡ true) × (m p ≡ Some f) × (f.instance ≡ u)
    by None none h = absurd (none_in u h)
    by (Some f) is h = elim (Contains-cons_cases f.instance u [] h) [
      | inl same ↦ (q, f, ap (λ b. b || list_any (nat_eq q) qs) (eq-eqb q q refl), is, same)
      | inr none ↦ absurd (none_in u none)
    ]

module _ {lists : Location ℕ → List Edge} (later : Location ℕ → List Edge) (told tnew : Table) {st ts : List Standing}
    {puts slot : ℕ} {e : Info}
    (c : Comes (memory_of told) (memory_of tnew) st ts puts slot e) (tied : IsTied lists puts st (memory_of told))
    (indexed : IsIndexed lists puts (held st (memory_of told)))
    {reads : List (Location ℕ)} (r : Reads (is_current (alive st (memory_of told))) (edge_to slot e) reads lists later)
    (listed : AreListed (edge_to slot e) reads later)
    (one : (g : Info) → memory_of told slot ≡ Some g → g.instance ≡ e.instance)
    (fewer : (k : ℕ) (g : Info) → memory_of told k ≡ Some g → (k ≡ slot → ⊥) → (standing_of ts k).traced ≡ true
    → (standing_of st k).traced ≡ true)
    (alike : (k : ℕ) (g : Info) → memory_of told k ≡ Some g → (k ≡ slot → ⊥) → (standing_of ts k).traced ≡ true
    → list_any (nat_eq slot) g.links ≡ true
    → (old : Info) → memory_of told slot ≡ Some old → e.value ≡ old.value)
    (o : Order) (ordered : (standing_of ts slot).traced ≡ true → o ≡ order.AsTaken) where
  -- the instances of slots are the same
  instances_same : (ps : List ℕ) → ((p : ℕ) → list_any (nat_eq p) ps ≡ true → (f : Info) × (memory_of told p ≡ Some f))
      → instances_in (memory_of tnew) ps ≡ instances_in (memory_of told) ps
  instances_same [] there = refl
  instances_same (p ∷ ps) there =
      let (f, in_p) = there p (ap (λ b. b || list_any (nat_eq p) ps) (eq-eqb p p refl)) in
      ap (λ us. us ++ instances_in (memory_of tnew) ps) (at_p f in_p)
      ∙ ap (λ us. names (memory_of told p) ++ us) (instances_same ps
      (λ q h. there q (or_right (nat_eq q p) (list_any (nat_eq q) ps) h)))
    where
      at_p : (f : Info) → memory_of told p ≡ Some f → names (memory_of tnew p) ≡ names (memory_of told p)
      at_p f in_p = elim (cases_eq p slot) [
        | inl same ↦
            ap names (ap (memory_of tnew) same ∙ c.here)
            ∙ ap (λ i. i ∷ []) (sym (one f (ap (memory_of told) (sym same) ∙ in_p)))
            ∙ ap names (sym in_p)
        | inr differs ↦ let (g, now, is) = c.stays p f in_p differs in ap names now
            ∙ ap (λ (n : Info). n.instance ∷ []) is ∙ ap names (sym in_p)
      ]

  -- the last value of what is in another slot
  last_same : (k : ℕ) (g : Info) → memory_of told k ≡ Some g → ((k ≡ slot) → e.value ≡ g.value)
      → (remembered later tnew ts).last g.instance ≡ (remembered lists told st).last g.instance
  last_same k g had value = elim (cases_eq k slot) [
    | inl same ↦
        ap (remembered later tnew ts).last (one g (ap (memory_of told) (sym same) ∙ had))
        ∙ last_slot later tnew ts slot e c.here
        ∙ value same
        ∙ sym (last_slot lists told st k g had)
    | inr differs ↦
        let (f, now, is) = c.stays k g had differs in
        ap (remembered later tnew ts).last (ap (λ (n : Info). n.instance) (sym is))
        ∙ last_slot later tnew ts k f now
        ∙ ap (λ (n : Info). n.value) is
        ∙ sym (last_slot lists told st k g had)
  ]

  still : (k : ℕ) (f : Info) (trace : Trace) → memory_of tnew k ≡ Some f → (k ≡ slot → ⊥)
      → (remembered later tnew ts).traced f.instance ≡ Some trace
      → IsStill (remembered lists told st) (remembered later tnew ts) f.instance trace
  still k f trace now differs traced =
      let (g, had, is) = c.was k f now differs in
      let (v, on, value, it) = trace_is later tnew ts k f now trace traced in
      let before = fewer k g had differs on in
      let live = by_trace (standing_of st k) before in
      let links : (p : ℕ) → list_any (nat_eq p) g.links ≡ true → (a : Info)
      × (memory_of told p ≡ Some a) = λ p h. let (a, in_p, edge) = tied_there (memory_of told) k g p
      (tied.used k g had live p h) in (a, in_p) in
      let valued : g.value ≡ Some v = ap (λ (n : Info). n.value) (sym is) ∙ value in
      let uses : instances_in (memory_of tnew) f.links ≡ instances_in (memory_of told) g.links = ap
      (λ (n : Info). instances_in (memory_of tnew) n.links) is ∙ instances_same g.links links in
      let same : trace_of lists (memory_of told) k g v ≡ trace = (λ n. let made : Trace = record {
        value = v;
        reads = λ l. (sym (ap (λ (n : Info). is_listed (edge_to k n) (later l)) is
            ∙ listed_same c tied indexed later r listed k g had live l)) n;
        uses = sym uses n;
      } in made) ∙ it in
      let its : g.instance ≡ f.instance = ap (λ (n : Info). n.instance) (sym is) in
      record {
        traced =
            ap (remembered lists told st).traced (sym its)
            ∙ traced_slot lists told st k g had
            ∙ ap (λ b. traced_of lists (memory_of told) k b g) before
            ∙ ap (option_map (trace_of lists (memory_of told) k g)) valued
            ∙ ap Some same;
        value = ap (remembered later tnew ts).last (sym its) ∙ last_same k g had (λ at_slot. absurd (differs at_slot))
            ∙ ap (remembered lists told st).last its;
        uses = λ u among.
            let (p, a, h, in_p, named) = slot_among (memory_of told) g.links u
            (subst (λ us. Contains us u) (ap (λ (x : Trace). x.uses) (sym same)) among) in
            ap (remembered later tnew ts).last (sym named)
            ∙ last_same p a in_p (λ at_slot. alike k g had differs on
            (ap (λ n. list_any (nat_eq n) g.links) (sym at_slot) ∙ h) a (ap (memory_of told) (sym at_slot) ∙ in_p))
            ∙ ap (remembered lists told st).last named;
      }

  its_trace : (trace : Trace) → (remembered later tnew ts).traced e.instance ≡ Some trace
      → IsTraceOf e.instance e.value reads (instances_in (memory_of told) e.links) o (remembered later tnew ts) trace
  its_trace trace traced =
      let (v, on, value, it) = trace_is later tnew ts slot e c.here trace traced in
      let v_is : v ≡ trace.value = ap (λ (x : Trace). x.value) it in
      record {
        ordered = ordered on;
        value = value ∙ ap Some v_is;
        last = last_slot later tnew ts slot e c.here ∙ value ∙ ap Some v_is;
        reads = λ l. ap (λ (x : Trace). x.reads l) (sym it) ∙ listed_it c tied indexed later r listed l;
        uses = ap (λ (x : Trace). x.uses) (sym it) ∙ instances_same e.links
            (λ p h. let (f, in_p, holds) = c.links p h in (f, in_p));
      }

  pub puts_traces : PutsTrace e.instance e.value reads (instances_in (memory_of told) e.links) o
      (remembered lists told st) (remembered later tnew ts)
  puts_traces j trace traced =
      let (k, f, now, its) = traced_in later tnew ts j trace traced in
      elim (cases_eq k slot) [
        | inl same ↦
            let it : e ≡ f = same_Some e f (sym c.here ∙ ap (memory_of tnew) (sym same) ∙ now) in
            let is : e.instance ≡ j = ap (λ (n : Info). n.instance) it ∙ its in
            inr (is, its_trace trace (ap (remembered later tnew ts).traced is ∙ traced))
        | inr differs ↦ inl (subst (λ i. IsStill (remembered lists told st) (remembered later tnew ts) i trace) its
            (still k f trace now differs (ap (remembered later tnew ts).traced its ∙ traced)))
      ]

-- where no entry comes, but edges of it
module _ (lists later : Location ℕ → List Edge) (told tmid : Table) (st ts : List Standing) {puts : ℕ} {x : Edge}
    {reads : List (Location ℕ)} (tied : IsTied lists puts st (memory_of told)) (stamp : x.stamp ≡ puts)
    (r : Reads (is_current (alive st (memory_of told))) x reads lists later)
    (stays : (k : ℕ) (g : Info) → memory_of told k ≡ Some g
    → (f : Info) × (memory_of tmid k ≡ Some f) × (f ≡ with_users f.users g))
    (was : (k : ℕ) (f : Info) → memory_of tmid k ≡ Some f
    → (g : Info) × (memory_of told k ≡ Some g) × (f ≡ with_users f.users g))
    (same : (k : ℕ) → (standing_of ts k).traced ≡ (standing_of st k).traced) where
  still_listed : (k : ℕ) (g : Info) → memory_of told k ≡ Some g → is_alive (standing_of st k) ≡ true → (l : Location ℕ)
      → is_listed (edge_to k g) (later l) ≡ is_listed (edge_to k g) (lists l)
  still_listed k g had live = listed_still r k g (tells_on st (memory_of told) k g had live)
      (λ same. let known = tied.known k g had in omega (arith, known, same, stamp))

  still_named : (ps : List ℕ) → ((p : ℕ) → list_any (nat_eq p) ps ≡ true → (f : Info) × (memory_of told p ≡ Some f))
      → instances_in (memory_of tmid) ps ≡ instances_in (memory_of told) ps
  still_named [] there = refl
  still_named (p ∷ ps) there =
      let (f, in_p) = there p (ap (λ b. b || list_any (nat_eq p) ps) (eq-eqb p p refl)) in
      let (g, now, is) = stays p f in_p in
      ap (λ us. us ++ instances_in (memory_of tmid) ps)
      (ap names now ∙ ap (λ (n : Info). n.instance ∷ []) is ∙ ap names (sym in_p))
      ∙ ap (λ us. names (memory_of told p) ++ us)
      (still_named ps (λ q h. there q (or_right (nat_eq q p) (list_any (nat_eq q) ps) h)))

  still_last : (k : ℕ) (g : Info) → memory_of told k ≡ Some g
      → (remembered later tmid ts).last g.instance ≡ (remembered lists told st).last g.instance
  still_last k g had =
      let (f, now, is) = stays k g had in
      ap (remembered later tmid ts).last (ap (λ (n : Info). n.instance) (sym is))
      ∙ last_slot later tmid ts k f now
      ∙ ap (λ (n : Info). n.value) is
      ∙ sym (last_slot lists told st k g had)

  pub stale_traces : StayTraced (remembered lists told st) (remembered later tmid ts)
  stale_traces j trace traced =
      let (k, f, now, named) = traced_in later tmid ts j trace traced in
      let (g, had, is) = was k f now in
      let (v, on, value, it) = trace_is later tmid ts k f now trace (ap (remembered later tmid ts).traced named ∙ traced) in
      let live = by_trace (standing_of st k) (sym (same k) ∙ on) in
      let links : (p : ℕ) → list_any (nat_eq p) g.links ≡ true → (a : Info) × (memory_of told p ≡ Some a)
      = λ p h. let (a, in_p, edge) = tied_there (memory_of told) k g p (tied.used k g had live p h) in (a, in_p) in
      let valued : g.value ≡ Some v = ap (λ (n : Info). n.value) (sym is) ∙ value in
      let uses : instances_in (memory_of tmid) f.links ≡ instances_in (memory_of told) g.links
      = ap (λ (n : Info). instances_in (memory_of tmid) n.links) is ∙ still_named g.links links in
      let alike : trace_of lists (memory_of told) k g v ≡ trace = (λ n. let made : Trace = record {
        value = v;
        reads = λ l. (sym (ap (λ (n : Info). is_listed (edge_to k n) (later l)) is ∙ still_listed k g had live l)) n;
        uses = sym uses n;
      } in made) ∙ it in
      let its : g.instance ≡ j = ap (λ (n : Info). n.instance) (sym is) ∙ named in
      record {
        traced =
            ap (remembered lists told st).traced (sym its)
            ∙ traced_slot lists told st k g had
            ∙ ap (λ b. traced_of lists (memory_of told) k b g) (sym (same k) ∙ on)
            ∙ ap (option_map (trace_of lists (memory_of told) k g)) valued
            ∙ ap Some alike;
        value = ap (remembered later tmid ts).last (sym its) ∙ still_last k g had ∙ ap (remembered lists told st).last its;
        uses = λ u among.
            let (p, a, h, in_p, called) = slot_among (memory_of told) g.links u
            (subst (λ us. Contains us u) (ap (λ (x : Trace). x.uses) (sym alike)) among) in
            ap (remembered later tmid ts).last (sym called) ∙ still_last p a in_p ∙ ap (remembered lists told st).last called;
      }
