-- An entry that isn't kept has another number, no links and no trace: no edge tells of it then.
use Rattle.at_cache.proofs.Common.{◌≡◌, ◌⊎◌, inl, inr, ◌+◌, [], ◌∷◌, ◌++◌, ℕ, List, Bool, true, false, Option, Some, None, option_map, nat_eq, if◌then◌else◌, refl, sym, ap, ◌∙◌, subst, arith, true≢false, list_any, lookup, option_and_then, cases_eq, eq-eqb, ne_eqb, none-some, same_Some, Instance, Location, Value, same_instance, Edge, Entry, Order, Standing, Table, Info, memory_of, KeepsAll, IsIndexed, edge_to, is_listed, IsAwaited, IsSlotFor, StaysAwaited, outdated, IsChanged, IsTied, held, instances_in, is_alive, is_tied, kept_held, remembered, shown, standing_of, trace_of, untraced, IsStill, KeepsTrace, Memories, PutsTrace, StayTraced, Trace}
use Rattle.at_cache.proofs.Index.{kept_at}
use Rattle.at_cache.proofs.of_cut.Again.{held_off, tied_there}
use Rattle.at_cache.proofs.of_cut.Flushed.{shown_held}
use Rattle.at_cache.proofs.of_cut.Goes.{stay_traced}
use Rattle.at_cache.proofs.of_cut.HeldSlots.{entry_in, not_kept}
use Rattle.at_cache.proofs.of_cut.LeftHeld.{Left, left_alone}
use Rattle.at_cache.proofs.of_cut.Retraced.{names, trace_is, traced_in, traced_of, traced_slot}
use Rattle.at_cache.proofs.of_cut.Spared.{kept_trace, last_at}
use Rattle.at_cache.proofs.Showing.{same_of}

-- where an instance's entry is in the slot, that is its slot
module _ (t : Table) (i : Instance ℕ) (slot : ℕ) (x : Entry)
    (found : lookup (same_instance i) t.entries.entries ≡ Some x) (at_s : x.slot ≡ slot) where
  abbrev Stands : Option Entry → Type 0
  Stands o = elim o as (λ _. Type 0) [ None ↦ slot ≡ t.places.vacant_key | Some e ↦ slot ≡ e.slot ]

  pub its_slot_for : IsSlotFor t i slot
  its_slot_for = by (lookup (same_instance i) t.entries.entries) refl
    where
      by : (o : Option Entry) → lookup (same_instance i) t.entries.entries ≡ o → Stands o
      by None none = absurd (none-some x (sym none ∙ found))
      by (Some y) is = sym at_s ∙ ap (λ (e : Entry). e.slot) (same_Some x y (sym found ∙ is))

module _ (lists : Location ℕ → List Edge) (told tnew : Table) (st ts : List Standing) (puts slot : ℕ)
    (inst : Instance ℕ) (links : List ℕ) (none : links ≡ [])
    (a : IsAwaited lists told st puts inst slot) (e : Info) (there : memory_of told slot ≡ Some e)
    (written : (k : ℕ) → memory_of tnew k ≡ (if nat_eq k slot then option_map (outdated links puts) (memory_of told k)
    else memory_of told k))
    (taken : IsChanged untraced slot st ts) where
  abbrev it : Info
  it = outdated links puts e

  here : memory_of tnew slot ≡ Some it
  here =
      written slot
      ∙ ap (λ b. if b then option_map (outdated links puts) (memory_of told slot) else memory_of told slot)
      (eq-eqb slot slot refl)
      ∙ ap (option_map (outdated links puts)) there

  other : (k : ℕ) → (k ≡ slot → ⊥) → memory_of tnew k ≡ memory_of told k
  other k differs =
      written k
      ∙ ap (λ b. if b then option_map (outdated links puts) (memory_of told k) else memory_of told k)
      (ne_eqb k slot differs)

  stands_here : standing_of ts slot ≡ untraced (standing_of st slot)
  stands_here =
      taken slot
      ∙ ap (λ b. if b then untraced (standing_of st slot) else standing_of st slot) (eq-eqb slot slot refl)

  stands : (k : ℕ) → (k ≡ slot → ⊥) → standing_of ts k ≡ standing_of st k
  stands k differs =
      taken k
      ∙ ap (λ b. if b then untraced (standing_of st k) else standing_of st k) (ne_eqb k slot differs)

  -- what is in the slot is that entry, and in each other one what was
  came : (k : ℕ) (f : Info) → memory_of tnew k ≡ Some f → ((k ≡ slot) × (it ≡ f))
      ⊎ ((k ≡ slot → ⊥) × (memory_of told k ≡ Some f))
  came k f now = elim (cases_eq k slot) [
    | inl same ↦ inl (same, same_Some it f (sym here ∙ ap (memory_of tnew) (sym same) ∙ now))
    | inr differs ↦ inr (differs, sym (other k differs) ∙ now)
  ]

  was : (k : ℕ) (f : Info) → memory_of tnew k ≡ Some f → (g : Info) × (memory_of told k ≡ Some g)
      × (f.instance ≡ g.instance) × (f.value ≡ g.value) × (f.users ≡ g.users)
  was k f now = elim (came k f now) [
    | inl (same, is) ↦ (
      e,
      ap (memory_of told) same ∙ there,
      ap (λ (n : Info). n.instance) (sym is),
      ap (λ (n : Info). n.value) (sym is),
      ap (λ (n : Info). n.users) (sym is),
    )
    | inr (differs, had) ↦ (f, had, refl, refl, refl)
  ]

  stays : (k : ℕ) (g : Info) → memory_of told k ≡ Some g → (f : Info) × (memory_of tnew k ≡ Some f)
      × (f.instance ≡ g.instance) × (f.users ≡ g.users)
  stays k g had = elim (cases_eq k slot) [
    | inl same ↦
        let its = same_Some e g (sym there ∙ ap (memory_of told) (sym same) ∙ had) in
        (it, ap (memory_of tnew) same ∙ here, ap (λ (n : Info). n.instance) its, ap (λ (n : Info). n.users) its)
    | inr differs ↦ (g, other k differs ∙ had, refl, refl)
  ]

  -- it isn't kept
  off : (standing_of st slot).holds ≡ false
  off = not_kept lists told st puts slot e there (ap (kept_held lists told st puts) (a.its e there) ∙ a.absent)

  held_same : (k : ℕ) → held ts (memory_of tnew) k ≡ held st (memory_of told) k
  held_same k = elim (cases_eq k slot) [
    | inl same ↦
        ap (held ts (memory_of tnew)) same
        ∙ held_off ts (memory_of tnew) slot (ap (λ (z : Standing). z.holds) stands_here ∙ off)
        ∙ sym (held_off st (memory_of told) slot off)
        ∙ ap (held st (memory_of told)) (sym same)
    | inr differs ↦
        ap (λ (z : Standing). option_and_then (shown z) (memory_of tnew k)) (stands k differs)
        ∙ ap (option_and_then (shown (standing_of st k))) (other k differs)
  ]

  all_same : held st (memory_of told) ≡ held ts (memory_of tnew)
  all_same n k = sym (held_same k) n

  alone : Left lists lists told told st st puts
  alone = left_alone lists told st a.indexed a.tied a.valued st (λ k. refl)

  keeps : KeepsAll (kept_held lists told st puts) (kept_held lists tnew ts (puts + 1))
  keeps i =
      same_of (shown_held lists told st (puts + 1)) (shown_held lists tnew ts (puts + 1))
      (λ s. ap (λ m. kept_at lists m (puts + 1) s) (sym all_same)) i
      ∙ alone.err i

  unlinked : (p : ℕ) → list_any (nat_eq p) it.links ≡ true → ⊥
  unlinked p h = true≢false (sym h ∙ ap (λ ls. list_any (nat_eq p) ls) none)

  tied_test : (s : ℕ) (f : Info) (p : ℕ) (g : Info) → memory_of tnew p ≡ Some g
      → is_listed (edge_to s f) g.users ≡ true → is_tied (memory_of tnew) s f p ≡ true
  tied_test s f p g now listed = ap (λ (o : Option Info). elim o as (λ _. Bool)
      [ None ↦ false | Some n ↦ is_listed (edge_to s f) n.users ]) now ∙ listed

  -- what edges tell of they told of before
  live : (k : ℕ) → (k ≡ slot → ⊥) → is_alive (standing_of ts k) ≡ true → is_alive (standing_of st k) ≡ true
  live k differs on = ap is_alive (sym (stands k differs)) ∙ on

  tied : IsTied lists (puts + 1) ts (memory_of tnew)
  tied = record {
    idle = λ k f now. elim (came k f now) [
      | inl (same, is) ↦ ap (λ (n : Info). n.going) (sym is) ∙ a.tied.idle slot e there
      | inr (differs, had) ↦ a.tied.idle k f had
    ];
    known = λ k f now. elim (came k f now) [
      | inl (same, is) ↦ let same_stamp = ap (λ (n : Info). n.stamp) is in omega (arith, same_stamp)
      | inr (differs, had) ↦ let less = a.tied.known k f had in omega (arith, less)
    ];
    used = λ k f now on p h. elim (came k f now) [
      | inl (same, is) ↦ absurd (unlinked p (ap (λ (n : Info). list_any (nat_eq p) n.links) is ∙ h))
      | inr (differs, had) ↦
          let (g, at_p, listed) = tied_there (memory_of told) k f p (a.tied.used k f had (live k differs on) p h) in
          let (n, now_p, named, users) = stays p g at_p in
          tied_test k f p n now_p (ap (is_listed (edge_to k f)) users ∙ listed)
    ];
    uses = λ p f now x h g at_x stamp.
        let (old, had, named, value, users) = was p f now in
        let listed = ap (is_listed x) (sym users) ∙ h in
        elim (came x.slot g at_x) [
          | inl (same, is) ↦
              let past = a.tied.past_users p old had x listed in
              let its = ap (λ (n : Info). n.stamp) is in
              absurd (omega (arith, past, its, stamp))
          | inr (differs, was_x) ↦ a.tied.uses p old had x listed g was_x stamp
        ];
    past_readers = λ l x h. let less = a.tied.past_readers l x h in omega (arith, less);
    past_users = λ p f now x h.
        let (old, had, named, value, users) = was p f now in
        let less = a.tied.past_users p old had x (ap (is_listed x) (sym users) ∙ h) in
        omega (arith, less);
  }

  -- what is traced is in another slot
  elsewhere : (k : ℕ) → (standing_of ts k).traced ≡ true → k ≡ slot → ⊥
  elsewhere k on same = true≢false (sym on ∙ ap (λ n. (standing_of ts n).traced) same
      ∙ ap (λ (z : Standing). z.traced) stands_here)

  names_same : (p : ℕ) → names (memory_of told p) ≡ names (memory_of tnew p)
  names_same p = elim (cases_eq p slot) [
    | inl same ↦ ap (λ n. names (memory_of told n)) same ∙ ap names there ∙ sym (ap names here)
        ∙ ap (λ n. names (memory_of tnew n)) (sym same)
    | inr differs ↦ ap names (sym (other p differs))
  ]

  instances_same : (ps : List ℕ) → instances_in (memory_of told) ps ≡ instances_in (memory_of tnew) ps
  instances_same [] = refl
  instances_same (p ∷ ps) =
      ap (λ us. us ++ instances_in (memory_of told) ps) (names_same p)
      ∙ ap (λ us. names (memory_of tnew p) ++ us) (instances_same ps)

  last_same : (j : Instance ℕ) → (remembered lists tnew ts).last j ≡ (remembered lists told st).last j
  last_same j = last_at lists lists told tnew st ts j
      (λ k g had its. let (f, now, named, users) = stays k g had in (f, now, named))
      (λ k f now its. let (g, had, named, value, users) = was k f now in (g, had, named, value))

  stay : StayTraced (remembered lists told st) (remembered lists tnew ts)
  stay j trace traced =
      let (k, f, now, named) = traced_in lists tnew ts j trace traced in
      let (v, on, value, is) = trace_is lists tnew ts k f now trace
      (ap (remembered lists tnew ts).traced named ∙ traced) in
      let differs : (k ≡ slot → ⊥) = elsewhere k on in
      let had : memory_of told k ≡ Some f = sym (other k differs) ∙ now in
      let alike : trace_of lists (memory_of told) k f v ≡ trace = (λ n. let made : Trace = record {
        value = v;
        reads = λ l. is_listed (edge_to k f) (lists l);
        uses = instances_same f.links n;
      } in made) ∙ is in
      record {
        traced =
            ap (remembered lists told st).traced (sym named)
            ∙ traced_slot lists told st k f had
            ∙ ap (λ b. traced_of lists (memory_of told) k b f) (ap (λ (z : Standing). z.traced)
            (sym (stands k differs)) ∙ on)
            ∙ ap (option_map (trace_of lists (memory_of told) k f)) value
            ∙ ap Some alike;
        value = last_same j;
        uses = λ u among. last_same u;
      }

  others_stay : (j : Instance ℕ) → (inst ≡ j → ⊥) → KeepsTrace j (remembered lists told st) (remembered lists tnew ts)
  others_stay j apart trace traced =
      let (k, g, had, named) = traced_in lists told st j trace traced in
      let differs : (k ≡ slot → ⊥) = λ same. apart (sym (a.its g (ap (memory_of told) (sym same) ∙ had)) ∙ named) in
      let its = ap (remembered lists told st).traced named ∙ traced in
      let (v, on, value, is) = trace_is lists told st k g had trace its in
      ap (remembered lists tnew ts).traced (sym named)
      ∙ kept_trace lists lists told tnew st ts k g g trace had (other k differs ∙ had) refl refl
      (ap (λ (z : Standing). z.traced) (stands k differs) ∙ on) its (λ u h. (stay g.instance u h).traced)

  pub stays_awaited : StaysAwaited lists told st puts tnew ts (puts + 1) inst slot
  stays_awaited =
      let (x, found, at_s, value) = entry_in tnew slot it here in
      record {
        awaited = record {
          indexed = subst (IsIndexed lists (puts + 1)) all_same alone.indexed;
          tied = tied;
          valued = λ k f now on. a.valued k f (sym (other k (elsewhere k on)) ∙ now)
              (ap (λ (z : Standing). z.traced) (sym (stands k (elsewhere k on))) ∙ on);
          absent = keeps inst ∙ a.absent;
          place = its_slot_for tnew inst slot x (subst (λ i. lookup (same_instance i) tnew.entries.entries ≡ Some x)
              (a.its e there) found) at_s;
          its = λ f now. ap (λ (n : Info). n.instance) (same_Some f it (sym now ∙ here)) ∙ a.its e there;
        };
        keeps = keeps;
        traced = stay;
        others = others_stay;
        last = last_same;
      }

-- where nothing has changed
pub awaited_still : (lists : Location ℕ → List Edge) (t : Table) (st : List Standing) (puts : ℕ) (i : Instance ℕ)
    (slot : ℕ) → IsAwaited lists t st puts i slot → StaysAwaited lists t st puts t st puts i slot
awaited_still lists t st puts i slot a = record {
  awaited = a;
  keeps = λ j. refl;
  traced = stay_traced (remembered lists t st);
  others = λ j apart trace traced. traced;
  last = λ j. refl;
}

-- where each trace was there, no trace comes; and what is put then is put before
still_after : (old mid new : Memories) → StayTraced old mid → (j : Instance ℕ) (t : Trace)
    → IsStill mid new j t → IsStill old new j t
still_after old mid new stay j trace still =
    let before = stay j trace still.traced in
    record {
      traced = before.traced;
      value = still.value ∙ before.value;
      uses = λ u among. still.uses u among ∙ before.uses u among;
    }

pub stay_after : (old mid new : Memories) → StayTraced old mid → StayTraced mid new → StayTraced old new
stay_after old mid new first then_stay j t h = still_after old mid new first j t (then_stay j t h)

pub puts_after : (i : Instance ℕ) (v : Option (Value ℕ)) (reads : List (Location ℕ)) (uses : List (Instance ℕ))
    (o : Order) (old mid new : Memories) → StayTraced old mid → PutsTrace i v reads uses o mid new
    → PutsTrace i v reads uses o old new
puts_after i v reads uses o old mid new stay puts j trace traced = elim (puts j trace traced) [
  | inl still ↦ inl (still_after old mid new stay j trace still)
  | inr its ↦ inr its
]
