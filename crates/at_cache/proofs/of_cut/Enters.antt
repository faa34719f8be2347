-- What a put leaves, over all its steps: edges of the locations, edges of what it used, the entry, and how that stands.
use Rattle.at_cache.proofs.Common.{◌≡◌, ◌⊎◌, [], arith, inl, inr, ◌<◌, ◌+◌, length, slice_set, ℕ, List, Bool, true, false, Option, Some, None, IsSome, is_some, nat_eq, if◌then◌else◌, Contains, refl, sym, ap, ◌∙◌, subst, true≢false, eqb-true, list_any, cases_eq, eq-eqb, false_from_ne_true, same_Some, Instance, Location, Value, Edge, Order, Standing, Table, Info, Memory, memory_of, AreKept, Puts, AreListed, Reads, AreTaken, Uses, users_at, with_users, is_current, IsIndexed, edge_to, IsAnother, IsUser, PutsIn, AreValued, IsTied, alive, held, instances_in, is_alive, kept_held, remembered, standing_of, AreTheirs, IsOutdated, IsSpared, IsStill, IsTraceOf, PutsTrace, SparesOthers, Trace, is_in, none_in, same_instance, instances_equiv, same_true}
use Rattle.at_cache.specs.declared.keeper.Order.TheVariants as order
use Rattle.at_cache.proofs.of_cut.Again.{tied_there}
use Rattle.at_cache.proofs.of_cut.Alive.{by_trace, was_alive, tells_on}
use Rattle.at_cache.proofs.of_cut.Comes.{Comes, comes_indexed, puts_comes}
use Rattle.at_cache.proofs.of_cut.EnteredHeld.{they_are, they_hold}
use Rattle.at_index.proofs.Listing as listing
use Rattle.at_cache.proofs.of_cut.HeldSlots.{kept_slot, not_kept}
use Rattle.at_cache.proofs.Users.{back, users_of}
use Rattle.at_cache.proofs.of_cut.Renewed.{renewed_tied}
use Rattle.at_cache.proofs.of_cut.Goes.{instance_among}
use Rattle.at_cache.proofs.of_cut.Retraced.{last_slot, puts_traces, trace_is, traced_in}
use Rattle.at_cache.proofs.of_cut.Seeing.{set_is}
use Rattle.at_cache.proofs.of_cut.Spared.{kept_trace, last_at}

-- All that is owed where an entry has come that is kept.
pub record HasEntered (lists later : Location ℕ → List Edge) (told tnew : Table) (before after : List Standing)
    (number : ℕ)
    (inst : Instance ℕ) (value : Option (Value ℕ)) (reads : List (Location ℕ)) (uses : List (Instance ℕ)) (o : Order)
    : Type 0 where
  pub indexed : IsIndexed later (number + 1) (held after (memory_of tnew))
  pub tied : IsTied later (number + 1) after (memory_of tnew)
  pub valued : AreValued after (memory_of tnew)
  pub puts : Puts (kept_held lists told before number) inst value reads uses (kept_held later tnew after (number + 1))
  pub traces : PutsTrace inst value reads uses o (remembered lists told before) (remembered later tnew after)
  pub spares : SparesOthers inst (kept_held later tnew after (number + 1)) (remembered lists told before) (remembered later tnew after)

module _ (lists later : Location ℕ → List Edge) (told tnew : Table) (mid : Memory)
    (zero_st one_st two_st ts : List Standing) (puts slot : ℕ)
    (inst : Instance ℕ) (value : Option (Value ℕ)) (links slots : List ℕ) (reads : List (Location ℕ))
    (uses : List (Instance ℕ)) (standing : Standing) (o : Order)
    (indexed : IsIndexed lists puts (held zero_st (memory_of told))) (tied : IsTied lists puts zero_st (memory_of told))
    (valued : AreValued zero_st (memory_of told))
    (absent : kept_held lists told zero_st puts inst ≡ None)
    (present : AreKept (kept_held lists told zero_st puts) uses)
    (named : (e : Info) → memory_of told slot ≡ Some e → e.instance ≡ inst)
    (taken : AreTaken (memory_of told) links) (theirs : AreTheirs told uses links)
    (room : (k : ℕ) → standing_of one_st k ≡ standing_of zero_st k)
    (r : Reads (is_current (alive zero_st (memory_of told))) (record { slot = slot; stamp = puts }) reads lists later)
    (listed : AreListed (record { slot = slot; stamp = puts }) reads later)
    (same : slots ≡ links)
    (u0 : Uses (alive zero_st (memory_of told)) (record { slot = slot; stamp = puts }) slots (memory_of told) mid)
    (used0 : AreListed (record { slot = slot; stamp = puts }) slots (users_at mid))
    (p : PutsIn slot inst value links puts one_st mid two_st (memory_of tnew))
    (written : ts ≡ slice_set two_st slot standing) (within : slot < length two_st)
    (since : standing.since ≡ puts) (holds : standing.holds ≡ true)
    (ordered : standing.traced ≡ true → o ≡ order.AsTaken)
    (has : standing.traced ≡ true → is_some value ≡ true) where
  hold : (p : ℕ) → list_any (nat_eq p) links ≡ true → (f : Info) × (memory_of told p ≡ Some f)
      × ((standing_of zero_st p).holds ≡ true)
  hold = they_hold lists told zero_st puts uses links present taken theirs

  u : Uses (alive zero_st (memory_of told)) (record { slot = slot; stamp = puts }) links (memory_of told) mid
  u = subst (λ ls. Uses (alive zero_st (memory_of told)) (record { slot = slot; stamp = puts }) ls (memory_of told) mid)
      same u0

  used : AreListed (record { slot = slot; stamp = puts }) links (users_at mid)
  used = subst (λ ls. AreListed (record { slot = slot; stamp = puts }) ls (users_at mid)) same used0

  set : (k : ℕ) → standing_of ts k ≡ (if nat_eq k slot then standing else standing_of two_st k)
  set k = ap (λ xs. standing_of xs k) written ∙ set_is two_st slot standing within k

  stands_here : standing_of ts slot ≡ standing
  stands_here = set slot ∙ ap (λ b. if b then standing else standing_of two_st slot) (eq-eqb slot slot refl)

  stands : (k : ℕ) → (k ≡ slot → ⊥) → standing_of ts k ≡ standing_of two_st k
  stands k differs = set k ∙ ap (λ b. if b then standing else standing_of two_st k)
      (false_from_ne_true (nat_eq k slot) (λ h. differs (eqb-true k slot h)))

  edge_is : (record { slot = slot; stamp = puts }) ≡ edge_to slot p.entry
  edge_is n = record { slot = slot; stamp = (sym p.put.2) n }

  its_instance : p.entry.instance ≡ inst
  its_instance = by (mid slot) refl
    where
      by : (o : Option Info) → mid slot ≡ o → p.entry.instance ≡ inst
      by None none = p.fresh none
      by (Some f) there = let (g, had, is) = back u slot f there in p.anew f there ∙ ap (λ (n : Info). n.instance) is
          ∙ named g had

  off : (g : Info) → memory_of told slot ≡ Some g → (standing_of zero_st slot).holds ≡ false
  off g had = not_kept lists told zero_st puts slot g had
      (ap (kept_held lists told zero_st puts) (named g had) ∙ absent)

  comes : Comes (memory_of told) (memory_of tnew) zero_st ts puts slot p.entry
  comes = record {
    here = p.here;
    stays = λ k g had differs. let (f, found, is) = u.there k g had in (f, p.others k differs ∙ found, is);
    was = λ k f in_k differs. back u k f (sym (p.others k differs) ∙ in_k);
    off = off;
    holds = ap (λ (z : Standing). z.holds) stands_here ∙ holds;
    since = ap (λ (z : Standing). z.since) stands_here ∙ since;
    hold = λ k differs. ap (λ (z : Standing). z.holds) (stands k differs) ∙ ap (λ (z : Standing). z.holds) (p.stand k)
        ∙ ap (λ (z : Standing). z.holds) (room k);
    sinces = λ k differs. ap (λ (z : Standing). z.since) (stands k differs)
        ∙ ap (λ (z : Standing). z.since) (p.stand k) ∙ ap (λ (z : Standing). z.since) (room k);
    stamp = p.put.2;
    links = λ q h. hold q (ap (λ ls. list_any (nat_eq q) ls) (sym p.put.1) ∙ h);
  }

  fewer : (k : ℕ) (g : Info) → memory_of told k ≡ Some g → (k ≡ slot → ⊥) → (standing_of ts k).traced ≡ true
      → (standing_of zero_st k).traced ≡ true
  fewer k g had differs on =
      let (f, found, is) = u.there k g had in
      ap (λ (z : Standing). z.traced) (sym (room k)) ∙ p.fewer k f found
      (ap (λ (z : Standing). z.traced) (sym (stands k differs)) ∙ on)

  live : (k : ℕ) (g : Info) → memory_of told k ≡ Some g → (k ≡ slot → ⊥) → is_alive (standing_of ts k) ≡ true
      → is_alive (standing_of zero_st k) ≡ true
  live k g had differs = was_alive (standing_of zero_st k) (standing_of ts k) (λ on. sym (comes.hold k differs) ∙ on)
      (fewer k g had differs)

  enters_tied : IsTied later (puts + 1) ts (memory_of tnew)
  enters_tied = renewed_tied later tied refl r u p.entry refl p.put.2 p.put.1 p.put.3 p.put.4 p.here p.others used ts live

  enters_indexed : IsIndexed later (puts + 1) (held ts (memory_of tnew))
  enters_indexed = comes_indexed comes tied indexed later enters_tied

  enters_valued : AreValued ts (memory_of tnew)
  enters_valued k f in_k on = elim (cases_eq k slot) [
    | inl same ↦
        let it : p.entry ≡ f = same_Some p.entry f (sym p.here ∙ ap (memory_of tnew) (sym same) ∙ in_k) in
        ap (λ (n : Info). is_some n.value) (sym it) ∙ ap is_some p.put.0
        ∙ has (ap (λ (z : Standing). z.traced) (sym stands_here) ∙ ap (λ n. (standing_of ts n).traced) (sym same) ∙ on)
    | inr differs ↦
        let (g, had, is) = back u k f (sym (p.others k differs) ∙ in_k) in
        ap (λ (n : Info). is_some n.value) is ∙ valued k g had (fewer k g had differs on)
  ]

  alike : (k : ℕ) (g : Info) → memory_of told k ≡ Some g → (k ≡ slot → ⊥) → (standing_of ts k).traced ≡ true
      → list_any (nat_eq slot) g.links ≡ true
      → (old : Info) → memory_of told slot ≡ Some old → p.entry.value ≡ old.value
  alike k g had differs on h old had_old =
      let (f, found, is) = u.there slot old had_old in
      let (n, now, same) = u.there k g had in
      elim (p.changed f found) [
        | inl value_same ↦ p.put.0 ∙ sym value_same ∙ ap (λ (x : Info). x.value) is
        | inr lost ↦
            let live_k = by_trace (standing_of zero_st k) (fewer k g had differs on) in
            let (a, in_a, edge) = tied_there (memory_of told) k g slot (tied.used k g had live_k slot h) in
            let c = u.users.keeps slot (edge_to k g) (subst (λ es. Contains es (edge_to k g))
            (sym (users_of (memory_of told) slot a in_a)) (is_in a.users (edge_to k g) edge))
            (tells_on zero_st (memory_of told) k g had live_k) in
            let gone = lost (edge_to k g) (subst (λ es. Contains es (edge_to k g)) (users_of mid slot f found) c) n now
            (ap (λ (x : Info). x.stamp) same) in
            absurd (true≢false (sym on ∙ ap (λ (z : Standing). z.traced) (stands k differs) ∙ gone))
      ]

  -- what lost its trace used what came, which has another value
  used_by : (k : ℕ) (g f : Info) → memory_of told k ≡ Some g → f ≡ with_users f.users g → IsUser mid slot k f
      → list_any (nat_eq slot) g.links ≡ true
  used_by k g f had is user = elim (u.users.only slot user.edge user.among) [
    | inl old ↦ was_used old (memory_of told slot) refl
    | inr (one, at_slot) ↦
        let known = tied.known k g had in
        let a : g.stamp ≡ puts = sym (ap (λ (z : Info). z.stamp) is) ∙ user.stamp ∙ ap (λ (z : Edge). z.stamp) one in
        absurd (omega (arith, known, a))
  ]
    where
      its : memory_of told user.edge.slot ≡ Some g
      its = ap (memory_of told) user.there ∙ had

      was_used : Contains (users_at (memory_of told) slot) user.edge → (o : Option Info) → memory_of told slot ≡ o
          → list_any (nat_eq slot) g.links ≡ true
      was_used old None none = absurd (none_in user.edge (subst (λ es. Contains es user.edge)
          (ap (λ (o : Option Info). elim o as (λ _. List Edge) [ None ↦ [] | Some e ↦ e.users ]) none) old))
      was_used old (Some a) in_a = tied.uses slot a in_a user.edge
          (listing.has a.users user.edge (subst (λ es. Contains es user.edge) (users_of (memory_of told) slot a in_a) old)) g its
          (sym (ap (λ (z : Info). z.stamp) is) ∙ user.stamp)

  spared_flag : (k : ℕ) (g : Info) → memory_of told k ≡ Some g → (k ≡ slot → ⊥) → (standing_of zero_st k).traced ≡ true
      → ((standing_of ts k).traced ≡ true) ⊎ ((list_any (nat_eq slot) g.links ≡ true) × IsAnother (memory_of told) slot value)
  spared_flag k g had differs on =
      let (f, found, is) = u.there k g had in
      elim (p.spared k f found differs (ap (λ (z : Standing). z.traced) (room k) ∙ on)) [
        | inl still ↦ inl (ap (λ (z : Standing). z.traced) (stands k differs) ∙ still)
        | inr (user, other) ↦ inr (
          used_by k g f had is user,
          λ old at_slot same. let (n, now, alike) = u.there slot old at_slot in
              other n now (ap (λ (z : Info). z.value) alike ∙ same),
        )
      ]

  outdates : (k : ℕ) (g : Info) (trace : Trace) → memory_of told k ≡ Some g → (standing_of zero_st k).traced ≡ true
      → list_any (nat_eq slot) g.links ≡ true
      → IsAnother (memory_of told) slot value → instances_in (memory_of told) g.links ≡ trace.uses
      → IsOutdated (remembered lists told zero_st) (remembered later tnew ts) trace
  outdates k g trace had on uses other is =
      let (a, in_a, edge) = tied_there (memory_of told) k g slot
      (tied.used k g had (by_trace (standing_of zero_st k) on) slot uses) in
      record {
        one = inst;
        used = subst (λ us. Contains us inst) is (subst (Contains (instances_in (memory_of told) g.links)) (named a in_a)
            (instance_among lists told g.links slot a in_a uses));
        another = λ same. other a in_a (
            sym (last_slot lists told zero_st slot a in_a)
            ∙ ap (remembered lists told zero_st).last (named a in_a)
            ∙ sym same
            ∙ ap (remembered later tnew ts).last (sym its_instance)
            ∙ last_slot later tnew ts slot p.entry p.here
            ∙ p.put.0);
      }

  enters_puts : Puts (kept_held lists told zero_st puts) inst value reads
      (instances_in (memory_of told) links) (kept_held later tnew ts (puts + 1))
  enters_puts =
      subst (λ i. Puts (kept_held lists told zero_st puts) i value reads (instances_in (memory_of told) links)
      (kept_held later tnew ts (puts + 1))) its_instance
      (subst (λ v. Puts (kept_held lists told zero_st puts) p.entry.instance v reads
      (instances_in (memory_of told) links) (kept_held later tnew ts (puts + 1))) p.put.0
      (subst (λ ls. Puts (kept_held lists told zero_st puts) p.entry.instance p.entry.value reads
      (instances_in (memory_of told) ls) (kept_held later tnew ts (puts + 1))) p.put.1
      (puts_comes later told tnew comes tied indexed (subst (λ x. Reads (is_current (alive zero_st (memory_of told))) x reads lists later)
      edge_is r) (subst (λ x. AreListed x reads later) edge_is listed)
      (λ g had. named g had ∙ sym its_instance))))

  enters_traces : PutsTrace inst value reads (instances_in (memory_of told) links) o
      (remembered lists told zero_st) (remembered later tnew ts)
  enters_traces =
      subst (λ i. PutsTrace i value reads (instances_in (memory_of told) links) o (remembered lists told zero_st)
      (remembered later tnew ts)) its_instance
      (subst (λ v. PutsTrace p.entry.instance v reads (instances_in (memory_of told) links) o
      (remembered lists told zero_st) (remembered later tnew ts)) p.put.0
      (subst (λ ls. PutsTrace p.entry.instance p.entry.value reads (instances_in (memory_of told) ls) o
      (remembered lists told zero_st) (remembered later tnew ts)) p.put.1
      (puts_traces later told tnew comes tied indexed (subst (λ x. Reads (is_current (alive zero_st (memory_of told))) x reads lists later)
      edge_is r) (subst (λ x. AreListed x reads later) edge_is listed)
      (λ g had. named g had ∙ sym its_instance) fewer alike o
      (λ on. ordered (ap (λ (z : Standing). z.traced) (sym stands_here) ∙ on)))))

  spares_it : (j : Instance ℕ) (trace : Trace) → (inst ≡ j → ⊥) → (remembered lists told zero_st).traced j ≡ Some trace
      → IsSpared (remembered lists told zero_st) (remembered later tnew ts) j trace
  spares_it j trace apart traced =
      let (k, g, had, its) = traced_in lists told zero_st j trace traced in
      let differs : (k ≡ slot → ⊥) = λ same. apart (sym (named g (ap (memory_of told) (sym same) ∙ had)) ∙ its) in
      let before = ap (remembered lists told zero_st).traced its ∙ traced in
      let (v, on, value, is) = trace_is lists told zero_st k g had trace before in
      let (f, now, it) = comes.stays k g had differs in
      elim (spared_flag k g had differs on) [
        | inl still ↦ inl (ap (remembered later tnew ts).traced (sym its) ∙ kept_trace lists later told tnew zero_st ts k g f
            trace had now (ap (λ (z : Info). z.instance) it) (ap (λ (z : Info). z.value) it) still before
            (λ w h. back_to g.instance w (λ e. apart (e ∙ its)) (enters_traces g.instance w h)))
        | inr (uses, other) ↦ inr (outdates k g trace had on uses other (ap (λ (x : Trace). x.uses) is))
      ]
    where
      back_to : (i : Instance ℕ) (w : Trace) → (inst ≡ i → ⊥)
          → (IsStill (remembered lists told zero_st) (remembered later tnew ts) i w
          ⊎ ((inst ≡ i) × IsTraceOf inst value reads (instances_in (memory_of told) links) o (remembered later tnew ts) w))
          → (remembered lists told zero_st).traced i ≡ Some w
      back_to i w apart (inl still) = still.traced
      back_to i w apart (inr its) = absurd (apart its.0)

  last_other : (j : Instance ℕ) → (inst ≡ j → ⊥) → (remembered later tnew ts).last j ≡ (remembered lists told zero_st).last j
  last_other j apart = last_at lists later told tnew zero_st ts j
      (λ k g had its. let (f, now, it) = comes.stays k g had
      (λ same. apart (sym (named g (ap (memory_of told) (sym same) ∙ had)) ∙ its)) in
      (f, now, ap (λ (z : Info). z.instance) it))
      (λ k f now its. let (g, had, it) = comes.was k f now
      (λ same. apart (sym its_instance ∙ ap (λ (z : Info). z.instance)
      (same_Some p.entry f (sym p.here ∙ ap (memory_of tnew) (sym same) ∙ now)) ∙ its)) in
      (g, had, ap (λ (z : Info). z.instance) it, ap (λ (z : Info). z.value) it))

  kept_now : IsSome (kept_held later tnew ts (puts + 1) inst)
  kept_now = ap is_some (ap (kept_held later tnew ts (puts + 1)) (sym its_instance)
      ∙ kept_slot later tnew ts (puts + 1) slot p.entry p.here comes.holds)

  enters_spares : SparesOthers inst (kept_held later tnew ts (puts + 1)) (remembered lists told zero_st) (remembered later tnew ts)
  enters_spares = record { spares = spares_it; last = λ u. by u (same_instance inst u) refl }
    where
      by : (u : Instance ℕ) (b : Bool) → same_instance inst u ≡ b
          → ((remembered later tnew ts).last u ≡ (remembered lists told zero_st).last u)
          ⊎ ((inst ≡ u) × IsSome (kept_held later tnew ts (puts + 1) inst))
      by u true is = inr (same_true inst u is, kept_now)
      by u false is = inl (last_other u (λ same. true≢false (sym (instances_equiv.refl inst)
          ∙ ap (same_instance inst) same ∙ is)))

  pub has_entered : HasEntered lists later told tnew zero_st ts puts inst value reads uses o
  has_entered = subst (λ us. HasEntered lists later told tnew zero_st ts puts inst value reads us o)
      (they_are lists told zero_st puts uses links present taken theirs)
      (record {
        indexed = enters_indexed;
        tied = enters_tied;
        valued = enters_valued;
        puts = enters_puts;
        traces = enters_traces;
        spares = enters_spares;
      })
