-- What an entry that comes, or comes in place of one that isn't kept, is kept as; and what was kept is kept.
use Rattle.at_cache.proofs.Common.{◌≡◌, inl, inr, ◌<◌, ◌+◌, ℕ, zero, suc, List, Bool, true, false, ◌||◌, Option, Some, None, nat_eq, if◌then◌else◌, Contains, refl, sym, ap, ◌∙◌, subst, arith, true≢false, list_any, lookup, cases_eq, none-some, same_Some, Instance, Location, same_instance, instances_equiv, Edge, Entry, Standing, Table, Info, Memory, memory_of, Kept, Puts, covered, same_location, AreListed, Reads, with_users, is_current, IsIndexed, covers, edge_to, is_listed, IsTied, alive, held, instances_in, is_alive, kept_held, standing_of, agree, any_of, any_same, some_of, has, is_in, same_true, same_location-is, same_location-itself}
use Rattle.at_cache.proofs.of_cut.Again.{held_as, held_on, is_among, tied_there}
use Rattle.at_cache.proofs.of_cut.Alive.{by_holding, tells_on}
use Rattle.at_cache.proofs.Ending.{far_enough, opened}
use Rattle.at_cache.proofs.of_cut.HeldSlots.{as_kept, covers_slots, entry_in, kept_none, kept_slot, off_slot, slot_of}
use Rattle.at_cache.proofs.Users.{listed_still}
use Rattle.at_cache.proofs.of_cut.Renewed.{held_indexed, held_links, held_since}
use Rattle.at_cache.proofs.Testing.{indexed_by}

-- the entry comes into the slot, where none is kept; the others are as they were, but for their users
pub record Comes (m new : Memory) (st ts : List Standing) (puts slot : ℕ) (e : Info) : Type 0 where
  pub here : new slot ≡ Some e
  pub stays : (k : ℕ) (g : Info) → m k ≡ Some g → (k ≡ slot → ⊥) → (f : Info) × (new k ≡ Some f)
      × (f ≡ with_users f.users g)
  pub was : (k : ℕ) (f : Info) → new k ≡ Some f → (k ≡ slot → ⊥) → (g : Info) × (m k ≡ Some g)
      × (f ≡ with_users f.users g)
  pub off : (g : Info) → m slot ≡ Some g → (standing_of st slot).holds ≡ false
  pub holds : (standing_of ts slot).holds ≡ true
  pub since : (standing_of ts slot).since ≡ puts
  pub hold : (k : ℕ) → (k ≡ slot → ⊥) → (standing_of ts k).holds ≡ (standing_of st k).holds
  pub sinces : (k : ℕ) → (k ≡ slot → ⊥) → (standing_of ts k).since ≡ (standing_of st k).since
  pub stamp : e.stamp ≡ puts
  pub links : (p : ℕ) → list_any (nat_eq p) e.links ≡ true → (f : Info) × (m p ≡ Some f)
      × ((standing_of st p).holds ≡ true)

module _ {lists : Location ℕ → List Edge} {m new : Memory} {st ts : List Standing} {puts slot : ℕ} {e : Info}
    (c : Comes m new st ts puts slot e)
    (tied : IsTied lists puts st m) (indexed : IsIndexed lists puts (held st m)) where
  apart : (k : ℕ) (g : Info) → m k ≡ Some g → (standing_of st k).holds ≡ true → k ≡ slot → ⊥
  apart k g had on same = true≢false (sym on ∙ ap (λ n. (standing_of st n).holds) same
      ∙ c.off g (ap m (sym same) ∙ had))

  -- what one that is kept used
  older : (k : ℕ) (g : Info) → m k ≡ Some g → (standing_of st k).holds ≡ true → (p : ℕ)
      → list_any (nat_eq p) g.links ≡ true
      → (f : Info) × (m p ≡ Some f) × ((standing_of st p).holds ≡ true)
      × ((standing_of st p).since < (standing_of st k).since)
  older k g had on p h =
      let (f, in_p, listed) = tied_there m k g p (tied.used k g had (by_holding (standing_of st k) on) p h) in
      let (holds, less) = held_links lists puts m st indexed k g had on p h in
      (f, in_p, holds, less)

  module _ (later : Location ℕ → List Edge) where
    pub comes_indexed : IsTied later (puts + 1) ts new → IsIndexed later (puts + 1) (held ts new)
    comes_indexed tied_new = held_indexed later (puts + 1) new ts tied_new ordered links
      where
        ordered : (k : ℕ) (f : Info) → new k ≡ Some f → (standing_of ts k).holds ≡ true
            → (standing_of ts k).since < puts + 1
        ordered k f in_k on = elim (cases_eq k slot) [
          | inl same ↦ let a = ap (λ n. (standing_of ts n).since) same ∙ c.since in omega (arith, a)
          | inr differs ↦
              let (g, had, is) = c.was k f in_k differs in
              let less = held_since lists puts m st indexed k g had (sym (c.hold k differs) ∙ on) in
              let a = c.sinces k differs in
              omega (arith, less, a)
        ]

        links : (k : ℕ) (f : Info) → new k ≡ Some f → (standing_of ts k).holds ≡ true → (p : ℕ)
            → list_any (nat_eq p) f.links ≡ true
            → ((standing_of ts p).holds ≡ true) × ((standing_of ts p).since < (standing_of ts k).since)
        links k f in_k on p h = elim (cases_eq k slot) [
          | inl same ↦
              let it : e ≡ f = same_Some e f (sym c.here ∙ ap new (sym same) ∙ in_k) in
              let (a, in_p, holds) = c.links p (ap (λ (n : Info). list_any (nat_eq p) n.links) it ∙ h) in
              let differs = apart p a in_p holds in
              let less = held_since lists puts m st indexed p a in_p holds in
              let b = c.sinces p differs in
              let d = ap (λ n. (standing_of ts n).since) same ∙ c.since in
              (c.hold p differs ∙ holds, omega (arith, less, b, d))
          | inr differs ↦
              let (g, had, is) = c.was k f in_k differs in
              let (a, in_p, holds, less) = older k g had (sym (c.hold k differs) ∙ on) p
              (ap (λ (n : Info). list_any (nat_eq p) n.links) (sym is) ∙ h) in
              let other = apart p a in_p holds in
              let b = c.sinces p other in
              let d = c.sinces k differs in
              (c.hold p other ∙ holds, omega (arith, less, b, d))
        ]

    module _ {reads : List (Location ℕ)} (r : Reads (is_current (alive st m)) (edge_to slot e) reads lists later)
        (listed : AreListed (edge_to slot e) reads later) where
      -- an entry that was there has the edges that it had
      pub listed_same : (k : ℕ) (g : Info) → m k ≡ Some g → is_alive (standing_of st k) ≡ true → (l : Location ℕ)
          → is_listed (edge_to k g) (later l) ≡ is_listed (edge_to k g) (lists l)
      listed_same k g had live = listed_still r k g (tells_on st m k g had live)
          (λ same. let known = tied.known k g had in let a : g.stamp ≡ e.stamp = same in let b = c.stamp in
          omega (arith, known, a, b))

      -- and the entry has those of its reads
      pub listed_it : (l : Location ℕ) → is_listed (edge_to slot e) (later l) ≡ list_any (same_location l) reads
      listed_it l = agree _ _ (λ h. there (is_in (later l) (edge_to slot e) h))
          (λ h. has (later l) (edge_to slot e) (from h))
        where
          there : Contains (later l) (edge_to slot e) → list_any (same_location l) reads ≡ true
          there d = elim (r.only l (edge_to slot e) d) [
            | inl old ↦
                let less = tied.past_readers l (edge_to slot e) (has (lists l) (edge_to slot e) old) in
                let b = c.stamp in
                absurd (omega (arith, less, b))
            | inr (one, at_l) ↦ any_of (same_location l) reads l at_l (same_location-itself l)
          ]

          from : list_any (same_location l) reads ≡ true → Contains (later l) (edge_to slot e)
          from h = let (q, d, is) = some_of (same_location l) reads h in listed l
              (subst (Contains reads) (sym (same_location-is l q is)) d)

      covers_kept : (far k : ℕ) (g : Info) → m k ≡ Some g → (standing_of st k).holds ≡ true → (l : Location ℕ)
          → covers later (held ts new) far k l ≡ covers lists (held st m) far k l
      covers_kept zero k g had on l = refl
      covers_kept (suc far) k g had on l =
          let differs = apart k g had on in
          let (f, in_k, is) = c.stays k g had differs in
          opened later (held ts new) far k (held_as ts k f) (held_on ts new k f in_k (c.hold k differs ∙ on)) l
          ∙ ap (λ (n : Info). is_listed (edge_to k n) (later l) || list_any (λ p. covers later (held ts new) far p l)
          n.links) is
          ∙ ap (λ b. b || list_any (λ p. covers later (held ts new) far p l) g.links)
          (listed_same k g had (by_holding (standing_of st k) on) l)
          ∙ ap (λ b. is_listed (edge_to k g) (lists l) || b)
          (any_same (λ p. covers later (held ts new) far p l) (λ p. covers lists (held st m) far p l) g.links
          (λ p d. let (a, in_p, holds, less) = older k g had on p (is_among g.links p d) in
          covers_kept far p a in_p holds l))
          ∙ sym (opened lists (held st m) far k (held_as st k g) (held_on st m k g had on) l)

      next : puts + 1 ≡ suc puts
      next = omega arith

      pub covers_before : (k : ℕ) (g : Info) → m k ≡ Some g → (standing_of st k).holds ≡ true → (l : Location ℕ)
          → covers later (held ts new) (puts + 1) k l ≡ covers lists (held st m) puts k l
      covers_before k g had on l =
          ap (λ n. covers later (held ts new) n k l) next
          ∙ covers_kept (suc puts) k g had on l
          ∙ far_enough (indexed_by indexed) puts k (held_as st k g) (held_on st m k g had on)
          (held_since lists puts m st indexed k g had on) l

      pub covers_here : (l : Location ℕ) → covers later (held ts new) (puts + 1) slot l
          ≡ (list_any (same_location l) reads || list_any (λ p. covers lists (held st m) puts p l) e.links)
      covers_here l =
          ap (λ n. covers later (held ts new) n slot l) next
          ∙ opened later (held ts new) puts slot (held_as ts slot e) (held_on ts new slot e c.here c.holds) l
          ∙ ap (λ b. b || list_any (λ p. covers later (held ts new) puts p l) e.links) (listed_it l)
          ∙ ap (λ b. list_any (same_location l) reads || b)
          (any_same (λ p. covers later (held ts new) puts p l) (λ p. covers lists (held st m) puts p l) e.links
          (λ p d. let (a, in_p, holds) = c.links p (is_among e.links p d) in covers_kept puts p a in_p holds l))

-- the same of instances
module _ {lists : Location ℕ → List Edge} (later : Location ℕ → List Edge) (told tnew : Table) {st ts : List Standing}
    {puts slot : ℕ} {e : Info}
    (c : Comes (memory_of told) (memory_of tnew) st ts puts slot e) (tied : IsTied lists puts st (memory_of told))
    (indexed : IsIndexed lists puts (held st (memory_of told)))
    {reads : List (Location ℕ)} (r : Reads (is_current (alive st (memory_of told))) (edge_to slot e) reads lists later)
    (listed : AreListed (edge_to slot e) reads later)
    (one : (g : Info) → memory_of told slot ≡ Some g → g.instance ≡ e.instance) where
  abbrev entry : Kept
  entry = as_kept later tnew ts (puts + 1) e.value slot

  -- what another instance is kept as
  others_kept : (j : Instance ℕ) → same_instance e.instance j ≡ false
      → kept_held later tnew ts (puts + 1) j ≡ kept_held lists told st puts j
  others_kept j apart = by (lookup (same_instance j) told.entries.entries) refl
    where
      differs : (k : ℕ) (f : Info) → memory_of tnew k ≡ Some f → f.instance ≡ j → k ≡ slot → ⊥
      differs k f in_k its same =
          let it : e ≡ f = same_Some e f (sym c.here ∙ ap (memory_of tnew) (sym same) ∙ in_k) in
          true≢false (sym (instances_equiv.refl e.instance) ∙ ap (same_instance e.instance)
          (ap (λ (n : Info). n.instance) it ∙ its) ∙ apart)

      not_there : (k : ℕ) (g : Info) → memory_of told k ≡ Some g → g.instance ≡ j → k ≡ slot → ⊥
      not_there k g had its same =
          true≢false (sym (instances_equiv.refl e.instance) ∙ ap (same_instance e.instance)
          (sym (one g (ap (memory_of told) (sym same) ∙ had)) ∙ its) ∙ apart)

      same_at : (k : ℕ) (g : Info) → memory_of told k ≡ Some g → g.instance ≡ j → (b : Bool)
          → (standing_of st k).holds ≡ b
          → kept_held later tnew ts (puts + 1) j ≡ kept_held lists told st puts j
      same_at k g had its true on =
          let other = not_there k g had its in
          let (f, in_k, is) = c.stays k g had other in
          ap (kept_held later tnew ts (puts + 1)) (sym its ∙ ap (λ (n : Info). n.instance) (sym is))
          ∙ kept_slot later tnew ts (puts + 1) k f in_k (c.hold k other ∙ on)
          ∙ (λ n. let kept : Kept = record {
            value = ap (λ (n : Info). n.value) is n;
            covers = λ l. covers_before c tied indexed later r listed k g had on l n;
          } in Some kept)
          ∙ sym (kept_slot lists told st puts k g had on)
          ∙ ap (kept_held lists told st puts) its
      same_at k g had its false is_off =
          let other = not_there k g had its in
          let (f, in_k, is) = c.stays k g had other in
          ap (kept_held later tnew ts (puts + 1)) (sym its ∙ ap (λ (n : Info). n.instance) (sym is))
          ∙ off_slot later tnew ts (puts + 1) k f in_k (c.hold k other ∙ is_off)
          ∙ sym (off_slot lists told st puts k g had is_off)
          ∙ ap (kept_held lists told st puts) its

      none_at : lookup (same_instance j) told.entries.entries ≡ None → (o : Option Entry)
          → lookup (same_instance j) tnew.entries.entries ≡ o
          → kept_held later tnew ts (puts + 1) j ≡ kept_held lists told st puts j
      none_at none None is = kept_none later tnew ts (puts + 1) j is ∙ sym (kept_none lists told st puts j none)
      none_at none (Some x) found =
          let (f, in_k, its) = slot_of tnew j x found in
          let (g, had, is) = c.was x.slot f in_k (differs x.slot f in_k its) in
          let (y, there, at_k, valued) = entry_in told x.slot g had in
          absurd (none-some y (sym none ∙ ap (λ i. lookup (same_instance i) told.entries.entries)
          (sym its ∙ ap (λ (n : Info). n.instance) is) ∙ there))

      by : (o : Option Entry) → lookup (same_instance j) told.entries.entries ≡ o
          → kept_held later tnew ts (puts + 1) j ≡ kept_held lists told st puts j
      by None none = none_at none (lookup (same_instance j) tnew.entries.entries) refl
      by (Some x) found = let (g, had, its) = slot_of told j x found in same_at x.slot g had its
          (standing_of st x.slot).holds refl

  covers_put : (l : Location ℕ) → entry.covers l ≡ covered (kept_held lists told st puts) reads
      (instances_in (memory_of told) e.links) l
  covers_put l =
      covers_here c tied indexed later r listed l
      ∙ ap (λ b. list_any (same_location l) reads || b) (sym (covers_slots lists told st puts e.links c.links l))

  pub puts_comes : Puts (kept_held lists told st puts) e.instance e.value reads
      (instances_in (memory_of told) e.links) (kept_held later tnew ts (puts + 1))
  puts_comes = record {
    entry = entry;
    value = refl;
    covers = λ l h. covers_put l ∙ h;
    only = λ l h. sym (covers_put l) ∙ h;
    adds = λ j. by j (same_instance e.instance j) refl;
  }
    where
      by : (j : Instance ℕ) (b : Bool) → same_instance e.instance j ≡ b
          → kept_held later tnew ts (puts + 1) j ≡ (if b then Some entry else kept_held lists told st puts j)
      by j true is = ap (kept_held later tnew ts (puts + 1)) (sym (same_true e.instance j is))
          ∙ kept_slot later tnew ts (puts + 1) slot e c.here c.holds
      by j false is = others_kept j is
