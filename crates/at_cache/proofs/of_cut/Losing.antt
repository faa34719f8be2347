-- What used an entry that is put with another value has no trace any more.
use Rattle.at_cache.proofs.Common.{◌≡◌, inl, inr, ℕ, List, [], true, false, true≢false, Option, None, Some, IsSome, is_some, option_map, nat_eq, Contains, if◌then◌else◌, refl, sym, ap, ◌∙◌, subst, lookup, eq-eqb, ne_eqb, none-some, same_Some, Instance, Value, Cut, Edge, same_instance, Entry, Table, Standing, IsIdle, Reached, Work, by_start, by_user, Info, Memory, memory_of, Aside, GoesOver, held_in, Enters, fresh_entry, users_at, Compares, IsAnother, IsSlotFor, PutsIn, renewed, none_in}
use Rattle.at_cache.specs.declared.cut.Loss.TheVariants as loss
use Rattle.at_cache.proofs.of_cut.Passing.{entries_after, entries_aside, held_idle, quiet_aside}
use Rattle.at_cache.proofs.Shown.{slot_there}
use Rattle.at_cache.proofs.Taking.{begun}

-- nothing is reached from no edge
none_reached : {old : Memory} {k : ℕ} → Reached old [] k → ⊥
none_reached (by_start x c e there same) = none_in x c
none_reached (by_user p r f found x c e there same) = none_reached r

-- where the values are the same nothing is taken away
pub compared_same : (slot : ℕ) (value : Option (Value ℕ)) (ss : List Standing) (m : Memory) → (e : Info) × (m slot ≡ Some e) × (e.value ≡ value) → Compares slot value ss m ss m
compared_same slot value ss m (e, there, is) = record {
  entries = λ k. refl;
  stand = λ k. refl;
  fewer = λ k e there on. on;
  room = refl;
  changed = λ f found. inl (ap (λ (x : Info). x.value) (same_Some f e (sym found ∙ there)) ∙ is);
  spared = λ k f found differs on. inl on;
}

-- where they aren't, those that used the entry have lost their traces
pub compared_other : (slot : ℕ) (value : Option (Value ℕ)) (a b : Cut) (later : Option ℕ) → IsIdle (memory_of a.entries) → GoesOver loss.Trace (users_at (memory_of a.entries) slot) None a later b
    → IsAnother (memory_of a.entries) slot value → Compares slot value a.standings.items (memory_of a.entries) b.standings.items (memory_of b.entries)
compared_other slot value a b later idle over other = record {
  entries = entries_after a b (entries_aside a b over.aside) (quiet_aside a b over.aside) idle
      (λ k e there going. none_reached (w.reason k e there going));
  stand = λ k. ap (λ (x : Aside). x.standings k) over.aside;
  fewer = λ k e there on. over.traces.fewer k on;
  room = ap (λ (x : Aside). x.room) over.aside;
  changed = λ e at_slot. inr (λ x c f there stamp. over.traces.lost x
      (subst (λ (es : List Edge). Contains es x) (sym (ap (λ (o : Option Info). elim o as (λ _. List Edge) [ None ↦ [] | Some e ↦ e.users ]) at_slot)) c)
      (ap (option_map (λ (z : Info). z.stamp)) there ∙ ap Some stamp));
  spared = λ k e there differs on. elim (over.traces.spared k on) [
    | inl still ↦ inl still
    | inr (x, c, at, tells) ↦ inr (
      record {
        edge = x;
        among = c;
        there = at;
        stamp = same_Some e.stamp x.stamp (sym (ap (option_map (λ (z : Info). z.stamp)) (ap (memory_of a.entries) at ∙ there)) ∙ tells);
      },
      other,
    )
  ];
}
  where
    w : Work (held_in a) [] [] later (held_in b)
    w = over.works (held_in a) [] [] (begun (held_in a) (held_idle a idle))

-- the entry is put anew
pub renewed_in : (slot : ℕ) (i : Instance ℕ) (value : Option (Value ℕ)) (links : List ℕ) (stamp : ℕ) (ss us : List Standing) (m mid n : Memory) → IsSome (m slot) → IsIdle m → Compares slot value ss m us mid
    → ((k : ℕ) → n k ≡ (if nat_eq k slot then option_map (renewed value links stamp) (mid k) else mid k)) → PutsIn slot i value links stamp ss m us n
renewed_in slot i value links stamp ss us m mid n some idle compared written = by (m slot) refl some
  where
    at_slot : n slot ≡ option_map (renewed value links stamp) (m slot)
    at_slot = written slot ∙ ap (λ b. if b then option_map (renewed value links stamp) (mid slot) else mid slot) (eq-eqb slot slot refl) ∙ ap (option_map (renewed value links stamp)) (compared.entries slot)

    by : (o : Option Info) → m slot ≡ o → IsSome o → PutsIn slot i value links stamp ss m us n
    by None none h = absurd (cc)
    by (Some e) there h = record {
      entry = renewed value links stamp e;
      here = at_slot ∙ ap (option_map (renewed value links stamp)) there;
      put = (refl, refl, refl, sym (ap (λ (o : Option Info). elim o as (λ _. List Edge) [ None ↦ [] | Some e ↦ e.users ]) there), idle slot e there);
      fresh = λ none. absurd (none-some e (sym none ∙ there));
      anew = λ f found. ap (λ (x : Info). x.instance) (same_Some e f (sym there ∙ found));
      others = λ k differs. written k ∙ ap (λ b. if b then option_map (renewed value links stamp) (mid k) else mid k) (ne_eqb k slot differs) ∙ compared.entries k;
      stand = compared.stand;
      fewer = compared.fewer;
      room = compared.room;
      changed = compared.changed;
      spared = compared.spared;
    }

-- the entry comes into a slot that was free
pub entered_in : (slot : ℕ) (i : Instance ℕ) (value : Option (Value ℕ)) (links : List ℕ) (stamp : ℕ) (ss : List Standing) (m n : Memory) (e : Info) → e ≡ fresh_entry i value links stamp → Enters m slot e n → PutsIn slot i value links stamp ss m ss n
entered_in slot i value links stamp ss m n e is enters = record {
  entry = fresh_entry i value links stamp;
  here = enters.here ∙ ap Some is;
  put = (refl, refl, refl, sym (ap (λ (o : Option Info). elim o as (λ _. List Edge) [ None ↦ [] | Some e ↦ e.users ]) enters.free), refl);
  fresh = λ none. refl;
  anew = λ f found. absurd (none-some f (sym enters.free ∙ found));
  others = enters.others;
  stand = λ k. refl;
  fewer = λ k f found on. on;
  room = refl;
  changed = λ f found. absurd (none-some f (sym enters.free ∙ found));
  spared = λ k f found differs on. inl on;
}

-- the slot of an instance that has no entry, and of one that has one
module _ (t : Table) (i : Instance ℕ) (slot : ℕ) (for : IsSlotFor t i slot) where
  next_slot : (o : Option Entry) → (elim o as (λ _. Type 0) [ None ↦ slot ≡ t.places.vacant_key | Some e ↦ slot ≡ e.slot ]) → o ≡ None → slot ≡ t.places.vacant_key
  next_slot None h none = h
  next_slot (Some e) h none = absurd (none-some e (sym none))

  pub slot_next : lookup (same_instance i) t.entries.entries ≡ None → slot ≡ t.places.vacant_key
  slot_next none = next_slot (lookup (same_instance i) t.entries.entries) for none

  there_slot : (o : Option Entry) → (elim o as (λ _. Type 0) [ None ↦ slot ≡ t.places.vacant_key | Some e ↦ slot ≡ e.slot ]) → lookup (same_instance i) t.entries.entries ≡ o → IsSome o → IsSome (memory_of t slot)
  there_slot None h found some = absurd (cc)
  there_slot (Some e) h found some = subst (λ s. IsSome (memory_of t s)) (sym h) (slot_there t i e found)

  pub slot_stands : IsSome (lookup (same_instance i) t.entries.entries) → IsSome (memory_of t slot)
  slot_stands some = there_slot (lookup (same_instance i) t.entries.entries) for refl some

  -- where its slot is free it has none
  pub slot_free : is_some (memory_of t slot) ≡ false → lookup (same_instance i) t.entries.entries ≡ None
  slot_free off = by (lookup (same_instance i) t.entries.entries) refl
    where
      by : (o : Option Entry) → lookup (same_instance i) t.entries.entries ≡ o → lookup (same_instance i) t.entries.entries ≡ None
      by None is = is
      by (Some e) is = absurd (true≢false (sym (slot_stands (ap is_some is)) ∙ off))
