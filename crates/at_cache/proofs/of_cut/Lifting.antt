-- Edges of an entry that is to come, seen from what is kept.
use Rattle.at_cache.proofs.Common.{◌≡◌, inl, inr, ℕ, ◌+◌, List, [], true, Option, None, Some, IsSome, Contains, refl, sym, ap, ◌∙◌, subst, option_and_then, none-some, Location, Edge, Standing, Table, Info, Memory, memory_of, KeepsAll, Reads, Uses, users_at, with_users, is_current, IsIndexed, alive, held, kept_held, shown, standing_of, none_in}
use Rattle.at_cache.proofs.Users.{current, told_of}
use Rattle.at_cache.proofs.Entered.{kept_mid, stale_indexed}
use Rattle.at_cache.proofs.of_cut.Again.{held_as, held_from, held_off, held_on}
use Rattle.at_cache.proofs.of_cut.Alive.{alive_on, by_holding}
use Rattle.at_cache.proofs.of_cut.Flushed.{shown_held}
use Rattle.at_cache.proofs.of_cut.Passing.{not_shown}
use Rattle.at_cache.proofs.Showing.{same_of}
use Rattle.at_cache.proofs.Testing.{indexed_by, tested}

module _ (ss : List Standing) where
  -- the users of what is kept are its users
  held_users : (m : Memory) (k : ℕ) (e : Info) → held ss m k ≡ Some e → users_at (held ss m) k ≡ users_at m k
  held_users m k e h =
      let (f, found, on, is) = held_from ss m k e h in
      ap (λ (o : Option Info). elim o as (λ _. List Edge) [ None ↦ [] | Some e ↦ e.users ]) h
      ∙ ap (λ (x : Info). x.users) (sym is)
      ∙ sym (ap (λ (o : Option Info). elim o as (λ _. List Edge) [ None ↦ [] | Some e ↦ e.users ]) found)

  -- what has users is kept
  has_users : (m : Memory) (k : ℕ) (y : Edge) → Contains (users_at (held ss m) k) y → (e : Info) × (held ss m k ≡ Some e)
  has_users m k y c = by (held ss m k) refl
    where
      by : (o : Option Info) → held ss m k ≡ o → (e : Info) × (held ss m k ≡ Some e)
      by None none = absurd (none_in y (subst (λ (es : List Edge). Contains es y) (ap (λ (o : Option Info). elim o as (λ _. List Edge) [ None ↦ [] | Some e ↦ e.users ]) none) c))
      by (Some e) there = (e, there)

  tells_held : (m : Memory) (y : Edge) → is_current (held ss m) y ≡ true → is_current (alive ss m) y ≡ true
  tells_held m y live =
      let (e, there, same) = told_of (held ss m) y live in
      let (f, found, on, is) = held_from ss m y.slot e there in
      current (alive ss m) y f (alive_on ss m y.slot f found (by_holding (standing_of ss y.slot) on)) (ap (λ (z : Info). z.stamp) is ∙ same)

  module _ (m : Memory) {x : Edge} where
    pub reads_held : {reads : List (Location ℕ)} {lists later : Location ℕ → List Edge} → Reads (is_current (alive ss m)) x reads lists later → Reads (is_current (held ss m)) x reads lists later
    reads_held r = record { keeps = λ l y c live. r.keeps l y c (tells_held m y live); only = r.only }

  module _ {m n : Memory} {x : Edge} where
    pub uses_held : {slots : List ℕ} → Uses (alive ss m) x slots m n → Uses (held ss m) x slots (held ss m) (held ss n)
    uses_held {slots} u = record {
      there = λ k e h. let (f, found, on, is) = held_from ss m k e h in come k e f found on is;
      free = λ k none. free k none (m k) refl;
      users = record {
        keeps = λ l y c live.
            let (p, p_there) = has_users m l y c in
            let (g, g_found, g_on, g_is) = held_from ss m l p p_there in
            let (q, q_there, alike) = come l p g g_found g_on g_is in
            subst (λ (es : List Edge). Contains es y) (sym (held_users n l q q_there)) (u.users.keeps l y
            (subst (λ (es : List Edge). Contains es y) (held_users m l p p_there) c) (tells_held m y live));
        only = λ l y c.
            let (q, q_there) = has_users n l y c in
            elim (u.users.only l y (subst (λ (es : List Edge). Contains es y) (held_users n l q q_there) c)) [
              | inl d ↦ inl (was l y q q_there d (held ss m l) refl)
              | inr new ↦ inr new
            ];
      };
    }
      where
        come : (k : ℕ) (e f : Info) → m k ≡ Some f → (standing_of ss k).holds ≡ true → held_as ss k f ≡ e
            → (g : Info) × (held ss n k ≡ Some g) × (g ≡ with_users g.users e)
        come k e f found on is =
            let (g, now, alike) = u.there k f found in (
              held_as ss k g,
              held_on ss n k g now on,
              ap (held_as ss k) alike ∙ ap (with_users g.users) is,
            )

        free : (k : ℕ) → held ss m k ≡ None → (o : Option Info) → m k ≡ o → held ss n k ≡ None
        free k none None absent = ap (option_and_then (shown (standing_of ss k))) (u.free k absent)
        free k none (Some f) there = held_off ss n k (not_shown (standing_of ss k) (m k) (subst IsSome (sym there) refl) none)

        was : (l : ℕ) (y : Edge) (q : Info) → held ss n l ≡ Some q → Contains (users_at m l) y → (o : Option Info) → held ss m l ≡ o → Contains (users_at (held ss m) l) y
        was l y q q_there d (Some e) h = subst (λ (es : List Edge). Contains es y) (sym (held_users m l e h)) d
        was l y q q_there d None none = absurd (none-some q (sym (free l none (m l) refl) ∙ q_there))

-- Where the entry doesn't come all is kept as it was.
module _ (ss : List Standing) (old mid : Table) (lists later : Location ℕ → List Edge) (puts : ℕ) (x : Edge) (reads : List (Location ℕ)) (links : List ℕ)
    (i : IsIndexed lists puts (held ss (memory_of old))) (stamp : x.stamp ≡ puts) (r : Reads (is_current (alive ss (memory_of old))) x reads lists later)
    (u : Uses (alive ss (memory_of old)) x links (memory_of old) (memory_of mid)) where
  pub stale_held : IsIndexed later (puts + 1) (held ss (memory_of mid))
  stale_held = tested (stale_indexed later (indexed_by i) stamp (reads_held ss (memory_of old) r) (uses_held ss u))

  pub kept_still : KeepsAll (kept_held lists old ss puts) (kept_held later mid ss (puts + 1))
  kept_still = same_of (shown_held lists old ss puts) (shown_held later mid ss (puts + 1)) (λ s. kept_mid later (indexed_by i) stamp (reads_held ss (memory_of old) r) (uses_held ss u) s)
