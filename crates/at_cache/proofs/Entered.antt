-- Edges of an entry that isn't there yet: all is found as before, and what was kept is kept.
use Rattle.at_cache.proofs.Common.{◌≡◌, inl, inr, ℕ, zero, suc, ◌+◌, List, ◌||◌, Option, None, Some, option_map, Contains, refl, sym, ap, ◌∙◌, subst, arith, list_any, Location, Edge, Info, Memory, covers, edge_to, is_listed, Reads, Uses, users_at, is_current, any_same}
use Rattle.at_cache.proofs.Index.{Index, kept_at, standing}
use Rattle.at_cache.proofs.Ending.{far_enough, opened}
use Rattle.at_cache.proofs.Users.{back, listed_still, users_of, current}

-- what is kept in a slot, by its entry
pub kept_of : (lists : Location ℕ → List Edge) (m : Memory) (puts s : ℕ) (e : Info) → m s ≡ Some e → kept_at lists m puts s ≡ Some (standing lists m puts s e)
kept_of lists m puts s e there = ap (option_map (standing lists m puts s)) there

pub none_kept : (lists : Location ℕ → List Edge) (m : Memory) (puts s : ℕ) → m s ≡ None → kept_at lists m puts s ≡ None
none_kept lists m puts s none = ap (option_map (standing lists m puts s)) none

same_kept : (lists later : Location ℕ → List Edge) (m n : Memory) (far near s : ℕ) (e f : Info) → m s ≡ Some e → n s ≡ Some f → f.instance ≡ e.instance → f.value ≡ e.value
    → ((l : Location ℕ) → covers later n far s l ≡ covers lists m near s l) → kept_at later n far s ≡ kept_at lists m near s
same_kept lists later m n far near s e f there found same value h =
    kept_of later n far s f found ∙ ap Some (λ i. record { instance = same i; kept = record { value = value i; covers = λ l. h l i } }) ∙ sym (kept_of lists m near s e there)

-- edges of an entry that isn't there yet
module _ {lists : Location ℕ → List Edge} {puts : ℕ} {m mid : Memory} {x : Edge} {reads : List (Location ℕ)} {uses : List ℕ} (later : Location ℕ → List Edge) (i : Index lists puts m) (stamp : x.stamp ≡ puts) (r : Reads (is_current m) x reads lists later) (u : Uses m x uses m mid) where
  not_new : (k : ℕ) (f : Info) → mid k ≡ Some f → f.stamp ≡ x.stamp → ⊥
  not_new k f found same = let (e, there, is) = back u k f found in let known = i.known k e there in let a = ap (λ (n : Info). n.stamp) is in omega arith

  pub stale_indexed : Index later (puts + 1) mid
  stale_indexed = record {
    idle = λ k f found. let (e, there, is) = back u k f found in ap (λ (n : Info). n.going) is ∙ i.idle k e there;
    known = λ k f found. let (e, there, is) = back u k f found in let known = i.known k e there in let a = ap (λ (n : Info). n.stamp) is in omega arith;
    ordered = λ k f found. let (e, there, is) = back u k f found in let ordered = i.ordered k e there in let a = ap (λ (n : Info). n.since) is in omega arith;
    used = λ k f found p c.
        let (e, there, is) = back u k f found in
        let (g, was, before, edge) = i.used k e there p (subst (λ ls. Contains ls p) (ap (λ (n : Info). n.links) is) c) in
        let (h, had, alike) = u.there p g was in
        let a = ap (λ (n : Info). n.since) is in
        let b = ap (λ (n : Info). n.since) alike in
        let listed : Contains (users_at mid p) (edge_to k e) = u.users.keeps p (edge_to k e) (subst (λ es. Contains es (edge_to k e)) (sym (users_of m p g was)) edge) (current m (edge_to k e) e there refl) in (
          h,
          had,
          omega arith,
          subst (λ n. Contains h.users (record { slot = k; stamp = n })) (sym (ap (λ (n : Info). n.stamp) is)) (subst (λ es. Contains es (edge_to k e)) (users_of mid p h had) listed),
        );
    uses = λ p g had y c f found same.
        let (e, there, is) = back u y.slot f found in
        let (h, was, alike) = back u p g had in
        elim (u.users.only p y (subst (λ es. Contains es y) (sym (users_of mid p g had)) c)) [
          | inl d ↦ subst (λ ls. Contains ls p) (sym (ap (λ (n : Info). n.links) is)) (i.uses p h was y (subst (λ es. Contains es y) (users_of m p h was) d) e there (sym (ap (λ (n : Info). n.stamp) is) ∙ same))
          | inr (new, d) ↦ absurd (not_new y.slot f found (same ∙ ap (λ (z : Edge). z.stamp) new))
        ];
    past_readers = λ l y c. elim (r.only l y c) [ inl d ↦ let past = i.past_readers l y d in omega arith | inr (new, d) ↦ let a = ap (λ (z : Edge). z.stamp) new in omega arith ];
    past_users = λ p g had y c. let (h, was, alike) = back u p g had in elim (u.users.only p y (subst (λ es. Contains es y) (sym (users_of mid p g had)) c)) [
      | inl d ↦ let past = i.past_users p h was y (subst (λ es. Contains es y) (users_of m p h was) d) in omega arith
      | inr (new, d) ↦ let a = ap (λ (z : Edge). z.stamp) new in omega arith
    ];
  }

  -- an entry that is there has the edges that it had
  listed_same : (s : ℕ) (e : Info) → m s ≡ Some e → (l : Location ℕ) → is_listed (edge_to s e) (later l) ≡ is_listed (edge_to s e) (lists l)
  listed_same s e there = listed_still r s e (current m (edge_to s e) e there refl)
      (λ same. let known = i.known s e there in omega (arith, known, same, stamp))

  covers_mid : (far s : ℕ) (e : Info) → m s ≡ Some e → (l : Location ℕ) → covers later mid far s l ≡ covers lists m far s l
  covers_mid zero s e there l = refl
  covers_mid (suc far) s e there l =
      let (f, found, is) = u.there s e there in
      opened later mid far s f found l
      ∙ ap (λ (n : Info). is_listed (edge_to s n) (later l) || list_any (λ p. covers later mid far p l) n.links) is
      ∙ ap (λ b. b || list_any (λ p. covers later mid far p l) e.links) (listed_same s e there l)
      ∙ ap (λ b. is_listed (edge_to s e) (lists l) || b) (any_same (λ p. covers later mid far p l) (λ p. covers lists m far p l) e.links (λ p c. let (g, was, before, edge) = i.used s e there p c in covers_mid far p g was l))
      ∙ sym (opened lists m far s e there l)

  pub kept_mid : (s : ℕ) → kept_at later mid (puts + 1) s ≡ kept_at lists m puts s
  kept_mid s = by (m s) refl
    where
      next : puts + 1 ≡ suc puts
      next = omega arith

      by : (o : Option Info) → m s ≡ o → kept_at later mid (puts + 1) s ≡ kept_at lists m puts s
      by None none = none_kept later mid (puts + 1) s (u.free s none) ∙ sym (none_kept lists m puts s none)
      by (Some e) there = let (f, found, is) = u.there s e there in
          same_kept lists later m mid (puts + 1) puts s e f there found (ap (λ (n : Info). n.instance) is) (ap (λ (n : Info). n.value) is) (λ l. covers_mid (puts + 1) s e there l ∙ ap (λ n. covers lists m n s l) next ∙ far_enough i puts s e there (i.ordered s e there) l)
