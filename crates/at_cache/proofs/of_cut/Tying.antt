-- Edges of an entry that doesn't come, seen from all that is in memory.
use Rattle.at_cache.proofs.Common.{◌≡◌, inl, inr, ℕ, ◌+◌, List, Bool, true, false, Option, None, Some, Contains, nat_eq, refl, sym, ap, ◌∙◌, subst, arith, list_any, Location, Edge, Standing, Info, Memory, Reads, Uses, users_at, is_current, edge_to, is_listed, IsTied, alive, is_tied, has, is_in}
use Rattle.at_cache.proofs.of_cut.Alive.{tells_on}
use Rattle.at_cache.proofs.Users.{back, users_of}

-- an edge to one that used what is in the slot
tied_fact : (m : Memory) (s : ℕ) (e : Info) (p : ℕ) → is_tied m s e p ≡ true → (f : Info) × (m p ≡ Some f) × Contains f.users (edge_to s e)
tied_fact m s e p h = by (m p) refl h
  where
    by : (o : Option Info) → m p ≡ o → (elim o as (λ _. Bool) [ None ↦ false | Some f ↦ is_listed (edge_to s e) f.users ]) ≡ true → (f : Info) × (m p ≡ Some f) × Contains f.users (edge_to s e)
    by None is k = absurd (cc)
    by (Some f) is k = (f, is, is_in f.users (edge_to s e) k)

tied_test : (m : Memory) (s : ℕ) (e : Info) (p : ℕ) (f : Info) → m p ≡ Some f → Contains f.users (edge_to s e) → is_tied m s e p ≡ true
tied_test m s e p f there c = ap (λ (o : Option Info). elim o as (λ _. Bool) [ None ↦ false | Some f ↦ is_listed (edge_to s e) f.users ]) there ∙ has f.users (edge_to s e) c

module _ {lists later : Location ℕ → List Edge} {puts : ℕ} {st : List Standing} {m mid : Memory} {x : Edge} {reads : List (Location ℕ)}
    {links : List ℕ} (t : IsTied lists puts st m) (stamp : x.stamp ≡ puts) (r : Reads (is_current (alive st m)) x reads lists later)
    (u : Uses (alive st m) x links m mid) where
  -- all is found as before
  pub tied_still : IsTied later (puts + 1) st mid
  tied_still = record {
    idle = λ k f found. let (e, there, is) = back u k f found in ap (λ (n : Info). n.going) is ∙ t.idle k e there;
    known = λ k f found. let (e, there, is) = back u k f found in let known = t.known k e there in let a = ap (λ (n : Info). n.stamp) is in omega arith;
    used = λ k f found on p h.
        let (e, there, is) = back u k f found in
        let (g, was, edge) = tied_fact m k e p (t.used k e there on p (ap (λ (n : Info). list_any (nat_eq p) n.links) (sym is) ∙ h)) in
        let (g2, had, alike) = u.there p g was in
        let now : Contains (users_at mid p) (edge_to k e) = u.users.keeps p (edge_to k e) (subst (λ es. Contains es (edge_to k e)) (sym (users_of m p g was)) edge) (tells_on st m k e there on) in
        tied_test mid k f p g2 had (subst (λ n. Contains g2.users (record { slot = k; stamp = n })) (sym (ap (λ (n : Info). n.stamp) is)) (subst (λ es. Contains es (edge_to k e)) (users_of mid p g2 had) now));
    uses = λ p g had y h f found same.
        let (e, there, is) = back u y.slot f found in
        let (g0, was, alike) = back u p g had in
        elim (u.users.only p y (subst (λ es. Contains es y) (sym (users_of mid p g had)) (is_in g.users y h))) [
          | inl d ↦ ap (λ (n : Info). list_any (nat_eq p) n.links) is ∙ t.uses p g0 was y (has g0.users y (subst (λ es. Contains es y) (users_of m p g0 was) d)) e there (sym (ap (λ (n : Info). n.stamp) is) ∙ same)
          | inr (new, d) ↦ let known = t.known y.slot e there in let a = ap (λ (n : Info). n.stamp) is in let b = ap (λ (z : Edge). z.stamp) new in absurd (omega arith)
        ];
    past_readers = λ l y h. elim (r.only l y (is_in (later l) y h)) [ inl d ↦ let past = t.past_readers l y (has (lists l) y d) in omega arith | inr (new, d) ↦ let a = ap (λ (z : Edge). z.stamp) new in omega arith ];
    past_users = λ p g had y h. let (g0, was, alike) = back u p g had in elim (u.users.only p y (subst (λ es. Contains es y) (sym (users_of mid p g had)) (is_in g.users y h))) [
      | inl d ↦ let past = t.past_users p g0 was y (has g0.users y (subst (λ es. Contains es y) (users_of m p g0 was) d)) in omega arith
      | inr (new, d) ↦ let a = ap (λ (z : Edge). z.stamp) new in omega arith
    ];
  }
