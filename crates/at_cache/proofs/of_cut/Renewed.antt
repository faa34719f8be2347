-- An entry comes, or comes in place of one: all is found as before, and so is it.
use Rattle.at_cache.proofs.Common.{◌≡◌, inl, inr, [], ◌<◌, ◌+◌, ℕ, List, Bool, true, false, Option, Some, None, nat_eq, Contains, refl, sym, ap, ◌∙◌, subst, arith, eqb-true, list_any, cases_eq, same_Some, Location, Edge, Standing, Info, Memory, AreListed, Reads, Uses, users_at, with_users, is_current, IsIndexed, edge_to, is_used, is_listed, IsTied, alive, held, is_alive, is_tied, standing_of, has, is_in, some_of, none_in}
use Rattle.at_cache.proofs.of_cut.Again.{held_as, held_from, held_on, is_among, there_used, tied_there, used_there}
use Rattle.at_cache.proofs.of_cut.Alive.{by_holding, tells_on}
use Rattle.at_cache.proofs.Users.{back, users_of}

-- what the test finds is among them
pub among_is : (ps : List ℕ) (p : ℕ) → list_any (nat_eq p) ps ≡ true → Contains ps p
among_is ps p h = let (q, c, is) = some_of (nat_eq p) ps h in subst (Contains ps) (sym (eqb-true p q is)) c

-- what is kept is found where each that one used is kept, and since earlier
module _ (lists : Location ℕ → List Edge) (puts : ℕ) (m : Memory) (st : List Standing) where
  pub held_indexed : IsTied lists puts st m
      → ((k : ℕ) (e : Info) → m k ≡ Some e → (standing_of st k).holds ≡ true → (standing_of st k).since < puts)
      → ((k : ℕ) (e : Info) → m k ≡ Some e → (standing_of st k).holds ≡ true → (p : ℕ)
      → list_any (nat_eq p) e.links ≡ true
      → ((standing_of st p).holds ≡ true) × ((standing_of st p).since < (standing_of st k).since))
      → IsIndexed lists puts (held st m)
  held_indexed tied ordered links = record {
    idle = λ k f is. let (g, in_k, on, same) = held_from st m k f is in ap (λ (x : Info). x.going) (sym same)
        ∙ tied.idle k g in_k;
    known = λ k f is.
        let (g, in_k, on, same) = held_from st m k f is in
        let less = tied.known k g in_k in
        let a = ap (λ (x : Info). x.stamp) same in
        omega (arith, less, a);
    ordered = λ k f is.
        let (g, in_k, on, same) = held_from st m k f is in
        let less = ordered k g in_k on in
        let a = ap (λ (x : Info). x.since) same in
        omega (arith, less, a);
    used = λ k f is p h.
        let (g, in_k, on, same) = held_from st m k f is in
        let link : list_any (nat_eq p) g.links ≡ true = ap (λ (x : Info). list_any (nat_eq p) x.links) same ∙ h in
        let (a, in_p, listed) = tied_there m k g p (tied.used k g in_k (by_holding (standing_of st k) on) p link) in
        let (holds, before) = links k g in_k on p link in
        subst (λ (x : Info). is_used (held st m) k x p ≡ true) same
        (there_used (held st m) k (held_as st k g) p (held_as st p a) (held_on st m p a in_p holds) before listed);
    uses = λ p f is x h g at_x stamp.
        let (a, in_p, on_p, same) = held_from st m p f is in
        let (b, in_x, on_x, alike) = held_from st m x.slot g at_x in
        ap (λ (y : Info). list_any (nat_eq p) y.links) (sym alike)
        ∙ tied.uses p a in_p x (ap (λ (y : Info). is_listed x y.users) same ∙ h) b in_x
        (ap (λ (y : Info). y.stamp) alike ∙ stamp);
    past_readers = tied.past_readers;
    past_users = λ p f is x h.
        let (a, in_p, on, same) = held_from st m p f is in
        tied.past_users p a in_p x (ap (λ (y : Info). is_listed x y.users) same ∙ h);
  }

  -- and so each that one used is, and since earlier
  pub held_links : IsIndexed lists puts (held st m) → (k : ℕ) (e : Info) → m k ≡ Some e
      → (standing_of st k).holds ≡ true
      → (p : ℕ) → list_any (nat_eq p) e.links ≡ true → ((standing_of st p).holds ≡ true)
      × ((standing_of st p).since < (standing_of st k).since)
  held_links indexed k e in_k on p h =
      let (f, is, less, listed) = used_there (held st m) k (held_as st k e) p
      (indexed.used k (held_as st k e) (held_on st m k e in_k on) p h) in
      let (g, in_p, holds, same) = held_from st m p f is in
      (holds, let a = ap (λ (x : Info). x.since) same in omega (arith, less, a))

  pub held_since : IsIndexed lists puts (held st m) → (k : ℕ) (e : Info) → m k ≡ Some e
      → (standing_of st k).holds ≡ true → (standing_of st k).since < puts
  held_since indexed k e in_k on = indexed.ordered k (held_as st k e) (held_on st m k e in_k on)

-- edges of an entry that isn't there yet
module _ {lists : Location ℕ → List Edge} {puts : ℕ} {st : List Standing} {m mid : Memory} {x : Edge} {reads : List (Location ℕ)}
    {uses : List ℕ} (later : Location ℕ → List Edge)
    (tied : IsTied lists puts st m) (stamp : x.stamp ≡ puts) (r : Reads (is_current (alive st m)) x reads lists later)
    (u : Uses (alive st m) x uses m mid)
  where
    -- with the entry
    module _ {slot : ℕ} {new : Memory} (e : Info) (at_slot : x.slot ≡ slot) (its_stamp : e.stamp ≡ puts)
        (its_links : e.links ≡ uses)
        (its_users : e.users ≡ users_at mid slot) (idle : e.going ≡ false) (here : new slot ≡ Some e)
        (others : (k : ℕ) → (k ≡ slot → ⊥) → new k ≡ mid k)
        (listed : AreListed x uses (users_at mid))
        (ts : List Standing) (fewer : (k : ℕ) (g : Info) → m k ≡ Some g → (k ≡ slot → ⊥) → is_alive (standing_of ts k) ≡ true
        → is_alive (standing_of st k) ≡ true) where
      is_e : (k : ℕ) (f : Info) → new k ≡ Some f → k ≡ slot → e ≡ f
      is_e k f found same = same_Some e f (sym here ∙ ap new (sym same) ∙ found)

      was : (k : ℕ) (f : Info) → new k ≡ Some f → (k ≡ slot → ⊥) → (g : Info) × (m k ≡ Some g)
          × (f ≡ with_users f.users g)
      was k f found differs = back u k f (sym (others k differs) ∙ found)

      -- all have the users that they had
      users_same : (p : ℕ) → users_at new p ≡ users_at mid p
      users_same p = elim (cases_eq p slot) [
        | inl same ↦ users_of new p e (ap new same ∙ here) ∙ its_users ∙ ap (users_at mid) (sym same)
        | inr differs ↦ ap (λ (o : Option Info). elim o as (λ _. List Edge) [ None ↦ [] | Some e ↦ e.users ])
            (others p differs)
      ]

      tied_by : (k p : ℕ) (f : Info) → Contains (users_at mid p) (edge_to k f) → is_tied new k f p ≡ true
      tied_by k p f c = by (new p) refl
        where
          by : (o : Option Info) → new p ≡ o → is_tied new k f p ≡ true
          by None none = absurd (none_in (edge_to k f) (subst (λ es. Contains es (edge_to k f))
              (sym (users_same p) ∙ ap (λ (o : Option Info). elim o as (λ _. List Edge) [ None ↦ [] | Some e ↦ e.users ])
              none) c))
          by (Some g) is =
              ap (λ (o : Option Info). elim o as (λ _. Bool) [ None ↦ false | Some g ↦ is_listed (edge_to k f) g.users ])
              is
              ∙ has g.users (edge_to k f) (subst (λ es. Contains es (edge_to k f))
              (sym (users_same p) ∙ users_of new p g is) c)

      -- an edge among the users of one
      edge_of : (p : ℕ) (f : Info) → new p ≡ Some f → (y : Edge) → is_listed y f.users ≡ true
          → Contains (users_at mid p) y
      edge_of p f is y h = subst (λ es. Contains es y) (sym (users_of new p f is) ∙ users_same p) (is_in f.users y h)

      old_past : (p : ℕ) (y : Edge) → Contains (users_at m p) y → y.stamp < puts
      old_past p y c = by (m p) refl
        where
          by : (o : Option Info) → m p ≡ o → y.stamp < puts
          by None none = absurd (none_in y (subst (λ es. Contains es y)
              (ap (λ (o : Option Info). elim o as (λ _. List Edge) [ None ↦ [] | Some e ↦ e.users ]) none) c))
          by (Some g) is = tied.past_users p g is y (has g.users y (subst (λ es. Contains es y) (users_of m p g is) c))

      old_link : (p : ℕ) (y : Edge) → Contains (users_at m p) y → (g : Info) → m y.slot ≡ Some g → g.stamp ≡ y.stamp
          → list_any (nat_eq p) g.links ≡ true
      old_link p y c g at_y same = by (m p) refl
        where
          by : (o : Option Info) → m p ≡ o → list_any (nat_eq p) g.links ≡ true
          by None none = absurd (none_in y (subst (λ es. Contains es y)
              (ap (λ (o : Option Info). elim o as (λ _. List Edge) [ None ↦ [] | Some e ↦ e.users ]) none) c))
          by (Some f) is = tied.uses p f is y (has f.users y (subst (λ es. Contains es y) (users_of m p f is) c))
              g at_y same

      pub renewed_tied : IsTied later (puts + 1) ts new
      renewed_tied = record {
        idle = λ k f found. elim (cases_eq k slot) [
          | inl same ↦ ap (λ (n : Info). n.going) (sym (is_e k f found same)) ∙ idle
          | inr differs ↦ let (g, there, is) = was k f found differs in ap (λ (n : Info). n.going) is
              ∙ tied.idle k g there
        ];
        known = λ k f found. elim (cases_eq k slot) [
          | inl same ↦ let a = ap (λ (n : Info). n.stamp) (is_e k f found same) in omega (arith, a, its_stamp)
          | inr differs ↦
              let (g, there, is) = was k f found differs in
              let less = tied.known k g there in
              let a = ap (λ (n : Info). n.stamp) is in
              omega (arith, less, a)
        ];
        used = λ k f found on p h. elim (cases_eq k slot) [
          | inl same ↦
              let is = is_e k f found same in
              let c = among_is uses p (ap (λ ls. list_any (nat_eq p) ls) (sym its_links)
              ∙ ap (λ (n : Info). list_any (nat_eq p) n.links) is ∙ h) in
              let it : x ≡ edge_to k f = λ n. record {
                slot = (at_slot ∙ sym same) n;
                stamp =
                    (stamp ∙ sym its_stamp ∙ ap (λ (i : Info). i.stamp) is) n;
              } in
              tied_by k p f (subst (Contains (users_at mid p)) it (listed p c))
          | inr differs ↦
              let (g, there, is) = was k f found differs in
              let live = fewer k g there differs on in
              let (a, in_p, edge) = tied_there m k g p (tied.used k g there live p
              (ap (λ (n : Info). list_any (nat_eq p) n.links) (sym is) ∙ h)) in
              let c = u.users.keeps p (edge_to k g) (subst (λ es. Contains es (edge_to k g)) (sym (users_of m p a in_p))
              (is_in a.users (edge_to k g) edge)) (tells_on st m k g there live) in
              let it : edge_to k g ≡ edge_to k f = λ n. record {
                slot = k;
                stamp = (ap (λ (i : Info). i.stamp) (sym is)) n;
              } in
              tied_by k p f (subst (Contains (users_at mid p)) it c)
        ];
        uses = λ p f found y h g at_y same_stamp. elim (u.users.only p y (edge_of p f found y h)) [
          | inl c ↦
              let past = old_past p y c in
              elim (cases_eq y.slot slot) [
                | inl same ↦ let a = ap (λ (n : Info). n.stamp) (is_e y.slot g at_y same) in absurd
                    (omega (arith, past, a, its_stamp, same_stamp))
                | inr differs ↦
                    let (b, there, is) = was y.slot g at_y differs in
                    ap (λ (n : Info). list_any (nat_eq p) n.links) is
                    ∙ old_link p y c b there (ap (λ (n : Info). n.stamp) (sym is) ∙ same_stamp)
              ]
          | inr (new_one, c) ↦
              let is = is_e y.slot g at_y (ap (λ (z : Edge). z.slot) new_one ∙ at_slot) in
              ap (λ (n : Info). list_any (nat_eq p) n.links) (sym is) ∙ ap (λ ls. list_any (nat_eq p) ls) its_links
              ∙ is_among uses p c
        ];
        past_readers = λ l y h. elim (r.only l y (is_in (later l) y h)) [
          | inl c ↦ let less = tied.past_readers l y (has (lists l) y c) in omega (arith, less)
          | inr (new_one, c) ↦ let a = ap (λ (z : Edge). z.stamp) new_one in omega (arith, a, stamp)
        ];
        past_users = λ p f found y h. elim (u.users.only p y (edge_of p f found y h)) [
          | inl c ↦ let less = old_past p y c in omega (arith, less)
          | inr (new_one, c) ↦ let a = ap (λ (z : Edge). z.stamp) new_one in omega (arith, a, stamp)
        ];
      }
