-- One entry more is kept: what was kept is kept, and what it rests on is found.
use Rattle.at_cache.proofs.Common.{◌≡◌, ◌⊎◌, inl, inr, ◌<◌, ◌+◌, ℕ, zero, suc, List, Bool, true, false, ◌&&◌, ◌||◌, Option, Some, None, nat_eq, nat_lt, if◌then◌else◌, Contains, refl, sym, ap, ◌∙◌, subst, arith, true≢false, list_any, option_and_then, cases_eq, eq-eqb, lt-ltb, ltb-true, and_from, none-some, same_Some, Location, Edge, Standing, Info, Memory, IsIndexed, covers, edge_to, is_used, is_listed, IsTied, held, is_tied, shown, standing_of, any_of, any_same, both}
use Rattle.at_cache.proofs.of_cut.Alive.{by_trace}
use Rattle.at_cache.proofs.Ending.{opened}

-- the entry as it is kept
abbrev pub held_as : List Standing → ℕ → Info → Info
held_as st s e = record e { since = (standing_of st s).since }

module _ (st : List Standing) (m : Memory) (s : ℕ) where
  pub held_on : (e : Info) → m s ≡ Some e → (standing_of st s).holds ≡ true → held st m s ≡ Some (held_as st s e)
  held_on e there on =
      ap (option_and_then (shown (standing_of st s))) there
      ∙ ap (λ b. if b then Some (held_as st s e) else None) on

  pub held_off : (standing_of st s).holds ≡ false → held st m s ≡ None
  held_off off = by (m s)
    where
      by : (o : Option Info) → option_and_then (shown (standing_of st s)) o ≡ None
      by None = refl
      by (Some e) = ap (λ b. if b then Some (held_as st s e) else None) off

  pub held_from : (f : Info) → held st m s ≡ Some f → (e : Info) × (m s ≡ Some e) × ((standing_of st s).holds ≡ true)
      × (held_as st s e ≡ f)
  held_from f h = by (m s) refl h
    where
      on : (e : Info) (b : Bool) → (standing_of st s).holds ≡ b → m s ≡ Some e
          → (if b then Some (held_as st s e) else None) ≡ Some f
          → (e : Info) × (m s ≡ Some e) × ((standing_of st s).holds ≡ true) × (held_as st s e ≡ f)
      on e true is there k = (e, there, is, same_Some (held_as st s e) f k)
      on e false is there k = absurd (none-some f k)

      by : (o : Option Info) → m s ≡ o → option_and_then (shown (standing_of st s)) o ≡ Some f
          → (e : Info) × (m s ≡ Some e) × ((standing_of st s).holds ≡ true) × (held_as st s e ≡ f)
      by None is k = absurd (none-some f k)
      by (Some e) is k = on e (standing_of st s).holds refl is k

-- what an entry used is there, and has an edge to it
module _ (m : Memory) (s : ℕ) (e : Info) (p : ℕ) where
  pub used_there : is_used m s e p ≡ true → (f : Info) × (m p ≡ Some f) × (f.since < e.since)
      × (is_listed (edge_to s e) f.users ≡ true)
  used_there h = by (m p) refl h
    where
      by : (o : Option Info) → m p ≡ o → (elim o as (λ _. Bool)
          [ None ↦ false | Some f ↦ nat_lt f.since e.since && is_listed (edge_to s e) f.users ]) ≡ true
          → (f : Info) × (m p ≡ Some f) × (f.since < e.since) × (is_listed (edge_to s e) f.users ≡ true)
      by None is k = absurd (true≢false (sym k))
      by (Some f) is k = let (less, listed) = both _ _ k in (f, is, ltb-true f.since e.since less, listed)

  pub there_used : (f : Info) → m p ≡ Some f → f.since < e.since → is_listed (edge_to s e) f.users ≡ true
      → is_used m s e p ≡ true
  there_used f is less listed =
      ap (λ (o : Option Info). elim o as (λ _. Bool) [
        | None ↦ false
        | Some f ↦ nat_lt f.since e.since && is_listed (edge_to s e) f.users
      ]) is
      ∙ and_from _ _ (lt-ltb f.since e.since less) listed

  pub tied_there : is_tied m s e p ≡ true → (f : Info) × (m p ≡ Some f) × (is_listed (edge_to s e) f.users ≡ true)
  tied_there h = by (m p) refl h
    where
      by : (o : Option Info) → m p ≡ o → (elim o as (λ _. Bool)
          [ None ↦ false | Some f ↦ is_listed (edge_to s e) f.users ]) ≡ true
          → (f : Info) × (m p ≡ Some f) × (is_listed (edge_to s e) f.users ≡ true)
      by None is k = absurd (true≢false (sym k))
      by (Some f) is k = (f, is, k)

-- of a list of slots
pub is_among : (ps : List ℕ) (p : ℕ) → Contains ps p → list_any (nat_eq p) ps ≡ true
is_among ps p c = any_of (nat_eq p) ps p c (eq-eqb p p refl)

-- the number of one more
abbrev pub again : ℕ → Standing
again puts = record { since = puts; holds = true; traced = true }

module _ (lists : Location ℕ → List Edge) (m : Memory) (old new : List Standing) (puts s : ℕ) (e : Info)
    (there : m s ≡ Some e)
    (off : (standing_of old s).holds ≡ false) (traced : (standing_of old s).traced ≡ true) (here : standing_of new s ≡ again puts)
    (others : (k : ℕ) → (k ≡ s → ⊥) → standing_of new k ≡ standing_of old k)
    (indexed : IsIndexed lists puts (held old m)) (tied : IsTied lists puts old m)
    (on : (p : ℕ) → list_any (nat_eq p) e.links ≡ true → (standing_of old p).holds ≡ true) where
  abbrev came : Info
  came = record e { since = puts }

  new_here : held new m s ≡ Some came
  new_here =
      ap (λ x. option_and_then (shown x) (m s)) here
      ∙ ap (option_and_then (shown (again puts))) there

  new_there : (k : ℕ) → (k ≡ s → ⊥) → held new m k ≡ held old m k
  new_there k differs = ap (λ x. option_and_then (shown x) (m k)) (others k differs)

  not_here : (k : ℕ) (f : Info) → held old m k ≡ Some f → k ≡ s → ⊥
  not_here k f is same = none-some f (sym (held_off old m s off) ∙ ap (held old m) (sym same) ∙ is)

  stays : (k : ℕ) (f : Info) → held old m k ≡ Some f → held new m k ≡ Some f
  stays k f is = new_there k (not_here k f is) ∙ is

  comes : (k : ℕ) (f : Info) → held new m k ≡ Some f → ((k ≡ s) × (came ≡ f)) ⊎ (held old m k ≡ Some f)
  comes k f is = elim (cases_eq k s) [
    | inl same ↦ inl (same, same_Some came f (sym new_here ∙ ap (held new m) (sym same) ∙ is))
    | inr differs ↦ inr (sym (new_there k differs) ∙ is)
  ]

  -- each that it used
  link : (p : ℕ) → list_any (nat_eq p) e.links ≡ true → (f : Info) × (held old m p ≡ Some f) × (f.since < puts)
      × (is_listed (edge_to s e) f.users ≡ true)
  link p h =
      let (g, is, listed) = tied_there m s e p (tied.used s e there (by_trace (standing_of old s) traced) p h) in
      let kept = held_on old m p g is (on p h) in
      (held_as old p g, kept, indexed.ordered p (held_as old p g) kept, listed)

  -- each that another one used
  older : (k : ℕ) (f : Info) → held old m k ≡ Some f → (p : ℕ) → list_any (nat_eq p) f.links ≡ true
      → (g : Info) × (held old m p ≡ Some g) × (g.since < f.since) × (is_listed (edge_to k f) g.users ≡ true)
  older k f is p h = used_there (held old m) k f p (indexed.used k f is p h)

  -- the fields of what is kept, by all that is there
  from : (k : ℕ) (f : Info) → held new m k ≡ Some f → (g : Info) × (m k ≡ Some g) × (held_as new k g ≡ f)
  from k f is = let (g, in_k, holds, same) = held_from new m k f is in (g, in_k, same)

  pub again_indexed : IsIndexed lists (puts + 1) (held new m)
  again_indexed = record {
    idle = λ k f is. let (g, in_k, same) = from k f is in ap (λ (x : Info). x.going) (sym same) ∙ tied.idle k g in_k;
    known = λ k f is. let (g, in_k, same) = from k f is in let less = tied.known k g in_k in let a = ap
        (λ (x : Info). x.stamp) same in omega (arith, less, a);
    ordered = λ k f is. elim (comes k f is) [
      | inl (same, it) ↦ let a = ap (λ (x : Info). x.since) it in omega (arith, a)
      | inr was ↦ let less = indexed.ordered k f was in omega (arith, less)
    ];
    used = λ k f is p h. elim (comes k f is) [
      | inl (same, it) ↦
          let (g, had, less, listed) = link p (ap (λ (x : Info). list_any (nat_eq p) x.links) it ∙ h) in
          subst (λ n. is_used (held new m) n f p ≡ true) (sym same)
          (subst (λ (x : Info). is_used (held new m) s x p ≡ true) it
          (there_used (held new m) s came p g (stays p g had) less listed))
      | inr was ↦ let (g, had, less, listed) = older k f was p h in there_used (held new m) k f p g (stays p g had)
          less listed
    ];
    uses = λ p f is x h g at_x stamp.
        let (a, in_p, same) = from p f is in
        let (b, in_x, alike) = from x.slot g at_x in
        ap (λ (y : Info). list_any (nat_eq p) y.links) (sym alike)
        ∙ tied.uses p a in_p x (ap (λ (y : Info). is_listed x y.users) same ∙ h) b in_x
        (ap (λ (y : Info). y.stamp) alike ∙ stamp);
    past_readers = λ l x h. let less = tied.past_readers l x h in omega (arith, less);
    past_users = λ p f is x h.
        let (a, in_p, same) = from p f is in
        let less = tied.past_users p a in_p x (ap (λ (y : Info). is_listed x y.users) same ∙ h) in
        omega (arith, less);
  }

  -- what was kept stands for the same
  covers_on : (far p : ℕ) (f : Info) → held old m p ≡ Some f → (l : Location ℕ)
      → covers lists (held new m) far p l ≡ covers lists (held old m) far p l
  covers_on zero p f is l = refl
  covers_on (suc far) p f is l =
      opened lists (held new m) far p f (stays p f is) l
      ∙ ap (λ b. is_listed (edge_to p f) (lists l) || b)
      (any_same (λ q. covers lists (held new m) far q l) (λ q. covers lists (held old m) far q l) f.links
      (λ q c. let (g, had, less, listed) = older p f is q (is_among f.links q c) in covers_on far q g had l))
      ∙ sym (opened lists (held old m) far p f is l)

  enough : (far p : ℕ) (f : Info) → held old m p ≡ Some f → f.since < far → (l : Location ℕ)
      → covers lists (held old m) (suc far) p l ≡ covers lists (held old m) far p l
  enough zero p f is less l = absurd (omega (arith, less))
  enough (suc far) p f is less l =
      opened lists (held old m) (suc far) p f is l
      ∙ ap (λ b. is_listed (edge_to p f) (lists l) || b)
      (any_same (λ q. covers lists (held old m) (suc far) q l) (λ q. covers lists (held old m) far q l) f.links
      (λ q c. let (g, had, before, listed) = older p f is q (is_among f.links q c) in enough far q g had
      (omega (arith, less, before)) l))
      ∙ sym (opened lists (held old m) far p f is l)

  next : puts + 1 ≡ suc puts
  next = omega arith

  pub covers_still : (p : ℕ) (f : Info) → held old m p ≡ Some f → (l : Location ℕ)
      → covers lists (held new m) (puts + 1) p l ≡ covers lists (held old m) puts p l
  covers_still p f is l =
      ap (λ n. covers lists (held new m) n p l) next
      ∙ covers_on (suc puts) p f is l
      ∙ enough puts p f is (indexed.ordered p f is) l

  pub covers_it : (l : Location ℕ) → covers lists (held new m) (puts + 1) s l ≡
      (is_listed (edge_to s e) (lists l) || list_any (λ p. covers lists (held old m) puts p l) e.links)
  covers_it l =
      ap (λ n. covers lists (held new m) n s l) next
      ∙ opened lists (held new m) puts s came new_here l
      ∙ ap (λ b. is_listed (edge_to s e) (lists l) || b)
      (any_same (λ p. covers lists (held new m) puts p l) (λ p. covers lists (held old m) puts p l) e.links
      (λ p c. let (g, had, less, listed) = link p (is_among e.links p c) in covers_on puts p g had l))
