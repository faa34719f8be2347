-- What is reached is the least list that has the first nodes, and with each node what it gives.
use Rattle.std.proofs.Common.{◌≡◌, ◌⊎◌, ℕ, zero, suc, ◌+◌, ◌<◌, ◌≤◌, length, Bool, true, false, cond, List, [], ◌∷◌, ◌++◌, Option, Some, None, inl, inr, refl, sym, ap, subst, arith}
use Rattle.std.specs.List.{slice_get}
use Rattle.at_model.specs.Run.{Value, Nodes, Contents, Run, Gives, Fails, Looks, Demands, ◌>>=◌, Known, FaultKind, Tried, Valued, Faulted, Needs, tried}
use Rattle.at_model.specs.Bodies.{nodes_of, is_among, with_one, with_more, close_in}
use Rattle.at_model.specs.Meaning.{Among, Distinct}
use Rattle.at_model.specs.Bodies.{max_turns}
use Rattle.at_model.proofs.of_lists.EachOnce.{with_more_apart}
use Rattle.at_model.proofs.Members.{no_more}

-- a try of one evaluation and then another one
then_tried : {N A B : Type 0} (look : Contents N) (known : Known N) (r : Run N A) (k : A → Run N B) (b : B) → tried look known (r >>= k) ≡ Valued b → (a : A) × (tried look known r ≡ Valued a) × (tried look known (k a) ≡ Valued b)
then_tried look known (Gives a) k b e = (a, refl, e)
then_tried look known (Fails f) k b e = absurd cc
then_tried look known (Looks l m) k b e = then_tried look known (m (look l)) k b e
then_tried {N} {A} {B} look known (Demands i m) k b e = by_known (known i) e (λ v. then_tried look known (m v) k b)
  where
    by_known : (o : Option (Value N)) → elim o as (λ _. Tried N B) [ None ↦ Needs i | Some v ↦ tried look known (m v >>= k) ] ≡ Valued b →
        ((v : Value N) → tried look known (m v >>= k) ≡ Valued b → (a : A) × (tried look known (m v) ≡ Valued a) × (tried look known (k a) ≡ Valued b)) →
        (a : A) × (elim o as (λ _. Tried N A) [ None ↦ Needs i | Some v ↦ tried look known (m v) ] ≡ Valued a) × (tried look known (k a) ≡ Valued b)
    by_known None e rest = absurd cc
    by_known (Some v) e rest = rest v e

among_left : {A : Type 0} (a : A) (as' bs : List A) → Among a as' → Among a (as' ++ bs)
among_left a [] bs h = absurd h
among_left a (b ∷ as') bs (inl e) = inl e
among_left a (b ∷ as') bs (inr h) = inr (among_left a as' bs h)

at_last : {A : Type 0} (a : A) (as' : List A) → Among a (as' ++ a ∷ [])
at_last a [] = inl refl
at_last a (b ∷ as') = inr (at_last a as')

one_of : {A : Type 0} (a b : A) (as' : List A) → Among a (as' ++ b ∷ []) → Among a as' ⊎ (a ≡ b)
one_of a b [] (inl e) = inr e
one_of a b [] (inr h) = absurd h
one_of a b (c ∷ cs) (inl e) = inl (inl e)
one_of a b (c ∷ cs) (inr h) = elim (one_of a b cs h) [ inl g ↦ inl (inr g) | inr e ↦ inr e ]

still_there : {A : Type 0} (as' bs : List A) (i : ℕ) (a : A) → slice_get as' i ≡ Some a → slice_get (as' ++ bs) i ≡ Some a
still_there [] bs i a e = absurd cc
still_there (b ∷ as') bs zero a e = e
still_there (b ∷ as') bs (suc i) a e = still_there as' bs i a e

none_behind : {A : Type 0} (as' : List A) (i d : ℕ) → slice_get as' i ≡ None → slice_get as' (i + d) ≡ None
none_behind [] zero zero e = refl
none_behind [] zero (suc d) e = refl
none_behind [] (suc i) d e = refl
none_behind (a ∷ as') zero d e = absurd cc
none_behind (a ∷ as') (suc i) d e = let s : suc (i + d) ≡ suc i + d = omega arith in subst (λ z. slice_get (a ∷ as') z ≡ None) s (none_behind as' i d e)

pub position : {A : Type 0} (a : A) (as' : List A) → Among a as' → (i : ℕ) × (slice_get as' i ≡ Some a)
position a [] h = absurd h
position a (b ∷ as') (inl e) = (0, ap Some (sym e))
position a (b ∷ as') (inr h) = let (i, f) = position a as' h in (suc i, f)

module _ {N : Type 0} (same : N → N → Bool) (right : (a b : N) → same a b ≡ true → a ≡ b) where
  is_there : (n : N) (ns : List N) → is_among same n ns ≡ true → Among n ns
  is_there n [] e = absurd cc
  is_there n (m ∷ ms) e = by_test (same n m) refl e (is_there n ms)
    where
      by_test : (b : Bool) → same n m ≡ b → cond b true (is_among same n ms) ≡ true → (is_among same n ms ≡ true → Among n ms) → Among n (m ∷ ms)
      by_test true is f g = inl (right n m is)
      by_test false is f g = inr (g f)

  -- one more node
  one_stays : (ns : List N) (m n : N) → Among n ns → Among n (with_one same ns m)
  one_stays ns m n h = by_test (is_among same m ns)
    where
      by_test : (b : Bool) → Among n (cond b ns (ns ++ m ∷ []))
      by_test true = h
      by_test false = among_left n ns (m ∷ []) h

  one_comes : (ns : List N) (m : N) → Among m (with_one same ns m)
  one_comes ns m = by_test (is_among same m ns) refl
    where
      by_test : (b : Bool) → is_among same m ns ≡ b → Among m (cond b ns (ns ++ m ∷ []))
      by_test true e = is_there m ns e
      by_test false e = at_last m ns

  one_alone : (ns : List N) (m n : N) → Among n (with_one same ns m) → Among n ns ⊎ (n ≡ m)
  one_alone ns m n h = by_test (is_among same m ns) h
    where
      by_test : (b : Bool) → Among n (cond b ns (ns ++ m ∷ [])) → Among n ns ⊎ (n ≡ m)
      by_test true g = inl g
      by_test false g = one_of n m ns g

  one_in_place : (ns : List N) (m : N) (i : ℕ) (n : N) → slice_get ns i ≡ Some n → slice_get (with_one same ns m) i ≡ Some n
  one_in_place ns m i n e = by_test (is_among same m ns)
    where
      by_test : (b : Bool) → slice_get (cond b ns (ns ++ m ∷ [])) i ≡ Some n
      by_test true = e
      by_test false = still_there ns (m ∷ []) i n e

  -- and several
  more_stay : (ns ms : List N) (n : N) → Among n ns → Among n (with_more same ns ms)
  more_stay ns [] n h = h
  more_stay ns (m ∷ ms) n h = more_stay (with_one same ns m) ms n (one_stays ns m n h)

  more_come : (ns ms : List N) (n : N) → Among n ms → Among n (with_more same ns ms)
  more_come ns [] n h = absurd h
  more_come ns (m ∷ ms) n (inl e) = more_stay (with_one same ns m) ms n (subst (λ z. Among z (with_one same ns m)) (sym e) (one_comes ns m))
  more_come ns (m ∷ ms) n (inr h) = more_come (with_one same ns m) ms n h

  more_alone : (ns ms : List N) (n : N) → Among n (with_more same ns ms) → Among n ns ⊎ Among n ms
  more_alone ns [] n h = inl h
  more_alone ns (m ∷ ms) n h = elim (more_alone (with_one same ns m) ms n h) [
    | inl g ↦ elim (one_alone ns m n g) [ inl f ↦ inl f | inr e ↦ inr (inl e) ]
    | inr g ↦ inr (inr g)
  ]

  more_in_place : (ns ms : List N) (i : ℕ) (n : N) → slice_get ns i ≡ Some n → slice_get (with_more same ns ms) i ≡ Some n
  more_in_place ns [] i n e = e
  more_in_place ns (m ∷ ms) i n e = more_in_place (with_one same ns m) ms i n (one_in_place ns m i n e)

  module _ (look : Contents N) (known : Known N) (what : N → Run N (Value N)) where
    abbrev Gives' : N → Value N → Type 0
    Gives' n v = tried look known (what n) ≡ Valued v

    -- it holds of all that the first nodes lead to
    abbrev Spreads : (N → Type 0) → Type 0
    Spreads P = (n : N) (v : Value N) → P n → Gives' n v → (m : N) → Among m (nodes_of v) → P m

    pub record IsClosed (i : ℕ) (ns ms : List N) : Type 1 where
      pub in_place : (j : ℕ) (n : N) → slice_get ns j ≡ Some n → slice_get ms j ≡ Some n
      pub stays : (n : N) → Among n ns → Among n ms
      pub closed : (d : ℕ) (n : N) → slice_get ms (i + d) ≡ Some n → (v : Value N) × Gives' n v × ((m : N) → Among m (nodes_of v) → Among m ms)
      pub least : (P : N → Type 0) → ((n : N) → Among n ns → P n) → Spreads P → (m : N) → Among m ms → P m

    pub closes : (turns i : ℕ) (ns : List N) (u : Value N) → tried look known (close_in same what turns i ns) ≡ Valued u → (ms : List N) × (u ≡ Nodes ms) × IsClosed i ns ms
    closes zero i ns u e = absurd cc
    closes (suc turns) i ns u e = by_turn (slice_get ns i) refl e (λ ks. closes turns (suc i) ks u)
      where
        by_turn : (o : Option N) → slice_get ns i ≡ o → tried look known (elim o as (λ _. Run N (Value N)) [ None ↦ Gives (Nodes ns) | Some n ↦ what n >>= λ v. close_in same what turns (suc i) (with_more same ns (nodes_of v)) ]) ≡ Valued u →
            ((ks : List N) → tried look known (close_in same what turns (suc i) ks) ≡ Valued u → (ms : List N) × (u ≡ Nodes ms) × IsClosed (suc i) ks ms) → (ms : List N) × (u ≡ Nodes ms) × IsClosed i ns ms
        by_turn None is f rest = (
          ns,
          (let s : Nodes ns ≡ u = cc in sym s),
          record {
            in_place = λ j n e. e;
            stays = λ n h. h;
            closed = λ d n e. absurd (let none = none_behind ns i d is in cc);
            least = λ P first spreads m h. first m h;
          },
        )
        by_turn (Some n) is f rest =
            let (v, gives, g) = then_tried look known (what n) (λ v. close_in same what turns (suc i) (with_more same ns (nodes_of v))) u f in
            let (ms, s, h) = rest (with_more same ns (nodes_of v)) g in (
              ms,
              s,
              record {
                in_place = λ j k e. h.in_place j k (more_in_place ns (nodes_of v) j k e);
                stays = λ k a. h.stays k (more_stay ns (nodes_of v) k a);
                closed = λ d k e. here_or_behind ms v gives h d k e;
                least = λ P first spreads m a. h.least P (λ k b. elim (more_alone ns (nodes_of v) k b) [
                  | inl c ↦ first k c
                  | inr c ↦ spreads n v (first n (found n ns i is)) gives k c
                ]) spreads m a;
              },
            )
          where
            found : (n : N) (ns : List N) (i : ℕ) → slice_get ns i ≡ Some n → Among n ns
            found n [] i e = absurd cc
            found n (m ∷ ms) zero e = let s : m ≡ n = cc in inl (sym s)
            found n (m ∷ ms) (suc i) e = inr (found n ms i e)

            here_or_behind : (ms : List N) (v : Value N) → Gives' n v → IsClosed (suc i) (with_more same ns (nodes_of v)) ms → (d : ℕ) (k : N) → slice_get ms (i + d) ≡ Some k → (w : Value N) × Gives' k w × ((m : N) → Among m (nodes_of w) → Among m ms)
            here_or_behind ms v gives h zero k e =
                let there : slice_get ms i ≡ Some n = h.in_place i n (more_in_place ns (nodes_of v) i n is) in
                let at : i + 0 ≡ i = omega arith in
                let g : slice_get ms i ≡ Some k = subst (λ z. slice_get ms z ≡ Some k) at e in
                let s : n ≡ k = cc in
                (v, subst (λ z. Gives' z v) s gives, λ m a. h.stays m (more_come ns (nodes_of v) m a))
            here_or_behind ms v gives h (suc d) k e = let at : i + suc d ≡ suc i + d = omega arith in h.closed d k (subst (λ z. slice_get ms z ≡ Some k) at e)

-- turns are enough -----------------------------------------------------------------------------------------------------

then_fails : {N A B : Type 0} (look : Contents N) (known : Known N) (r : Run N A) (k : A → Run N B) (f : FaultKind) → tried look known (r >>= k) ≡ Faulted f →
    (tried look known r ≡ Faulted f) ⊎ ((a : A) × (tried look known r ≡ Valued a) × (tried look known (k a) ≡ Faulted f))
then_fails look known (Gives a) k f e = inr (a, refl, e)
then_fails look known (Fails g) k f e = let x : g ≡ f = cc in inl (ap (λ z. Faulted z) x)
then_fails look known (Looks l m) k f e = then_fails look known (m (look l)) k f e
then_fails {N} {A} {B} look known (Demands i m) k f e = by_known (known i) e (λ v. then_fails look known (m v) k f)
  where
    by_known : (o : Option (Value N)) → elim o as (λ _. Tried N B) [ None ↦ Needs i | Some v ↦ tried look known (m v >>= k) ] ≡ Faulted f →
        ((v : Value N) → tried look known (m v >>= k) ≡ Faulted f → (tried look known (m v) ≡ Faulted f) ⊎ ((a : A) × (tried look known (m v) ≡ Valued a) × (tried look known (k a) ≡ Faulted f))) →
        (elim o as (λ _. Tried N A) [ None ↦ Needs i | Some v ↦ tried look known (m v) ] ≡ Faulted f) ⊎ ((a : A) × (elim o as (λ _. Tried N A) [ None ↦ Needs i | Some v ↦ tried look known (m v) ] ≡ Valued a) × (tried look known (k a) ≡ Faulted f))
    by_known None e rest = absurd cc
    by_known (Some v) e rest = rest v e

longer : {A : Type 0} (as' : List A) (i : ℕ) (a : A) → slice_get as' i ≡ Some a → i < length as'
longer [] i a e = absurd cc
longer (b ∷ as') zero a e = omega arith
longer (b ∷ as') (suc i) a e = let h = longer as' i a e in omega arith

there_at : {A : Type 0} (as' : List A) (i : ℕ) → i < length as' → (a : A) × (slice_get as' i ≡ Some a)
there_at [] i h = absurd (omega arith)
there_at (b ∷ as') zero h = (b, refl)
there_at (b ∷ as') (suc i) h = there_at as' i (omega arith)

module _ {N : Type 0} (same : N → N → Bool) (right : (a b : N) → same a b ≡ true → a ≡ b) (reflexive : (n : N) → same n n ≡ true) (look : Contents N) (known : Known N) (what : N → Run N (Value N))
    (all : List N) (spreads : (n : N) (v : Value N) → Among n all → tried look known (what n) ≡ Valued v → (m : N) → Among m (nodes_of v) → Among m all) where
  no_shorter : (ns ms : List N) (i : ℕ) → i < length ns → i < length (with_more same ns ms)
  no_shorter ns ms i h = let (n, e) = there_at ns i h in longer (with_more same ns ms) i n (more_in_place same right ns ms i n e)

  abbrev FailsThere : FaultKind → Type 0
  FailsThere f = (n : N) × Among n all × (tried look known (what n) ≡ Faulted f)

  pub enough : (turns i : ℕ) (ns : List N) (f : FaultKind) → length all < i + turns → i ≤ length ns → Distinct ns → ((n : N) → Among n ns → Among n all) → tried look known (close_in same what turns i ns) ≡ Faulted f → FailsThere f
  enough zero i ns f less short apart there e = absurd (let few : length ns ≤ length all = no_more ns all apart there in omega arith)
  enough (suc turns) i ns f less short apart there e = by_turn (slice_get ns i) refl e (λ ks. enough turns (suc i) ks f (omega arith))
    where
      found : (n : N) (ns : List N) (i : ℕ) → slice_get ns i ≡ Some n → Among n ns
      found n [] i e = absurd cc
      found n (m ∷ ms) zero e = let s : m ≡ n = cc in inl (sym s)
      found n (m ∷ ms) (suc i) e = inr (found n ms i e)

      by_turn : (o : Option N) → slice_get ns i ≡ o → tried look known (elim o as (λ _. Run N (Value N)) [ None ↦ Gives (Nodes ns) | Some n ↦ what n >>= λ v. close_in same what turns (suc i) (with_more same ns (nodes_of v)) ]) ≡ Faulted f →
          ((ks : List N) → suc i ≤ length ks → Distinct ks → ((n : N) → Among n ks → Among n all) → tried look known (close_in same what turns (suc i) ks) ≡ Faulted f → FailsThere f) → FailsThere f
      by_turn None is g rest = absurd cc
      by_turn (Some n) is g rest = elim (then_fails look known (what n) (λ v. close_in same what turns (suc i) (with_more same ns (nodes_of v))) f g) [
        | inl h ↦ (n, there n (found n ns i is), h)
        | inr (v, gives, h) ↦
            rest (with_more same ns (nodes_of v)) (let x = no_shorter ns (nodes_of v) i (longer ns i n is) in omega arith) (with_more_apart same reflexive ns (nodes_of v) apart)
            (λ k a. elim (more_alone same right ns (nodes_of v) k a) [ inl b ↦ there k b | inr b ↦ spreads n v (there n (found n ns i is)) gives k b ]) h
      ]

  pub no_long : (ns : List N) (f : FaultKind) → length all ≤ 16777216 → Distinct ns → ((n : N) → Among n ns → Among n all) → tried look known (close_in same what max_turns 0 ns) ≡ Faulted f → FailsThere f
  no_long ns f few apart there e = enough max_turns 0 ns f (omega arith) (omega arith) apart there e
