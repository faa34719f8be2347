-- The index by tests is the index.
use Rattle.at_cache.proofs.Common.{◌≡◌, ◌<◌, ℕ, List, Bool, true, false, ◌&&◌, Option, None, Some, nat_eq, nat_lt, Contains, refl, sym, ap, ◌∙◌, subst, eqb-true, list_any, eq-eqb, lt-ltb, ltb-true, and_from, Location, Edge, Info, Memory, IsIndexed, is_used, edge_to, same_edge, any_of, some_of, both, has, is_in}
use Rattle.at_cache.proofs.Index.{Index}

has_number : (xs : List ℕ) (x : ℕ) → Contains xs x → list_any (nat_eq x) xs ≡ true
has_number xs x c = any_of (nat_eq x) xs x c (eq-eqb x x refl)

number_in : (xs : List ℕ) (x : ℕ) → list_any (nat_eq x) xs ≡ true → Contains xs x
number_in xs x h = let (y, c, is) = some_of (nat_eq x) xs h in subst (Contains xs) (sym (eqb-true x y is)) c

module _ (m : Memory) where
  used_test : (s : ℕ) (e : Info) (p : ℕ) → (f : Info) × (m p ≡ Some f) × (f.since < e.since) × Contains f.users (edge_to s e) → is_used m s e p ≡ true
  used_test s e p (f, found, before, c) =
      ap (λ (o : Option Info). elim o as (λ _. Bool) [ None ↦ false | Some f ↦ nat_lt f.since e.since && list_any (same_edge (edge_to s e)) f.users ]) found
      ∙ and_from _ _ (lt-ltb f.since e.since before) (has f.users (edge_to s e) c)

  used_fact : (s : ℕ) (e : Info) (p : ℕ) → is_used m s e p ≡ true → (f : Info) × (m p ≡ Some f) × (f.since < e.since) × Contains f.users (edge_to s e)
  used_fact s e p h = by (m p) refl h
    where
      by : (o : Option Info) → m p ≡ o → (elim o as (λ _. Bool) [ None ↦ false | Some f ↦ nat_lt f.since e.since && list_any (same_edge (edge_to s e)) f.users ]) ≡ true → (f : Info) × (m p ≡ Some f) × (f.since < e.since) × Contains f.users (edge_to s e)
      by None is k = absurd (cc)
      by (Some f) is k = let (before, listed) = both _ _ k in (f, is, ltb-true f.since e.since before, is_in f.users (edge_to s e) listed)

module _ {lists : Location ℕ → List Edge} {puts : ℕ} {m : Memory} where
  pub tested : Index lists puts m → IsIndexed lists puts m
  tested i = record {
    idle = i.idle;
    known = i.known;
    ordered = i.ordered;
    used = λ s e there p h. used_test m s e p (i.used s e there p (number_in e.links p h));
    uses = λ p f found x h e there same. has_number e.links p (i.uses p f found x (is_in f.users x h) e there same);
    past_readers = λ l x h. i.past_readers l x (is_in (lists l) x h);
    past_users = λ p f found x h. i.past_users p f found x (is_in f.users x h);
  }

  pub indexed_by : IsIndexed lists puts m → Index lists puts m
  indexed_by t = record {
    idle = t.idle;
    known = t.known;
    ordered = t.ordered;
    used = λ s e there p c. used_fact m s e p (t.used s e there p (has_number e.links p c));
    uses = λ p f found x c e there same. number_in e.links p (t.uses p f found x (has f.users x c) e there same);
    past_readers = λ l x c. t.past_readers l x (has (lists l) x c);
    past_users = λ p f found x c. t.past_users p f found x (has f.users x c);
  }
