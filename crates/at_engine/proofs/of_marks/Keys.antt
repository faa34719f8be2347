-- Marks in their map: what is found of a key, and what is left when it is taken out.
use Rattle.std.proofs.Common.{◌≡◌, ◌∙◌, ◌+◌, ◌≤◌, ℕ, suc, zero, Bool, true, false, cond, not, ◌&&◌, nat_eq, nat_lt, List, [], ◌∷◌, ◌++◌, length, filter, position, Option, Some, None, is_some, option_map, slice_get, arith, refl, sym, ap, subst}
use Rattle.std.specs.Prelude.{MatchOption, remove}
use Rattle.std.specs.Cow.{cow_str_bytes}
use Rattle.std.specs.List.{find, position_or_len, AllByRecursion, IsDistinct}
use Rattle.std.specs.Map.{keys_of, lookup}
use Rattle.std.specs.Str.{bytes_eq}
use Rattle.std.specs.Cmp.Lexicographic.{bytes_decides}
use Rattle.std.proofs.lemmas.List.{length-map}
use Rattle.std.proofs.lemmas.Map.Keys.{IsDistinct-head, IsDistinct-tail}
use Rattle.std.proofs.lemmas.Bool.{and_parts, eqb-true, le-ltb, lt-ltb, ltb-false, ltb-true}
use Rattle.std.proofs.lemmas.Option.{slice_get-map}
use Rattle.at_engine.specs.Marks.{Mark, has_mark, is_named, listed, mark_of, number_marked}
use Rattle.at_engine.specs.Tallied.{IsPlaceOf, IsTaken}
use Rattle.at_engine.specs.declared.marks.Key.{Key}
use Rattle.at_engine.specs.contracts.marks.KeyPartialEq.TheImpl.{ghosts}

-- where the first is that passes, item by item
position_by : {X : Type 0} (p : X → Bool) (x : X) (xs : List X) (b : Bool) → p x ≡ b → position p (x ∷ xs) ≡ cond b (Some 0) (option_map suc (position p xs))
position_by {X} p x xs b e =
    let n = position_or_len p xs in
    ap (λ (c : Bool). cond (nat_lt (cond (not c) (1 + n) 0) (length (x ∷ xs))) (Some (cond (not c) (1 + n) 0)) None) e ∙ by b
  where
    behind : (n l : ℕ) (c : Bool) → nat_lt n l ≡ c → cond (nat_lt (1 + n) (suc l)) (Some (1 + n)) None ≡ option_map suc (cond c (Some n) None)
    behind n l true e =
        let next : 1 + n ≡ suc n = omega arith in
        ap (λ (c : Bool). cond c (Some (1 + n)) None) (lt-ltb (1 + n) (suc l) (omega (arith, ltb-true n l e))) ∙ ap Some next
    behind n l false e = ap (λ (c : Bool). cond c (Some (1 + n)) None) (le-ltb (1 + n) (suc l) (omega (arith, ltb-false n l e)))

    by : (b : Bool) → cond (nat_lt (cond (not b) (1 + position_or_len p xs) 0) (length (x ∷ xs))) (Some (cond (not b) (1 + position_or_len p xs) 0)) None ≡ cond b (Some 0) (option_map suc (position p xs))
    by true = ap (λ (c : Bool). cond c (Some 0) None) (lt-ltb 0 (length (x ∷ xs)) (omega arith))
    by false = behind (position_or_len p xs) (length xs) (nat_lt (position_or_len p xs) (length xs)) refl

module _ (k : Key) where
  -- what is looked up is what the session has marked so
  pub found_by : (es : List (Key × ℕ)) → lookup (ghosts.eq k) es ≡ number_marked (listed es) k.session (cow_str_bytes k.name)
  found_by [] = refl
  found_by (e ∷ es) =
      elim (is_named k.session (cow_str_bytes k.name) (mark_of e)) as (λ b. cond b (Some e.1) (lookup (ghosts.eq k) es) ≡ option_map (λ (m : Mark). m.node) (cond b (Some (mark_of e)) (find (is_named k.session (cow_str_bytes k.name)) (listed es)))) [
        | true ↦ refl
        | false ↦ found_by es
      ]

  nothing_found : (o : Option ℕ) → is_some o ≡ false → o ≡ None
  nothing_found None off = refl
  nothing_found (Some n) off = absurd cc

  pub absent : (es : List (Key × ℕ)) → has_mark (listed es) k.session (cow_str_bytes k.name) ≡ false → lookup (ghosts.eq k) es ≡ None
  absent es off = found_by es ∙ nothing_found (number_marked (listed es) k.session (cow_str_bytes k.name)) off

-- no key has that session and that name
abbrev NoneNamed : ℕ → List ℕ → List Key → Type 0
NoneNamed session name ks = AllByRecursion (λ (l : Key). (nat_eq session l.session && bytes_eq name (cow_str_bytes l.name)) ≡ false) ks

module _ (session : ℕ) (name : List ℕ) where
  abbrev others : List Mark → List Mark
  others ms = filter (λ (m : Mark). not (is_named session name m)) ms

  -- then all marks are of other names
  all_others : (es : List (Key × ℕ)) → NoneNamed session name (keys_of es) → others (listed es) ≡ listed es
  all_others [] h = refl
  all_others (e ∷ es) h = ap (λ b. cond (not b) (mark_of e ∷ others (listed es)) (others (listed es))) h.0 ∙ ap (λ l. mark_of e ∷ l) (all_others es h.1)

  abbrev Placed : List (Key × ℕ) → Option ℕ → Type 0
  Placed es r = MatchOption r (others (listed es) ≡ listed es) (IsPlaceOf session name (listed es))

  -- one more in front, of another name
  placed_behind : (e : Key × ℕ) (es : List (Key × ℕ)) → is_named session name (mark_of e) ≡ false → (r : Option ℕ) → Placed es r → Placed (e ∷ es) (option_map suc r)
  placed_behind e es off None h = ap (λ b. cond (not b) (mark_of e ∷ others (listed es)) (others (listed es))) off ∙ ap (λ l. mark_of e ∷ l) h
  placed_behind e es off (Some i) p = record {
    front = mark_of e ∷ p.front;
    mark = p.mark;
    back = p.back;
    is = p.is;
    split = ap (λ l. mark_of e ∷ l) p.split;
    at = ap suc p.at;
    others = ap (λ b. cond (not b) (mark_of e ∷ others (listed es)) (others (listed es))) off ∙ ap (λ l. mark_of e ∷ l) p.others;
  }

  -- the first, where no other key is equal to it
  placed_first : (e : Key × ℕ) (es : List (Key × ℕ)) → is_named session name (mark_of e) ≡ true → NoneNamed e.0.session (cow_str_bytes e.0.name) (keys_of es) → Placed (e ∷ es) (Some 0)
  placed_first e es on none =
      let (a, b) = and_parts (nat_eq session e.0.session) (bytes_eq name (cow_str_bytes e.0.name)) on in
      let s : e.0.session ≡ session = sym (eqb-true session e.0.session a) in
      let n : cow_str_bytes e.0.name ≡ name = sym ((bytes_decides name (cow_str_bytes e.0.name)).0 b) in
      let off : NoneNamed session name (keys_of es) = subst (λ x. NoneNamed session x (keys_of es)) n (subst (λ x. NoneNamed x (cow_str_bytes e.0.name) (keys_of es)) s none) in
      record {
        front = [];
        mark = mark_of e;
        back = listed es;
        is = s;
        split = refl;
        at = refl;
        others = ap (λ c. cond (not c) (mark_of e ∷ others (listed es)) (others (listed es))) on ∙ all_others es off;
      }

  -- what stands at a place of the list stands there in the map
  at_split : (front back : List Mark) (m : Mark) → slice_get (front ++ m ∷ back) (length front) ≡ Some m
  at_split [] back m = refl
  at_split (x ∷ front) back m = at_split front back m

  without : (front back : List Mark) (m : Mark) → remove (front ++ m ∷ back) (length front) ≡ front ++ back
  without [] back m = refl
  without (x ∷ front) back m = ap (λ l. x ∷ l) (without front back m)

  listed_without : (es : List (Key × ℕ)) (i : ℕ) → listed (remove es i) ≡ remove (listed es) i
  listed_without [] i = nothing i
    where
      nothing : (i : ℕ) → listed (remove [] i) ≡ remove (listed []) i
      nothing zero = refl
      nothing (suc i) = refl
  listed_without (e ∷ es) zero = refl
  listed_without (e ∷ es) (suc i) = ap (λ l. mark_of e ∷ l) (listed_without es i)

  module _ (es : List (Key × ℕ)) (i : ℕ) (p : IsPlaceOf session name (listed es) i) where
    there : slice_get (listed es) i ≡ Some p.mark
    there = ap (λ l. slice_get l i) p.split ∙ subst (λ n. slice_get (p.front ++ p.mark ∷ p.back) n ≡ Some p.mark) p.at (at_split p.front p.back p.mark)

    pub place_there : slice_get es i ≡ None → ⊥
    place_there none =
        let e : None ≡ Some p.mark = ap (option_map mark_of) (sym none) ∙ sym (slice_get-map mark_of es i) ∙ there in
        absurd cc

    after : listed (remove es i) ≡ p.front ++ p.back
    after = listed_without es i ∙ ap (λ l. remove l i) p.split ∙ subst (λ n. remove (p.front ++ p.mark ∷ p.back) n ≡ p.front ++ p.back) p.at (without p.front p.back p.mark)

    pub place_left : (new : List (Key × ℕ)) → new ≡ remove es i → listed new ≡ others (listed es)
    place_left new is = ap listed is ∙ after ∙ sym p.others

    pub place_taken : (new : List (Key × ℕ)) → new ≡ remove es i → (k : Key) (n : ℕ) → slice_get es i ≡ Some (k, n) → IsTaken session n (listed es) (listed new)
    place_taken new is k n at =
        let found : Some (mark_of (k, n)) ≡ Some p.mark = ap (option_map mark_of) (sym at) ∙ sym (slice_get-map mark_of es i) ∙ there in
        let same : mark_of (k, n) ≡ p.mark = cc in
        record { front = p.front; mark = p.mark; back = p.back; is = record { session' = p.is; node' = ap (λ (m : Mark). m.node) (sym same) }; before = p.split; after = ap listed is ∙ after }

-- where a key stands, the session's only mark of the name stands
module _ (k : Key) where
  placed_by : (e : Key × ℕ) (es : List (Key × ℕ)) (b : Bool) → ghosts.eq k e.0 ≡ b → IsDistinct ghosts.eq (keys_of (e ∷ es)) → Placed k.session (cow_str_bytes k.name) es (position (ghosts.eq k) (keys_of es))
      → Placed k.session (cow_str_bytes k.name) (e ∷ es) (position (ghosts.eq k) (keys_of (e ∷ es)))
  placed_by e es true is h rest = subst (Placed k.session (cow_str_bytes k.name) (e ∷ es)) (sym (position_by (ghosts.eq k) e.0 (keys_of es) true is)) (placed_first k.session (cow_str_bytes k.name) e es is (IsDistinct-head ghosts.eq e.0 (keys_of es) h))
  placed_by e es false is h rest = subst (Placed k.session (cow_str_bytes k.name) (e ∷ es)) (sym (position_by (ghosts.eq k) e.0 (keys_of es) false is)) (placed_behind k.session (cow_str_bytes k.name) e es is (position (ghosts.eq k) (keys_of es)) rest)

  placed : (es : List (Key × ℕ)) → IsDistinct ghosts.eq (keys_of es) → Placed k.session (cow_str_bytes k.name) es (position (ghosts.eq k) (keys_of es))
  placed [] h = refl
  placed (e ∷ es) h = placed_by e es (ghosts.eq k e.0) refl h (placed es (IsDistinct-tail ghosts.eq e.0 (keys_of es) h))

  pub placed_for : (session : ℕ) (name : List ℕ) → k.session ≡ session → cow_str_bytes k.name ≡ name → (es : List (Key × ℕ)) → IsDistinct ghosts.eq (keys_of es) → (r : Option ℕ) → r ≡ position (ghosts.eq k) (keys_of es)
      → MatchOption r (filter (λ (m : Mark). not (is_named session name m)) (listed es) ≡ listed es) (IsPlaceOf session name (listed es))
  placed_for session name s n es h r is = subst (λ x. Placed session name es x) (sym is) (subst (λ x. Placed session x es (position (ghosts.eq k) (keys_of es))) n (subst (λ x. Placed x (cow_str_bytes k.name) es (position (ghosts.eq k) (keys_of es))) s (placed es h)))

-- marks whose nodes are there, in the map and in the list
pub listed_live : {N : Type 0} (look : ℕ → Option N) (es : List (Key × ℕ)) → listed (filter (λ (e : Key × ℕ). is_some (look e.1)) es) ≡ filter (λ (m : Mark). is_some (look m.node)) (listed es)
listed_live look [] = refl
listed_live look (e ∷ es) = elim (is_some (look e.1)) as (λ b. listed (cond b (e ∷ filter (λ (x : Key × ℕ). is_some (look x.1)) es) (filter (λ (x : Key × ℕ). is_some (look x.1)) es)) ≡ cond b (mark_of e ∷ filter (λ (m : Mark). is_some (look m.node)) (listed es)) (filter (λ (m : Mark). is_some (look m.node)) (listed es))) [
  | true ↦ ap (λ l. mark_of e ∷ l) (listed_live look es)
  | false ↦ listed_live look es
]

-- one more entry
pub listed_more : (es : List (Key × ℕ)) (k : Key) (n : ℕ) → listed (es ++ (k, n) ∷ []) ≡ listed es ++ mark_of (k, n) ∷ []
listed_more [] k n = refl
listed_more (e ∷ es) k n = ap (λ l. mark_of e ∷ l) (listed_more es k n)

-- the mark at a position, and none behind the last
pub listed_at : (es : List (Key × ℕ)) (i : ℕ) (k : Key) (n : ℕ) → slice_get es i ≡ Some (k, n) → slice_get (listed es) i ≡ Some (mark_of (k, n))
listed_at es i k n at = slice_get-map mark_of es i ∙ ap (option_map mark_of) at

pub listed_past : (es : List (Key × ℕ)) (i : ℕ) → slice_get es i ≡ None → length (listed es) ≤ i
listed_past [] i none = omega arith
listed_past (e ∷ es) zero none = absurd cc
listed_past (e ∷ es) (suc i) none = omega (arith, listed_past es i none)

pub listed_all : (es : List (Key × ℕ)) (i : ℕ) → length es ≤ i → length (listed es) ≤ i
listed_all es i past = omega (arith, length-map es mark_of, past)
