-- The test of locations is equality; what a facet stands for.
use Rattle.at_index.proofs.Common.{◌≡◌, inl, inr, ℕ, zero, suc, ◌+◌, ◌*◌, ◌/◌, ◌%◌, ◌^◌, ◌<◌, ◌≤◌, max, List, ◌∷◌, Bool, true, false, true≢false, not, ◌&&◌, ◌||◌, Option, None, Some, Contains, map, nat_eq, if◌then◌else◌, bit_or, refl, sym, ap, ◌∙◌, subst, arith, and_from, cases_eq, eq-eqb, ne_eqb, or_cases, or_left, or_right, div-add-mod', mod-lt, bit_at-lt, bit_at_above, bit_at-pow_other, bit_at-pow_same, bit_at_or, none-some, same_Some, Contains-cons, Contains-cons_cases, Location, Is, Tok, Slot, Up, Idx, Drawer, both, Loc, loc_view, is_index, Facet, form_of, marks_at, node_at, part_at, same_location, IsFirst, has_number, is_near, is_of_index, number_of, stands_for}
use Rattle.std.specs.Int.{bit_at}
use Rattle.std.proofs.lemmas.Bool.{eqb-true}
use Rattle.std.proofs.Math.Pow.{pow_pos}
use Rattle.std.proofs.lemmas.Nat.{one_shl}
use Rattle.std.proofs.lemmas.Slice.Eq.{bytes_eq-Decides}
use Rattle.at_index.specs.declared.facet.Facet.TheVariants as facet
use Rattle.at_index.proofs.Lists.{head_of}

-- the drawer with that key and mark
drawn : ℕ → ℕ → List ℕ → Location ℕ
drawn n part (first ∷ classes ∷ token ∷ mark ∷ ks) =
    Drawer n part (record { first = first; classes = classes; token = token }) mark
drawn n part ks = Idx n

built : ℕ → ℕ → ℕ → List ℕ → Location ℕ
built zero n part ks = Is n
built (suc zero) n part ks = Tok n part
built (suc (suc zero)) n part ks = Slot n part
built (suc (suc (suc zero))) n part ks = Up n
built (suc (suc (suc (suc zero)))) n part ks = Idx n
built (suc (suc (suc (suc (suc k))))) n part ks = drawn n part ks

rebuilt : (l : Location ℕ) → built (form_of l) (node_at l) (part_at l) (marks_at l) ≡ l
unfolding built drawn
rebuilt (Is n) = refl
rebuilt (Tok n part) = refl
rebuilt (Slot n part) = refl
rebuilt (Up n) = refl
rebuilt (Idx n) = refl
rebuilt (Drawer n part key mark) = refl

pub same_location-is : (l m : Location ℕ) → same_location l m ≡ true → l ≡ m
same_location-is l m h =
    let p = both _ _ h in
    let q = both _ _ p.1 in
    let r = both _ _ q.1 in
    sym (rebuilt l)
    ∙ ap (λ k. built k (node_at l) (part_at l) (marks_at l)) (eqb-true _ _ p.0)
    ∙ ap (λ k. built (form_of m) k (part_at l) (marks_at l)) (eqb-true _ _ q.0)
    ∙ ap (λ k. built (form_of m) (node_at m) k (marks_at l)) (eqb-true _ _ r.0)
    ∙ ap (built (form_of m) (node_at m) (part_at m)) ((bytes_eq-Decides (marks_at l) (marks_at m)).0 r.1)
    ∙ rebuilt m

pub same_location-itself : (l : Location ℕ) → same_location l l ≡ true
same_location-itself l =
    let a = eq-eqb (form_of l) _ refl in
    let b = eq-eqb (node_at l) _ refl in
    let c = eq-eqb (part_at l) _ refl in
    let d = (bytes_eq-Decides (marks_at l) (marks_at l)).1 refl in
    rw (a, b, c, d) refl

-- the location of a node with that number
located : ℕ → ℕ → Location ℕ
located n zero = Is n
located n (suc zero) = Up n
located n (suc (suc k)) = if nat_eq (k % 2) 0 then Tok n (k / 2) else Slot n (k / 2)

of_token : (n part k : ℕ) → 2 * part + 2 ≡ k → located n k ≡ Tok n part
unfolding located
of_token n part zero h = absurd (omega (arith, h))
of_token n part (suc zero) h = absurd (omega (arith, h))
of_token n part (suc (suc k)) h =
    let even : k % 2 ≡ 0 = omega (arith, h) in
    let half : k / 2 ≡ part = omega (arith, h) in
    ap (λ b. if b then Tok n (k / 2) else Slot n (k / 2)) (eq-eqb (k % 2) 0 even) ∙ ap (Tok n) half

of_component : (n part k : ℕ) → 2 * part + 3 ≡ k → located n k ≡ Slot n part
unfolding located
of_component n part zero h = absurd (omega (arith, h))
of_component n part (suc zero) h = absurd (omega (arith, h))
of_component n part (suc (suc k)) h =
    let odd : nat_eq (k % 2) 0 ≡ false = ne_eqb (k % 2) 0 (λ e. omega (arith, e, h)) in
    let half : k / 2 ≡ part = omega (arith, h) in
    ap (λ b. if b then Tok n (k / 2) else Slot n (k / 2)) odd ∙ ap (Slot n) half

relocated : (l : Location ℕ) (k : ℕ) → number_of l ≡ Some k → located (node_at l) k ≡ l
unfolding located
relocated (Is n) k h = ap (located n) (sym (same_Some _ _ h))
relocated (Up n) k h = ap (located n) (sym (same_Some _ _ h))
relocated (Tok n part) k h = of_token n part k (same_Some _ _ h)
relocated (Slot n part) k h = of_component n part k (same_Some _ _ h)
relocated (Idx n) k h = absurd (none-some k h)
relocated (Drawer n part key mark) k h = absurd (none-some k h)

-- a location is known by its node and its number
pub same_number : (l m : Location ℕ) (k : ℕ) → node_at l ≡ node_at m → number_of l ≡ Some k → number_of m ≡ Some k → l ≡ m
same_number l m k at a b = sym (relocated l k a) ∙ ap (λ n. located n k) at ∙ relocated m k b

-- two tests that hold of the same are the same
same_test : (a b : Bool) → (a ≡ true → b ≡ true) → (b ≡ true → a ≡ true) → a ≡ b
same_test true true there back = refl
same_test true false there back = sym (there refl)
same_test false true there back = back refl
same_test false false there back = refl

-- what is in a set has a number in it
pub near_number : (set : ℕ) (l : Location ℕ) → is_near set l ≡ true → (k : ℕ) × (number_of l ≡ Some k) × (has_number set k ≡ true)
near_number set l h = by (number_of l) refl h
  where
    by : (o : Option ℕ) → number_of l ≡ o → elim o as (λ _. Bool) [ None ↦ false | Some k ↦ has_number set k ] ≡ true
        → (k : ℕ) × (number_of l ≡ Some k) × (has_number set k ≡ true)
    by None is g = absurd (true≢false (sym g))
    by (Some k) is g = (k, is, g)

pub near_at : (set k : ℕ) (l : Location ℕ) → number_of l ≡ Some k → is_near set l ≡ has_number set k
near_at set k l h = ap (λ (o : Option ℕ). elim o as (λ _. Bool) [ None ↦ false | Some j ↦ has_number set j ]) h

-- a set with one number stands for the location with that number
pub stands_alone : (set k : ℕ) (x l : Location ℕ) → ((j : ℕ) → has_number set j ≡ nat_eq j k) → number_of x ≡ Some k
    → stands_for (node_at x) (facet.Near set) l ≡ same_location l x
stands_alone set k x l alone is = same_test _ _
    (λ h.
    let (near, at) = both _ _ h in
    let (j, number, there) = near_number set l near in
    let same = eqb-true j k (sym (alone j) ∙ there) in
    let it = same_number l x k (eqb-true _ _ at) (number ∙ ap Some same) is in
    subst (λ m. same_location m x ≡ true) (sym it) (same_location-itself x))
    (λ h.
    let it = same_location-is l x h in
    subst (λ m. stands_for (node_at x) (facet.Near set) m ≡ true) (sym it)
    (and_from _ _ (near_at set k x is ∙ alone k ∙ eq-eqb k k refl) (eq-eqb (node_at x) (node_at x) refl)))

-- the number alone, as a set
pub power_alone : (k j : ℕ) → has_number (2 ^ k) j ≡ nat_eq j k
power_alone k j = elim (cases_eq j k) [
  | inl same ↦ ap (has_number (2 ^ k)) same ∙ eq-eqb _ 1 (bit_at-pow_same k) ∙ sym (eq-eqb j k same)
  | inr apart ↦ ap (λ b. nat_eq b 1) (bit_at-pow_other k j apart) ∙ sym (ne_eqb j k apart)
]

pub shifted_alone : (k j : ℕ) → k < 32 → has_number (1 * 2 ^ k % 2 ^ 32) j ≡ nat_eq j k
shifted_alone k j less = ap (λ s. has_number s j) (one_shl k 32 less) ∙ power_alone k j

either_bit : (a b : ℕ) → a < 2 → b < 2 → nat_eq (max a b) 1 ≡ (nat_eq a 1 || nat_eq b 1)
either_bit zero zero p q = refl
either_bit zero (suc zero) p q = refl
either_bit (suc zero) zero p q = refl
either_bit (suc zero) (suc zero) p q = refl
either_bit (suc (suc a)) b p q = absurd (omega (arith, p))
either_bit zero (suc (suc b)) p q = absurd (omega (arith, q))
either_bit (suc zero) (suc (suc b)) p q = absurd (omega (arith, q))

has_or : (a b k : ℕ) → has_number (bit_or a b) k ≡ (has_number a k || has_number b k)
has_or a b k = ap (λ s. nat_eq s 1) (bit_at_or a b k) ∙ either_bit (bit_at a k) (bit_at b k) (bit_at-lt a k) (bit_at-lt b k)

near_or : (a b : ℕ) (l : Location ℕ) → is_near (bit_or a b) l ≡ (is_near a l || is_near b l)
near_or a b l = by (number_of l)
  where
    by : (o : Option ℕ) → elim o as (λ _. Bool) [ None ↦ false | Some k ↦ has_number (bit_or a b) k ]
        ≡ (elim o as (λ _. Bool) [ None ↦ false | Some k ↦ has_number a k ] || elim o as (λ _. Bool) [ None ↦ false | Some k ↦ has_number b k ])
    by None = refl
    by (Some k) = has_or a b k

both_on : (a b c : Bool) → ((a || b) && c) ≡ (a && c || b && c)
both_on true b true = refl
both_on true true false = refl
both_on true false false = refl
both_on false b c = refl

-- both sets in one
pub stands_with : (a b n : ℕ) (l : Location ℕ) → stands_for n (facet.Near (bit_or a b)) l
    ≡ (stands_for n (facet.Near a) l || stands_for n (facet.Near b) l)
stands_with a b n l = ap (λ s. s && nat_eq (node_at l) n) (near_or a b l) ∙ both_on (is_near a l) (is_near b l) (nat_eq (node_at l) n)

-- a set has no number that is too great for it
pub none_past : (set number k : ℕ) → set < 2 ^ number → number ≤ k → has_number set k ≡ false
none_past set number k small more = ap (λ b. nat_eq b 1) (bit_at_above set number k small more)

below_power : (set k : ℕ) → set / 2 ^ k ≡ 0 → set < 2 ^ k
below_power set k none =
    let split = div-add-mod' set (2 ^ k) in
    let rest = mod-lt set (pow_pos k) in
    omega (arith, ap (λ q. q * 2 ^ k) none, split, rest)

-- where nothing is left from a number on, the set has none from there on
pub none_from : (set number k : ℕ) → set / 2 ^ number ≡ 0 → number ≤ k → has_number set k ≡ false
none_from set number k none more = none_past set number k (below_power set number none) more

-- what a facet stands for is of its node
pub stands_at : (n : ℕ) (f : Facet) (l : Location ℕ) → stands_for n f l ≡ true → node_at l ≡ n
stands_at n (facet.Near set) l h = eqb-true (node_at l) n (both _ _ h).1
stands_at n (facet.Tok part) l h = ap node_at (same_location-is l (Tok n part) h)
stands_at n (facet.Slot part) l h = ap node_at (same_location-is l (Slot n part) h)
stands_at n facet.Idx l h = ap node_at (same_location-is l (Idx n) h)

-- it is an index where the facet is that
pub stands_index : (n : ℕ) (f : Facet) (l : Location ℕ) → stands_for n f l ≡ true → is_index l ≡ is_of_index f
stands_index n (facet.Near set) l h = by l (both _ _ h).0
  where
    by : (m : Location ℕ) → is_near set m ≡ true → is_index m ≡ false
    by (Is k) near = refl
    by (Up k) near = refl
    by (Tok k part) near = refl
    by (Slot k part) near = refl
    by (Idx k) near = absurd (true≢false (sym near))
    by (Drawer k part key mark) near = refl
stands_index n (facet.Tok part) l h = ap is_index (same_location-is l (Tok n part) h)
stands_index n (facet.Slot part) l h = ap is_index (same_location-is l (Slot n part) h)
stands_index n facet.Idx l h = ap is_index (same_location-is l (Idx n) h)

pub index_stands : (n : ℕ) (f : Facet) → is_of_index f ≡ true → stands_for n f (Idx n) ≡ true
index_stands n (facet.Near set) h = absurd (true≢false (sym h))
index_stands n (facet.Tok part) h = absurd (true≢false (sym h))
index_stands n (facet.Slot part) h = absurd (true≢false (sym h))
index_stands n facet.Idx h = same_location-itself (Idx n)

pub not_other : (a b : ℕ) → false ≡ not (nat_eq a b) → a ≡ b
not_other a b h = by (nat_eq a b) refl h
  where
    by : (t : Bool) → nat_eq a b ≡ t → false ≡ not t → a ≡ b
    by true is g = eqb-true a b is
    by false is g = absurd (true≢false (sym g))

-- the facet stands for the first of the locations
pub first_alone : (n : ℕ) (l : Location ℕ) (ls : List (Location ℕ)) (f : Facet) → ((k : Location ℕ) → stands_for n f k ≡ same_location k l)
    → IsFirst (l ∷ ls) n f ls
first_alone n l ls f alone = record {
  from = λ k h. subst (Contains (l ∷ ls)) (sym (is k h)) (head_of l ls);
  all = λ k c. elim (Contains-cons_cases l k ls c) [
    | inl same ↦ inl (subst (λ m. stands_for n f m ≡ true) same (alone l ∙ same_location-itself l))
    | inr d ↦ inr d
  ];
  rest = λ k c. Contains-cons l k ls c;
  fewer = omega arith;
  index = λ m h. ap Some (sym (is (Idx m) h));
}
  where
    is : (k : Location ℕ) → stands_for n f k ≡ true → k ≡ l
    is k h = same_location-is k l (sym (alone k) ∙ h)

-- and for the next one, too
pub first_wider : (n : ℕ) (locations : List (Location ℕ)) (f g h : Facet) (l : Location ℕ) (left : List (Location ℕ))
    → ((k : Location ℕ) → stands_for n g k ≡ same_location k l)
    → ((k : Location ℕ) → stands_for n h k ≡ (stands_for n f k || stands_for n g k)) → is_of_index h ≡ false
    → IsFirst locations n f (l ∷ left) → IsFirst locations n h left
first_wider n locations f g h l left alone with near first = record {
  from = λ k on. elim (or_cases _ _ (sym (with k) ∙ on)) [
    | inl before ↦ first.from k before
    | inr next ↦ first.rest k (subst (Contains (l ∷ left)) (sym (same_location-is k l (sym (alone k) ∙ next))) (head_of l left))
  ];
  all = λ k c. elim (first.all k c) [
    | inl before ↦ inl (with k ∙ or_left _ _ before)
    | inr d ↦ elim (Contains-cons_cases l k left d) [
      | inl same ↦ inl (with k ∙ or_right (stands_for n f k) _
          (subst (λ m. stands_for n g m ≡ true) same (alone l ∙ same_location-itself l)))
      | inr e ↦ inr e
    ]
  ];
  rest = λ k c. first.rest k (Contains-cons l k left c);
  fewer = let less = first.fewer in omega (arith, less);
  index = λ m on. absurd (true≢false (stands_index n h (Idx m) on ∙ near));
}

-- the first of the locations that are left
pub first_of : (n : ℕ) (x : Loc) (xs ys : List Loc) {f : Facet} {left : List (Location ℕ)} → n ≡ node_at (loc_view x)
    → xs ≡ x ∷ ys → IsFirst (loc_view x ∷ map loc_view ys) (node_at (loc_view x)) f left
    → IsFirst (map loc_view xs) n f left
first_of n x xs ys {f} {left} at is first =
    subst (λ k. IsFirst (map loc_view xs) k f left) (sym at)
    (subst (λ (zs : List Loc). IsFirst (map loc_view zs) (node_at (loc_view x)) f left) (sym is) first)

pub index_is_first : (n : ℕ) (x : Loc) (ys : List Loc) {f : Facet} {left : List (Location ℕ)}
    → n ≡ node_at (loc_view x) → IsFirst (loc_view x ∷ map loc_view ys) (node_at (loc_view x)) f left
    → (m : ℕ) → stands_for n f (Idx m) ≡ true → loc_view x ≡ Idx m
index_is_first n x ys {f} at first m h =
    same_Some _ _ (first.index m (subst (λ k. stands_for k f (Idx m) ≡ true) at h))
