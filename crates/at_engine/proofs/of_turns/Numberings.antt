-- Questions whose numbers increase: each is found by its number alone.
use Rattle.std.proofs.Common.{◌≡◌, ℕ, ◌+◌, ◌<◌, ◌≤◌, Bool, false, not, cond, nat_eq, List, [], ◌∷◌, ◌++◌, map, filter, find, Some, None, refl, sym, ap, ◌∙◌, subst, arith}
use Rattle.std.proofs.lemmas.Bool.{eq-eqb, ne_eqb}
use Rattle.at_model.specs.Enduring.{AreNumbered}
use Rattle.at_model.specs.Machine.{Posted, counted}

-- the numbers above are others
apart : (n : ℕ) (x : Posted) (least : ℕ) → least < x.number → n ≤ least → nat_eq n x.number ≡ false
apart n x least lt le = ne_eqb n x.number (λ same. omega (arith, same, lt, le))

pub none_found : (n : ℕ) (qs : List Posted) (least greatest : ℕ) → AreNumbered least qs greatest → n ≤ least → find (λ (x : Posted). nat_eq n x.number) qs ≡ None
none_found n [] least greatest h le = refl
none_found n (x ∷ qs) least greatest h le = ap (λ (b : Bool). cond b (Some x) (find (λ (y : Posted). nat_eq n y.number) qs)) (apart n x least h.0 le) ∙ none_found n qs x.number greatest h.1 (omega (arith, h.0, le))

pub none_counted : (n : ℕ) (qs : List Posted) (least greatest : ℕ) → AreNumbered least qs greatest → n ≤ least → map (counted n) qs ≡ qs
none_counted n [] least greatest h le = refl
none_counted n (x ∷ qs) least greatest h le =
    ap (λ (b : Bool). cond b (record x { turns = x.turns + 1 }) x ∷ map (counted n) qs) (apart n x least h.0 le)
    ∙ ap (λ l. x ∷ l) (none_counted n qs x.number greatest h.1 (omega (arith, h.0, le)))

none_filtered : (n : ℕ) (qs : List Posted) (least greatest : ℕ) → AreNumbered least qs greatest → n ≤ least → filter (λ (x : Posted). not (nat_eq n x.number)) qs ≡ qs
none_filtered n [] least greatest h le = refl
none_filtered n (x ∷ qs) least greatest h le =
    ap (λ (b : Bool). cond (not b) (x ∷ filter (λ (y : Posted). not (nat_eq n y.number)) qs) (filter (λ (y : Posted). not (nat_eq n y.number)) qs)) (apart n x least h.0 le)
    ∙ ap (λ l. x ∷ l) (none_filtered n qs x.number greatest h.1 (omega (arith, h.0, le)))

-- those before have other numbers
above : (front : List Posted) (q : Posted) (back : List Posted) (least greatest : ℕ) → AreNumbered least (front ++ q ∷ back) greatest → least < q.number
above [] q back least greatest h = h.0
above (x ∷ front) q back least greatest h = omega (arith, h.0, above front q back x.number greatest h.1)

before : (x : Posted) (front : List Posted) (q : Posted) (back : List Posted) (least greatest : ℕ) → AreNumbered least (x ∷ (front ++ q ∷ back)) greatest → nat_eq q.number x.number ≡ false
before x front q back least greatest h = ne_eqb q.number x.number (λ same. omega (arith, same, above front q back x.number greatest h.1))

pub found_there : (front : List Posted) (q : Posted) (back : List Posted) (least greatest : ℕ) → AreNumbered least (front ++ q ∷ back) greatest → find (λ (x : Posted). nat_eq q.number x.number) (front ++ q ∷ back) ≡ Some q
found_there [] q back least greatest h = ap (λ (b : Bool). cond b (Some q) (find (λ (x : Posted). nat_eq q.number x.number) back)) (eq-eqb q.number q.number refl)
found_there (x ∷ front) q back least greatest h =
    ap (λ (b : Bool). cond b (Some x) (find (λ (y : Posted). nat_eq q.number y.number) (front ++ q ∷ back))) (before x front q back least greatest h) ∙ found_there front q back x.number greatest h.1

pub counted_there : (front : List Posted) (q : Posted) (back : List Posted) (least greatest : ℕ) → AreNumbered least (front ++ q ∷ back) greatest → map (counted q.number) (front ++ q ∷ back) ≡ front ++ record q { turns = q.turns + 1 } ∷ back
counted_there [] q back least greatest h =
    ap (λ (b : Bool). cond b (record q { turns = q.turns + 1 }) q ∷ map (counted q.number) back) (eq-eqb q.number q.number refl)
    ∙ ap (λ l. record q { turns = q.turns + 1 } ∷ l) (none_counted q.number back q.number greatest h.1 (omega arith))
counted_there (x ∷ front) q back least greatest h =
    ap (λ (b : Bool). cond b (record x { turns = x.turns + 1 }) x ∷ map (counted q.number) (front ++ q ∷ back)) (before x front q back least greatest h)
    ∙ ap (λ l. x ∷ l) (counted_there front q back x.number greatest h.1)

pub left_there : (front : List Posted) (q : Posted) (back : List Posted) (least greatest : ℕ) → AreNumbered least (front ++ q ∷ back) greatest → filter (λ (x : Posted). not (nat_eq q.number x.number)) (front ++ q ∷ back) ≡ front ++ back
left_there [] q back least greatest h =
    ap (λ (b : Bool). cond (not b) (q ∷ filter (λ (x : Posted). not (nat_eq q.number x.number)) back) (filter (λ (x : Posted). not (nat_eq q.number x.number)) back)) (eq-eqb q.number q.number refl)
    ∙ none_filtered q.number back q.number greatest h.1 (omega arith)
left_there (x ∷ front) q back least greatest h =
    ap (λ (b : Bool). cond (not b) (x ∷ filter (λ (y : Posted). not (nat_eq q.number y.number)) (front ++ q ∷ back)) (filter (λ (y : Posted). not (nat_eq q.number y.number)) (front ++ q ∷ back))) (before x front q back least greatest h)
    ∙ ap (λ l. x ∷ l) (left_there front q back x.number greatest h.1)

-- numbers increase with one less, from a lesser number on, and with one more behind
weaker : (qs : List Posted) (less least greatest : ℕ) → less ≤ least → AreNumbered least qs greatest → AreNumbered less qs greatest
weaker [] less least greatest le h = omega (arith, le, h)
weaker (x ∷ qs) less least greatest le h = (omega (arith, le, h.0), h.1)

pub numbered_without : (front : List Posted) (q : Posted) (back : List Posted) (least greatest : ℕ) → AreNumbered least (front ++ q ∷ back) greatest → AreNumbered least (front ++ back) greatest
numbered_without [] q back least greatest h = weaker back least q.number greatest (omega (arith, h.0)) h.1
numbered_without (x ∷ front) q back least greatest h = (h.0, numbered_without front q back x.number greatest h.1)

pub numbered_put : (front : List Posted) (q r : Posted) (back : List Posted) (least greatest : ℕ) → r.number ≡ q.number → AreNumbered least (front ++ q ∷ back) greatest → AreNumbered least (front ++ r ∷ back) greatest
numbered_put [] q r back least greatest e h = (subst (λ n. least < n) (sym e) h.0, subst (λ n. AreNumbered n back greatest) (sym e) h.1)
numbered_put (x ∷ front) q r back least greatest e h = (h.0, numbered_put front q r back x.number greatest e h.1)

pub numbered_push : (qs : List Posted) (q : Posted) (least greatest : ℕ) → q.number ≡ greatest + 1 → AreNumbered least qs greatest → AreNumbered least (qs ++ q ∷ []) q.number
numbered_push [] q least greatest e h = (omega (arith, e, h), omega arith)
numbered_push (x ∷ qs) q least greatest e h = (h.0, numbered_push qs q x.number greatest e h.1)

-- what leaves the numbers leaves that they increase
pub numbered_map : (f : Posted → Posted) → ((q : Posted) → (f q).number ≡ q.number) → (qs : List Posted) (least greatest : ℕ) → AreNumbered least qs greatest → AreNumbered least (map f qs) greatest
numbered_map f same [] least greatest h = h
numbered_map f same (x ∷ qs) least greatest h =
    (subst (λ n. least < n) (sym (same x)) h.0, subst (λ n. AreNumbered n (map f qs) greatest) (sym (same x)) (numbered_map f same qs x.number greatest h.1))
