-- What stands between quotes is taken apart in one way.
use Rattle.std.proofs.Common.{◌≡◌, ℕ, Bool, true, false, ◌==◌, cond, List, [], ◌∷◌, ◌++◌, refl, sym, ap, ◌∙◌, arith, append_assoc}
use Rattle.std.specs.List.{flat_map}
use Rattle.std.proofs.lemmas.Bool.Decides.{nat_tests}
use Rattle.at_model.specs.Texts.{escaped, quoted}

-- what stands at the front: the closing quote, a byte as it is spelled, or neither
pub data Front : Type 0 where
  Closing : List ℕ → Front
  Spelled : (byte : ℕ) → List ℕ → Front
  Neither : Front

abbrev letter : ℕ → List ℕ → Front
letter y rest = cond (y == 34) (Spelled 34 rest) (cond (y == 92) (Spelled 92 rest) (cond (y == 110) (Spelled 10 rest) (cond (y == 116) (Spelled 9 rest) Neither)))

abbrev behind : List ℕ → Front
behind [] = Neither
behind (y ∷ rest) = letter y rest

abbrev pub front : List ℕ → Front
front [] = Neither
front (b ∷ rest) = cond (b == 34) (Closing rest) (cond (b == 92) (behind rest) (cond (b == 10) Neither (cond (b == 9) Neither (Spelled b rest))))

pub front_escaped : (b : ℕ) (z : List ℕ) → front (escaped b ++ z) ≡ Spelled b z
front_escaped b z = by_tests (b == 34) (b == 92) (b == 10) (b == 9) refl refl refl refl
  where
    by_tests : (p q r s : Bool) → (b == 34) ≡ p → (b == 92) ≡ q → (b == 10) ≡ r → (b == 9) ≡ s → front (escaped b ++ z) ≡ Spelled b z
    by_tests true q r s e f g h = let is : b ≡ 34 = grind (arith, nat_tests) in rw is refl
    by_tests false true r s e f g h = let is : b ≡ 92 = grind (arith, nat_tests) in rw is refl
    by_tests false false true s e f g h = let is : b ≡ 10 = grind (arith, nat_tests) in rw is refl
    by_tests false false false true e f g h = let is : b ≡ 9 = grind (arith, nat_tests) in rw is refl
    by_tests false false false false e f g h = rw (e, f, g, h) (rw (e, f, g, h) refl)

pub front_more : (b : ℕ) (bs z : List ℕ) → front (flat_map escaped (b ∷ bs) ++ z) ≡ Spelled b (flat_map escaped bs ++ z)
front_more b bs z = rw append_assoc (front_escaped b _)

pub same_inside : (a b x y : List ℕ) → flat_map escaped a ++ 34 ∷ x ≡ flat_map escaped b ++ 34 ∷ y → (a ≡ b) × (x ≡ y)
same_inside [] [] x y e = (refl, (cc))
same_inside [] (d ∷ ds) x y e = let f : Closing x ≡ Spelled d _ = ap front e ∙ front_more d ds (34 ∷ y) in absurd (cc)
same_inside (c ∷ cs) [] x y e = let f : Spelled c _ ≡ Closing y = sym (front_more c cs (34 ∷ x)) ∙ ap front e in absurd (cc)
same_inside (c ∷ cs) (d ∷ ds) x y e =
    let same = sym (front_more c cs (34 ∷ x)) ∙ ap front e ∙ front_more d ds (34 ∷ y) in
    let rest = same_inside cs ds x y (cc) in
    ((cc), rest.1)

-- the same texts, and the same behind them
pub same_quoted : (a b r s : List ℕ) → quoted a ++ r ≡ quoted b ++ s → (a ≡ b) × (r ≡ s)
same_quoted a b r s e =
    let inside : (flat_map escaped a ++ 34 ∷ []) ++ r ≡ (flat_map escaped b ++ 34 ∷ []) ++ s = cc in
    same_inside a b r s (sym (append_assoc (flat_map escaped a) (34 ∷ []) r) ∙ inside ∙ append_assoc (flat_map escaped b) (34 ∷ []) s)
