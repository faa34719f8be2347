-- How bytes are cut into lines.
use Rattle.std.proofs.Common.{◌≡◌, ◌≢◌, ℕ, Bool, true, false, ◌==◌, if◌then◌else◌, List, [], ◌∷◌, ◌++◌, refl, ap, ◌∙◌, filter, arith}
use Rattle.std.specs.List.{All, AllByRecursion}
use Rattle.std.proofs.lemmas.List.Elements.{recursion_from_All, filter-append}
use Rattle.std.proofs.lemmas.Bool.Decides.{nat_tests}
use Rattle.at_model.specs.Lines.{pieces, onto_first, is_filled, lines}

pub data IsFilled : List (List ℕ) → Type 0 where
  filled : (p : List ℕ) (ps : List (List ℕ)) → IsFilled (p ∷ ps)

onto_filled : (b : ℕ) (ps : List (List ℕ)) → IsFilled (onto_first b ps)
onto_filled b [] = filled _ _
onto_filled b (p ∷ ps) = filled _ _

filled_if : (t : Bool) (ps qs : List (List ℕ)) → IsFilled ps → IsFilled qs → IsFilled (if t then ps else qs)
filled_if true ps qs h k = h
filled_if false ps qs h k = k

-- there is always a piece
pieces_filled : (bs : List ℕ) → IsFilled (pieces bs)
pieces_filled [] = filled _ _
pieces_filled (b ∷ bs) = filled_if (b == 10) _ _ (filled _ _) (onto_filled b (pieces bs))

onto_append : (b : ℕ) (ps qs : List (List ℕ)) → IsFilled ps → onto_first b (ps ++ qs) ≡ onto_first b ps ++ qs
onto_append b ps qs (filled p rest) = refl

if_append : (t : Bool) (b : ℕ) (ps qs rs : List (List ℕ)) → IsFilled ps → rs ≡ ps ++ qs → (if t then [] ∷ rs else onto_first b rs) ≡ (if t then [] ∷ ps else onto_first b ps) ++ qs
if_append true b ps qs rs h e = ap (λ xs. [] ∷ xs) e
if_append false b ps qs rs h e = ap (onto_first b) e ∙ onto_append b ps qs h

pub pieces-newline : (a b : List ℕ) → pieces (a ++ 10 ∷ b) ≡ pieces a ++ pieces b
pieces-newline [] b = refl
pieces-newline (c ∷ a) b = if_append (c == 10) c (pieces a) (pieces b) (pieces (a ++ 10 ∷ b)) (pieces_filled a) (pieces-newline a b)

pub lines-newline : (a b : List ℕ) → lines (a ++ 10 ∷ b) ≡ lines a ++ lines b
lines-newline a b = ap (filter is_filled) (pieces-newline a b) ∙ filter-append is_filled (pieces a) (pieces b)

if_false : {A : Type 0} (t : Bool) (x y : A) → t ≡ false → (if t then x else y) ≡ y
if_false true x y e = absurd cc
if_false false x y e = refl

pieces_of_one : (bs : List ℕ) → AllByRecursion (λ b. b ≢ 10) bs → pieces bs ≡ bs ∷ []
pieces_of_one [] h = refl
pieces_of_one (b ∷ bs) (here, rest) = if_false (b == 10) _ _ (grind (arith, nat_tests)) ∙ ap (onto_first b) (pieces_of_one bs rest)

pub lines_of_one : (bs : List ℕ) → All (λ b. b ≢ 10) bs → lines bs ≡ filter is_filled (bs ∷ [])
lines_of_one bs h = ap (filter is_filled) (pieces_of_one bs (recursion_from_All (λ b. b ≢ 10) bs h))
