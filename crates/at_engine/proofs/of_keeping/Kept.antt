-- The front of a line.
use Rattle.std.proofs.Common.{◌≡◌, ℕ, ◌+◌, ◌≤◌, ◌<◌, ◌⊎◌, List, [], ◌∷◌, ◌++◌, length, take, refl, sym, ap, ◌∙◌, arith, inl, inr, true, lit<}
use Rattle.std.proofs.lemmas.List.{take_all, take-append-le, length-take}
use Rattle.std.proofs.Math.Seq.{take-append-add}
use Rattle.std.proofs.lemmas.Bool.{cases_lt}
use Rattle.at_model.specs.Lines.{is_filled}
use Rattle.at_engine.specs.Loop.{kept}

-- a line that is short enough is kept whole
pub kept-short : (xs : List ℕ) → length xs ≤ 65536 → kept xs ≡ xs
unfolding kept
kept-short xs h = take_all 65536 xs h

-- more bytes change nothing where the front is full
kept-full : (xs ys : List ℕ) → 65536 ≤ length xs → kept (xs ++ ys) ≡ kept xs
unfolding kept
kept-full xs ys h = take-append-le 65536 xs ys h

-- as many of them are kept as there is room for
pub kept-room : (xs ys : List ℕ) (room : ℕ) → length xs + room ≡ 65536 → kept (xs ++ ys) ≡ xs ++ take room ys
unfolding kept
kept-room xs ys room is = ap (λ n. take n (xs ++ ys)) (sym is) ∙ take-append-add xs ys room

pub length-kept : (xs : List ℕ) → 65536 ≤ length xs → length (kept xs) ≡ 65536
unfolding kept
length-kept xs h = omega (arith, length-take 65536 xs)

pub length-kept-le : (xs : List ℕ) → length (kept xs) ≤ 65536
unfolding kept
length-kept-le xs = omega (arith, length-take 65536 xs)

kept_more_by : (xs ys : List ℕ) → (length xs < 65536) ⊎ (65536 ≤ length xs) → kept (kept xs ++ ys) ≡ kept (xs ++ ys)
kept_more_by xs ys (inl h) = let short : length xs ≤ 65536 = omega arith in ap (λ l. kept (l ++ ys)) (kept-short xs short)
kept_more_by xs ys (inr h) =
    let full : 65536 ≤ length (kept xs) = omega (arith, length-kept xs h) in
    let short : length (kept xs) ≤ 65536 = length-kept-le xs in
    kept-full (kept xs) ys full ∙ kept-short (kept xs) short ∙ sym (kept-full xs ys h)

-- what is kept of a line goes on as the line does
pub kept-more : (xs ys : List ℕ) → kept (kept xs ++ ys) ≡ kept (xs ++ ys)
kept-more xs ys = kept_more_by xs ys (cases_lt (length xs) 65536)

pub kept-nil : kept [] ≡ []
unfolding kept
kept-nil = refl

something_taken : (n : ℕ) (xs : List ℕ) → 0 < length (take n xs) → is_filled xs ≡ true
something_taken n [] h = absurd (omega (arith, length-take n (let none : List ℕ = [] in none)))
something_taken n (x ∷ xs) h = refl

nothing_taken : (n : ℕ) (xs : List ℕ) → 0 < n → length (take n xs) ≤ 0 → xs ≡ []
nothing_taken n [] p h = refl
nothing_taken n (x ∷ xs) p h = absurd (omega (arith, length-take n (x ∷ xs)))

-- what is kept of a line that isn't empty isn't empty
pub filled_as_kept : (xs : List ℕ) → 0 < length (kept xs) → is_filled xs ≡ true
unfolding kept
filled_as_kept xs h = something_taken 65536 xs h

-- a line of which nothing is kept is empty
pub empty_as_kept : (xs : List ℕ) → length (kept xs) ≤ 0 → xs ≡ []
unfolding kept
empty_as_kept xs h = nothing_taken 65536 xs (lit< tt) h
