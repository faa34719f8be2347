-- What stands between quotes is taken apart in one way.
use Rattle.std.proofs.Common.{◌≡◌, ℕ, ◌<◌, ◌≤◌, length, length-append, List, [], ◌∷◌, ◌++◌, arith, refl, ap, sym, ◌∙◌}
use Rattle.std.specs.List.{flat_map}
use Rattle.at_model.specs.Texts.{escaped}
use Rattle.at_model.proofs.of_texts.QuotedTexts.{Closing, Spelled, Neither, front, front_escaped, front_more}
use Rattle.at_text.specs.Quoted.{EndsIn}

-- where neither stands at the front, no value is left
pub front_ends : (text value : List ℕ) → EndsIn text value → front text ≡ Neither → ⊥
front_ends text [] (rest, is) none = let e : front text ≡ Closing rest = ap front is in cc
front_ends text (b ∷ bs) (rest, is) none = let e : front text ≡ Spelled b _ = ap front is ∙ front_more b bs (34 ∷ rest) in cc

-- what stands before the closing quote goes on
pub goes_on : (a value text : List ℕ) → EndsIn (flat_map escaped a ++ text) value → (w : List ℕ) × (value ≡ a ++ w) × EndsIn text w
goes_on [] value text ends = (value, refl, ends)
goes_on (c ∷ cs) [] text (rest, e) = let f : Spelled c _ ≡ Closing rest = sym (front_more c cs text) ∙ ap front e in absurd (cc)
goes_on (c ∷ cs) (d ∷ ds) text (rest, e) =
    let same = sym (front_more c cs text) ∙ ap front e ∙ front_more d ds (34 ∷ rest) in
    let more = goes_on cs ds text (rest, (cc)) in
    let tail = more.1 in
    (more.0, (cc), more.2)

-- no spelling is shorter than its bytes
pub length-spelled : (bs : List ℕ) → length bs ≤ length (flat_map escaped bs)
length-spelled [] = omega arith
length-spelled (b ∷ bs) =
    let more = length-spelled bs in
    omega (arith, some (escaped b) (front_escaped b []), length-append (escaped b) (flat_map escaped bs), length-append (b ∷ []) bs)
  where
    some : (xs : List ℕ) → front (xs ++ []) ≡ Spelled b [] → 0 < length xs
    some [] e = absurd (cc)
    some (x ∷ xs) e = omega (arith, length-append (x ∷ []) xs)
