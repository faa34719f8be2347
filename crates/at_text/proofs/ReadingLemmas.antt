-- What has been read of a quoted text.
use Rattle.std.proofs.Common.{◌≡◌, ℕ, ◌-◌, ◌<◌, List, ◌∷◌, ◌++◌, length, Option, Some, None, arith, ap, sym, ◌∙◌, append_assoc, length-append, encode_utf8, suc, get_or}
use Rattle.std.specs.Str.Iter.{chars_rest, chars_steps}
use Rattle.std.specs.declared.str.Chars.{Chars}
use Rattle.std.specs.List.{flat_map}
use Rattle.std.proofs.lemmas.Str.{char_from_byte, length-encode, len_utf8_bounds}
use Rattle.at_model.specs.Texts.{escaped, quoted}
use Rattle.at_model.proofs.of_texts.QuotedTexts.{same_inside}
use Rattle.at_text.specs.Quoted.{Begins, EndsIn}
use Rattle.at_text.proofs.Spelling.{goes_on, length-spelled}

-- no opening quote
pub none_begins : (text : List ℕ) (s t : Chars) (first : Option ℕ) → chars_rest s ≡ text → chars_steps s first t → (first ≡ Some 34 → ⊥) → (value : List ℕ) → Begins text value → ⊥
none_begins text s t None is step other value (more, e) = let size : length (chars_rest s) ≡ suc _ = ap length (is ∙ e) in omega (arith, step.0.0)
none_begins text s t (Some c) is step other value (more, e) =
    let byte : get_or (chars_rest s) 0 0 ≡ 34 = ap (λ t. get_or t 0 0) (is ∙ e) in
    let size : length (chars_rest s) ≡ suc _ = ap length (is ∙ e) in
    other (ap Some (char_from_byte (chars_rest s) (chars_rest t) c step.0 (omega arith) (omega arith) ∙ byte))

-- an opening quote, and this value behind it
pub behind : (text inner value : List ℕ) → text ≡ 34 ∷ inner → Begins text value → EndsIn inner value
behind text inner value is (rest, e) =
    let both : 34 ∷ inner ≡ 34 ∷ (flat_map escaped value ++ 34 ∷ rest) = sym is ∙ e ∙ simp append_assoc in
    (rest, (cc))

-- what is left ends no value, so none began
pub none_ends : (text so_far rest : List ℕ) → text ≡ 34 ∷ (flat_map escaped so_far ++ rest) → ((value : List ℕ) → EndsIn rest value → ⊥) → (value : List ℕ) → Begins text value → ⊥
none_ends text so_far rest is none value begins =
    let more = goes_on so_far value rest (behind text _ value is begins) in
    none more.0 more.2

-- the closing quote is read
pub ended : (text value left rest : List ℕ) → text ≡ 34 ∷ (flat_map escaped value ++ left) → left ≡ 34 ∷ rest → text ≡ quoted value ++ rest
ended text value left rest is close = is ∙ rw close (simp append_assoc)

pub taken_len : (text value rest : List ℕ) → text ≡ quoted value ++ rest → length text - length rest ≡ length (quoted value)
taken_len text value rest is = omega (arith, ap length is, length-append (quoted value) rest)

-- no other value began
pub only_value : (text value rest other : List ℕ) → text ≡ quoted value ++ rest → Begins text other → value ≡ other
only_value text value rest other is (more, e) =
    let both : 34 ∷ (flat_map escaped value ++ 34 ∷ rest) ≡ 34 ∷ (flat_map escaped other ++ 34 ∷ more) = simp append_assoc at (sym is ∙ e) in
    (same_inside value other rest more (cc)).0

-- each character takes some of the text
pub less_left : (c : ℕ) (before after : List ℕ) → before ≡ flat_map escaped (encode_utf8 c) ++ after → length after < length before
less_left c before after is =
    omega (arith, ap length is, length-append (flat_map escaped (encode_utf8 c)) after, length-spelled (encode_utf8 c), length-encode c, len_utf8_bounds c)
