-- Where a text is cut at the first byte of a kind.
use Rattle.std.proofs.Common.{◌≡◌, ◌≢◌, ℕ, ◌+◌, ◌<◌, true, ◌==◌, List, ◌∷◌, ◌++◌, length, take, drop, suc, Option, Some, None, ap, sym, ◌∙◌, subst, arith}
use Rattle.std.specs.Prelude.{IsUtf8, MatchOption}
use Rattle.std.specs.List.{slice_index}
use Rattle.std.specs.Str.{IsCharBoundary}
use Rattle.std.proofs.lemmas.Bool.{eqb-true}
use Rattle.std.proofs.lemmas.Bool.Decides.{nat_tests}
use Rattle.std.proofs.lemmas.List.{get_or-take, length-take, take-append-drop}
use Rattle.std.proofs.lemmas.Str.{IsCharBoundary-before_ascii, IsCharBoundary-after_ascii}
use Rattle.std.proofs.Math.Seq.{drop-cons}
use Rattle.memchr.specs.Find.{IsFirstByte, is_byte}
use Rattle.at_protocol.specs.Words.{HasNoSpace}

-- the byte stands nowhere before this position
abbrev pub NoneBefore : ℕ → List ℕ → ℕ → Type 0
NoneBefore d text n = (i : ℕ) → i < n → slice_index text i ≢ d

-- a text may be cut behind such a byte of ASCII
pub behind_sign : (d : ℕ) (text : List ℕ) (n : ℕ) → IsUtf8 text → d < 128 → n < length text → slice_index text n ≡ d → IsCharBoundary text (n + 1)
behind_sign d text n u low less is = IsCharBoundary-after_ascii text n u less (omega (arith, low, is))

-- the first space of a text stands at this position
abbrev pub IsSpaceAt : List ℕ → ℕ → Type 0
IsSpaceAt text at = (at < length text) × (slice_index text at ≡ 32) × ((i : ℕ) → i < at → slice_index text i ≢ 32)

is_tested : (b : ℕ) → b ≡ 32 → (b == 32) ≡ true
is_tested b is = grind (arith, nat_tests, is)

-- what a search of bytes tells
pub space_found : (bytes : List ℕ) (r : Option ℕ) → IsFirstByte (is_byte 32) bytes r → MatchOption r (HasNoSpace bytes) (IsSpaceAt bytes)
space_found bytes None none = λ i less is. none i (omega arith) less (is_tested (slice_index bytes i) is)
space_found bytes (Some at) (before, there) =
    let space : slice_index bytes at ≡ 32 = eqb-true (slice_index bytes at) 32 there in
    (before.high, space, λ i less is. before.before i (omega arith) less (is_tested (slice_index bytes i) is))

pub before_space : (text : List ℕ) (at : ℕ) → IsSpaceAt text at → IsCharBoundary text at
before_space text at (less, space, none) = IsCharBoundary-before_ascii text at less (omega (arith, space))

pub behind_space : (text : List ℕ) (at : ℕ) → IsUtf8 text → IsSpaceAt text at → IsCharBoundary text (at + 1)
behind_space text at u (less, space, none) = IsCharBoundary-after_ascii text at u less (omega (arith, space))

pub cut_there : (text : List ℕ) (at : ℕ) (front rest : List ℕ) → IsSpaceAt text at → front ≡ take at text → rest ≡ drop (at + 1) text → (text ≡ front ++ 32 ∷ rest) × HasNoSpace front
cut_there text at front rest (less, space, none) is_front is_rest =
    let next : suc at ≡ at + 1 = omega arith in
    let behind : drop at text ≡ 32 ∷ rest = drop-cons text at 0 less ∙ ap (λ b. b ∷ drop (suc at) text) space ∙ ap (λ n. 32 ∷ drop n text) next ∙ ap (λ ys. 32 ∷ ys) (sym is_rest) in (
      sym (take-append-drop at text) ∙ ap (λ ys. ys ++ drop at text) (sym is_front) ∙ ap (λ ys. front ++ ys) behind,
      subst HasNoSpace (sym is_front) (λ i l is. let below : i < at = omega (arith, length-take at text, l) in none i below (sym (get_or-take at text i 0 below) ∙ is)),
    )
