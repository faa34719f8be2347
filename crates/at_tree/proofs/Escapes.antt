-- The escapes of a quoted text, character by character.
use Rattle.std.proofs.Common.{◌≡◌, ℕ, ◌+◌, ◌<◌, ◌≤◌, Bool, true, false, ◌||◌, ◌==◌, nat_le, nat_lt, List, [], ◌∷◌, Option, Some, None, refl, ap, lit<, arith}
use Rattle.std.specs.Prelude.{encode_utf8, ◌/◌, ◌%◌}
use Rattle.std.specs.List.{flat_map, list_all}
use Rattle.std.proofs.Math.Utf8.{scalar}
use Rattle.std.proofs.lemmas.Bool.Decides.{nat_tests}
use Rattle.std.proofs.lemmas.Str.{encode_ascii}
use lib.Utf8.{encode, low_scalar}
use Rattle.at_model.specs.Texts.{escaped}
use Rattle.at_model.proofs.Options.{both}
use Rattle.at_tree.specs.Partial.{unescaped}
use Rattle.at_tree.proofs.Pieces.{same, other, choose}

-- the bytes of a character of more than one
abbrev high : List ℕ → Bool
high bs = list_all (λ b. nat_le 128 b) bs

above : (a x : ℕ) → 128 ≤ a → nat_le 128 (a + x) ≡ true
above a x h = grind (arith, nat_tests)

encode_high : (c : ℕ) → 128 ≤ c → high (encode_utf8 c) ≡ true
unfolding encode
encode_high c h =
    choose (λ bs. high bs ≡ true) (nat_lt c 128) _ _ (λ e. let l : c < 128 = grind (arith, nat_tests) in absurd (omega arith))
    (λ _. choose (λ bs. high bs ≡ true) (nat_lt c 2048) _ _ (λ _. rw (above 192 (c / 64) (omega arith), above 128 (c % 64) (omega arith)) refl)
    (λ _. choose (λ bs. high bs ≡ true) (nat_lt c 65536) _ _ (λ _. rw (above 224 (c / 4096) (omega arith), above 128 (c / 64 % 64) (omega arith), above 128 (c % 64) (omega arith)) refl)
    (λ _. rw (above 240 (c / 262144) (omega arith), above 128 (c / 4096 % 64) (omega arith), above 128 (c / 64 % 64) (omega arith), above 128 (c % 64) (omega arith)) refl)))

high_plain : (bs : List ℕ) → high bs ≡ true → flat_map escaped bs ≡ bs
high_plain [] e = refl
high_plain (b ∷ bs) e =
    let f = both (nat_le 128 b) _ e in
    let h : 128 ≤ b = grind (arith, nat_tests, f.0) in
    rw (other b 34 (λ s. omega arith), other b 92 (λ s. omega arith), other b 10 (λ s. omega arith), other b 9 (λ s. omega arith)) (ap (λ y. b ∷ y) (high_plain bs f.1))

-- a character without an escape
pub plain_text : (c : ℕ) → (c == 34) ≡ false → (c == 92) ≡ false → (c == 10) ≡ false → (c == 9) ≡ false → flat_map escaped (encode_utf8 c) ≡ encode_utf8 c
plain_text c q b n t = decide (nat_le 128 c) refl
  where
    decide : (r : Bool) → nat_le 128 c ≡ r → flat_map escaped (encode_utf8 c) ≡ encode_utf8 c
    decide true e = let h : 128 ≤ c = grind (arith, nat_tests) in high_plain (encode_utf8 c) (encode_high c h)
    decide false e = let h : c < 128 = grind (arith, nat_tests) in rw (encode_ascii c h, q, b, n, t) refl

-- a character behind a backslash
abbrev Stands : ℕ → Option ℕ → Type 0
Stands c None = Unit {0}
Stands c (Some d) = (scalar d ≡ true) × (flat_map escaped (encode_utf8 d) ≡ 92 ∷ encode_utf8 c)

stands : (c d : ℕ) → d < 128 → c < 128 → escaped d ≡ 92 ∷ c ∷ [] → Stands c (Some d)
stands c d h l e = (low_scalar d (omega arith), rw (encode_ascii d h, encode_ascii c l, e) refl)

abbrev Gives : ℕ → Option ℕ → Type 0
Gives c o = (d : ℕ) → o ≡ Some d → Stands c (Some d)

named : (c a d : ℕ) → (c == a) ≡ true → a < 128 → d < 128 → escaped d ≡ 92 ∷ a ∷ [] → Stands c (Some d)
named c a d t l h e = let s : c ≡ a = same c a t in rw s (stands a d h l e)

kept : (c : ℕ) (b : Bool) → (c == 34) ≡ b → (b || (c == 92)) ≡ true → Stands c (Some c)
kept c true e t = let s : c ≡ 34 = same c 34 e in rw s (stands 34 34 (lit< tt) (lit< tt) refl)
kept c false e t = let s : c ≡ 92 = same c 92 t in rw s (stands 92 92 (lit< tt) (lit< tt) refl)

pub unescaped_text : (c d : ℕ) → unescaped c ≡ Some d → (scalar d ≡ true) × (flat_map escaped (encode_utf8 d) ≡ 92 ∷ encode_utf8 c)
unescaped_text c d e =
    choose (Gives c) ((c == 34) || (c == 92)) _ _
    (λ t d f. let is : c ≡ d = cc in rw (← is) (kept c (c == 34) refl t))
    (λ _. choose (Gives c) (c == 110) _ _ (λ t d f. let is : 10 ≡ d = cc in rw (← is) (named c 110 10 t (lit< tt) (lit< tt) refl))
    (λ _. choose (Gives c) (c == 116) _ _ (λ t d f. let is : 9 ≡ d = cc in rw (← is) (named c 116 9 t (lit< tt) (lit< tt) refl))
    (λ _ d f. cc))) d e
