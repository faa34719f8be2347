-- The signs, the longer ones first.
use Rattle.std.proofs.Common.{◌≡◌, ℕ, zero, suc, ◌≤◌, ◌<◌, ◌≢◌, List, [], ◌∷◌, ◌++◌, length, get_or, Bool, true, false, ◌||◌, nat_lt, nat_le, refl, sym, ap, ◌∙◌, ltb-true, ltb-false, leb-true, eqb-true, arith, length-append, encode_utf8, codes, IsUtf8}
use Rattle.std.specs.List.{list_any, list_all}
use Rattle.std.specs.Prelude.{nat_eq, ◌&&◌}
use Rattle.std.proofs.lemmas.Str.{encode_ascii, encode_same, length-encode, len_utf8_bounds}
use Rattle.at_model.proofs.Options.{both}
use Rattle.std.specs.Str.{bytes_eq}
use Rattle.at_text.specs.Pieces.{is_sign, signs, IsLongestSign}
use Rattle.at_text.specs.Front.{BeginsNoSign, FitsNone, EndsSign, EndsLong, long_signs, is_second, is_short_sign}
use Rattle.at_text.proofs.Fronts.{clash}
use Rattle.at_text.proofs.Openings.{all_below, below, bytes_same}

abbrev pub sign_at : ℕ → List ℕ
sign_at k = get_or signs k []

abbrev is_sign_at : ℕ → Bool
is_sign_at k = is_sign (sign_at k)

each_is_sign : (k : ℕ) → k < 27 → is_sign (sign_at k) ≡ true
unfolding signs
each_is_sign k h = below 27 is_sign_at refl k h

abbrev in_order : ℕ → ℕ → Bool
in_order k j = nat_lt j k || nat_le (length (sign_at j)) (length (sign_at k))

abbrev none_longer : ℕ → Bool
none_longer k = all_below 27 (in_order k)

longer_first : (k j : ℕ) → k < 27 → j < 27 → k ≤ j → length (sign_at j) ≤ length (sign_at k)
unfolding signs
longer_first k j h l o =
    let all : none_longer k ≡ true = below 27 none_longer refl k h in
    let here : in_order k j ≡ true = below 27 (in_order k) all j l in
    decide (nat_lt j k) refl here
  where
    decide : (b : Bool) → nat_lt j k ≡ b → (b || nat_le (length (sign_at j)) (length (sign_at k))) ≡ true → length (sign_at j) ≤ length (sign_at k)
    decide true t e = absurd (omega (arith, ltb-true j k t, o))
    decide false t e = leb-true (length (sign_at j)) (length (sign_at k)) e

index_in : (xs : List (List ℕ)) (s : List ℕ) → list_any (bytes_eq s) xs ≡ true → (k : ℕ) × (k < length xs) × (get_or xs k [] ≡ s)
index_in [] s e = absurd (clash false e refl)
index_in (x ∷ xs) s e = decide (bytes_eq s x) refl (λ f. index_in xs s (ap (λ b. b || list_any (bytes_eq s) xs) (sym f) ∙ e))
  where
    decide : (b : Bool) → bytes_eq s x ≡ b → (bytes_eq s x ≡ false → (k : ℕ) × (k < length xs) × (get_or xs k [] ≡ s)) → (k : ℕ) × (k < length (x ∷ xs)) × (get_or (x ∷ xs) k [] ≡ s)
    decide true t others = (0, omega arith, sym (bytes_same s x t))
    decide false t others = let o = others t in (suc o.0, omega (arith, o.1), o.2)

index_of : (s : List ℕ) → is_sign s ≡ true → (k : ℕ) × (k < 27) × (sign_at k ≡ s)
unfolding signs
index_of s e = index_in signs s e

-- the first that fits is the longest
pub first_is_longest : (text after : List ℕ) (k : ℕ) → k < 27 → ((j : ℕ) (rest : List ℕ) → j < k → text ≢ sign_at j ++ rest) → IsLongestSign (sign_at k) text
first_is_longest text after k h none = (
  each_is_sign k h,
  λ other more is e.
      let i = index_of other is in
      let fits : text ≡ sign_at i.0 ++ more = e ∙ ap (λ l. l ++ more) (sym i.2) in
      let late : k ≤ i.0 = by_order i.0 k (λ less. none i.0 more less fits) in
      omega (arith, ap length i.2, longer_first k i.0 h i.1 late),
)
  where
    by_order : (i k : ℕ) → (i < k → ⊥) → k ≤ i
    by_order i k f = grind (arith, f)

-- signs of more than one character -----------------------------------------------------------------------------------------

same_long : (k : ℕ) → k < 7 → sign_at k ≡ get_or long_signs k []
unfolding signs
same_long zero h = refl
same_long (suc zero) h = refl
same_long (suc (suc zero)) h = refl
same_long (suc (suc (suc zero))) h = refl
same_long (suc (suc (suc (suc zero)))) h = refl
same_long (suc (suc (suc (suc (suc zero))))) h = refl
same_long (suc (suc (suc (suc (suc (suc zero)))))) h = refl
same_long (suc (suc (suc (suc (suc (suc (suc k))))))) h = absurd (omega (arith, h))

long_two : (k : ℕ) → k < 7 → (b : ℕ) × (c : ℕ) × (more : List ℕ) × (get_or long_signs k [] ≡ b ∷ c ∷ more) × (is_second c ≡ true)
long_two zero h = (58, 58, 61 ∷ [], refl, refl)
long_two (suc zero) h = (61, 61, [], refl, refl)
long_two (suc (suc zero)) h = (33, 61, [], refl, refl)
long_two (suc (suc (suc zero))) h = (60, 61, [], refl, refl)
long_two (suc (suc (suc (suc zero)))) h = (62, 61, [], refl, refl)
long_two (suc (suc (suc (suc (suc zero))))) h = (38, 38, [], refl, refl)
long_two (suc (suc (suc (suc (suc (suc zero)))))) h = (124, 124, [], refl, refl)
long_two (suc (suc (suc (suc (suc (suc (suc k))))))) h = absurd (omega (arith, h))

long_whole : (text rest : List ℕ) (k : ℕ) (h : k < 7) → text ≡ get_or long_signs k [] ++ rest → text ≡ (long_two k h).0 ∷ (long_two k h).1 ∷ ((long_two k h).2 ++ rest)
long_whole text rest k h e = e ∙ ap (λ s. s ++ rest) (long_two k h).3

pub long_found : (text after : List ℕ) → EndsLong text after → EndsSign text after
long_found text after (k, h, none, e, valid) = (
  sign_at k,
  e ∙ ap (λ s. s ++ after) (sym (same_long k h)),
  first_is_longest text after k (omega (arith, h)) (λ j rest less fits. none j rest less (fits ∙ ap (λ s. s ++ rest) (same_long j (omega (arith, h, less))))),
  valid,
)

-- signs of one character ----------------------------------------------------------------------------------------------------

abbrev is_alone : ℕ → Bool
is_alone x = nat_lt x 128 && is_sign (x ∷ [])

one_of : (c : ℕ) (xs : List ℕ) → list_all is_alone xs ≡ true → list_any (nat_eq c) xs ≡ true → is_alone c ≡ true
one_of c [] all any = absurd (clash false any refl)
one_of c (x ∷ xs) all any = let p = both (is_alone x) (list_all is_alone xs) all in decide (nat_eq c x) refl any p.0 (one_of c xs p.1)
  where
    decide : (b : Bool) → nat_eq c x ≡ b → (b || list_any (nat_eq c) xs) ≡ true → is_alone x ≡ true → (list_any (nat_eq c) xs ≡ true → is_alone c ≡ true) → is_alone c ≡ true
    decide true t rest here others = ap is_alone (eqb-true c x t) ∙ here
    decide false t rest here others = others rest

alone : (c : ℕ) → is_short_sign c ≡ true → is_alone c ≡ true
unfolding signs
alone c is = one_of c (codes ":;*[]<>/.(){},=!-+%?") refl is

short_is_sign : (c : ℕ) → is_short_sign c ≡ true → is_sign (encode_utf8 c) ≡ true
short_is_sign c is = let p = both (nat_lt c 128) (is_sign (c ∷ [])) (alone c is) in ap is_sign (encode_ascii c (ltb-true c 128 p.0)) ∙ p.1

abbrev only_at : ℕ → ℕ
only_at i = get_or (sign_at i) 0 0

abbrev is_short_at : ℕ → Bool
is_short_at i = nat_lt i 7 || (nat_lt (only_at i) 128 && (bytes_eq (sign_at i) (only_at i ∷ []) && is_short_sign (only_at i)))

all_short : all_below 27 is_short_at ≡ true
unfolding signs
all_short = refl

short_at : (i : ℕ) → i < 27 → 7 ≤ i → (x : ℕ) × (sign_at i ≡ encode_utf8 x) × (is_short_sign x ≡ true)
short_at i h more = decide (nat_lt i 7) refl (below 27 is_short_at all_short i h)
  where
    decide : (b : Bool) → nat_lt i 7 ≡ b
        → (b || (nat_lt (only_at i) 128 && (bytes_eq (sign_at i) (only_at i ∷ []) && is_short_sign (only_at i)))) ≡ true
        → (x : ℕ) × (sign_at i ≡ encode_utf8 x) × (is_short_sign x ≡ true)
    decide true t e = absurd (omega (arith, ltb-true i 7 t, more))
    decide false t e =
        let p = both (nat_lt (only_at i) 128) _ e in
        let q = both (bytes_eq (sign_at i) (only_at i ∷ [])) _ p.1 in
        (only_at i, bytes_same (sign_at i) (only_at i ∷ []) q.0 ∙ sym (encode_ascii (only_at i) (ltb-true (only_at i) 128 p.0)), q.1)

one_byte : (i : ℕ) → i < 27 → 7 ≤ i → length (sign_at i) ≤ 1
unfolding signs
one_byte i h more = longer_first 7 i (omega arith) h more

-- where no longer sign fits, a sign of one character is the longest
pub short_found : (text after : List ℕ) (c : ℕ) → FitsNone long_signs 7 text → text ≡ encode_utf8 c ++ after → is_short_sign c ≡ true → IsUtf8 after → EndsSign text after
short_found text after c none e is valid = (encode_utf8 c, e, (short_is_sign c is, λ other more t fits. longest other more (index_of other t) fits), valid)
  where
    longest : (other more : List ℕ) → (k : ℕ) × (k < 27) × (sign_at k ≡ other) → text ≡ other ++ more → length other ≤ length (encode_utf8 c)
    longest other more (k, h, at) fits = decide (nat_lt k 7) refl
      where
        decide : (b : Bool) → nat_lt k 7 ≡ b → length other ≤ length (encode_utf8 c)
        decide true t = let l = ltb-true k 7 t in absurd (none k more l (fits ∙ ap (λ s. s ++ more) (sym at ∙ same_long k l)))
        decide false t = let one = one_byte k h (ltb-false k 7 t) in omega (arith, one, ap length at, length-encode c, (len_utf8_bounds c).0)

-- where no sign of one character stands at the front either, none does
pub sign_none : (text : List ℕ) → FitsNone long_signs 7 text → ((c : ℕ) (after : List ℕ) → text ≡ encode_utf8 c ++ after → is_short_sign c ≡ false) → BeginsNoSign text
sign_none text none other sign rest is e = by (index_of sign is)
  where
    by : (k : ℕ) × (k < 27) × (sign_at k ≡ sign) → ⊥
    by (k, h, at) = decide (nat_lt k 7) refl
      where
        decide : (b : Bool) → nat_lt k 7 ≡ b → ⊥
        decide true t = let l = ltb-true k 7 t in none k rest l (e ∙ ap (λ s. s ++ rest) (sym at ∙ same_long k l))
        decide false t = let x = short_at k h (ltb-false k 7 t) in clash (is_short_sign x.0) x.2 (other x.0 rest (e ∙ ap (λ s. s ++ rest) (sym at ∙ x.1)))

pub none_here : (text after : List ℕ) (c : ℕ) → FitsNone long_signs 7 text → text ≡ encode_utf8 c ++ after → is_short_sign c ≡ false → BeginsNoSign text
none_here text after c none e is = sign_none text none (λ d rest f. ap is_short_sign (encode_same d c rest after (sym f ∙ e)).0 ∙ is)

pub none_at_end : (text : List ℕ) → FitsNone long_signs 7 text → length text ≡ 0 → BeginsNoSign text
none_at_end text none empty = sign_none text none (λ c after e. let l = ap length e ∙ length-append (encode_utf8 c) after in absurd (omega (arith, empty, l, length-encode c, (len_utf8_bounds c).0)))
