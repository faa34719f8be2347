-- Names and decimals as pieces of a text: what they may go on with, and how a reader runs over them.
use Rattle.std.proofs.Common.{◌≡◌, ℕ, ◌+◌, ◌-◌, ◌*◌, ◌<◌, ◌≤◌, Bool, true, false, ◌==◌, cond, nat_le, not, List, [], ◌∷◌, ◌++◌, Option, Some, None, refl, ap, sym, ◌∙◌, subst, append_assoc, append-nil, lit<, arith, encode_utf8_all}
use Rattle.std.specs.Prelude.{chars, encode_utf8, IsUtf8, ◌/◌, ◌%◌, ◌^◌}
use Rattle.std.specs.List.{list_all, list_any}
use Rattle.std.specs.Str.{bytes_eq}
use Rattle.std.specs.Fmt.{decimal}
use Rattle.std.proofs.Math.Utf8.{scalar}
use Rattle.std.proofs.lemmas.Bool.Decides.{nat_tests}
use Rattle.std.proofs.lemmas.Fmt.{decimal_digit, decimal_step, decimal_by_steps}
use Rattle.std.proofs.lemmas.Slice.Eq.{bytes_eq-Decides}
use Rattle.std.proofs.lemmas.Str.{encode_ascii, chars-append, chars-nil, encodes-chars}
use lib.Utf8.{low_scalar}
use Rattle.unicode_ident.proofs.IdentLemmas.{is_xid_start-ascii, is_xid_continue-ascii}
use Rattle.at_model.specs.Names.{starts_name, continues_name, is_word, is_name, is_reserved, reserved_words}
use Rattle.at_model.proofs.Options.{both}
use Rattle.at_tree.specs.Partial.{is_digit}
use Rattle.at_tree.proofs.Machine.{run, utf8_char, chars_char}

pub same : (a b : ℕ) → (a == b) ≡ true → a ≡ b
same a b e = grind (arith, nat_tests)

pub other : (a b : ℕ) → (a ≡ b → ⊥) → (a == b) ≡ false
other a b h = grind (arith, nat_tests)

pub not_true : (b : Bool) → not b ≡ true → b ≡ false
not_true true e = cc
not_true false e = refl

pub choose : {A : Type 0} (Q : A → Type 0) (b : Bool) (x y : A) → (b ≡ true → Q x) → (b ≡ false → Q y) → Q (cond b x y)
choose Q true x y p q = p refl
choose Q false x y p q = q refl

-- what holds of the partial value that a step gives
abbrev pub OnStep : {P : Type 0} → (P → Type 0) → (P → List ℕ) → List ℕ → ℕ → Option P → Type 0
OnStep Fits spelled before c None = Unit {0}
OnStep Fits spelled before c (Some q) = Fits q × (spelled q ≡ before ++ encode_utf8 c)

-- characters of one byte
pub ascii : (c a : ℕ) → a < 128 → (c == a) ≡ true → encode_utf8 c ≡ a ∷ []
ascii c a h e = let s = same c a e in rw s (encode_ascii a h)

pub chars_ascii : (b : ℕ) (z : List ℕ) → b < 128 → chars (b ∷ z) ≡ b ∷ chars z
chars_ascii b z h =
    let s = low_scalar b (omega arith) in
    let e = encode_ascii b h in
    ap (λ y. chars (y ++ z)) (sym e) ∙ chars-append (encode_utf8 b) z (utf8_char b s) ∙ ap (λ y. y ++ chars z) (chars_char b s)

pub utf8_ascii : (b : ℕ) → b < 128 → IsUtf8 (b ∷ [])
utf8_ascii b h = subst IsUtf8 (encode_ascii b h) (utf8_char b (low_scalar b (omega arith)))

-- a run over a byte that is a character
pub run_byte : {P : Type 0} (step : P → ℕ → Option P) (p : P) (b : ℕ) (z : List ℕ) (r : Option P) → b < 128 → step p b ≡ r → run step (Some p) (chars (b ∷ z)) ≡ run step r (chars z)
run_byte step p b z r h e = ap (run step (Some p)) (chars_ascii b z h) ∙ ap (λ y. run step y (chars z)) e

-- names
pub list_all_push : (p : ℕ → Bool) (cs : List ℕ) (c : ℕ) → list_all p cs ≡ true → p c ≡ true → list_all p (cs ++ c ∷ []) ≡ true
list_all_push p [] c e h = rw h refl
list_all_push p (d ∷ cs) c e h = let f = both (p d) (list_all p cs) e in rw (f.0, list_all_push p cs c f.1 h) refl

is_word_push : (cs : List ℕ) (c : ℕ) → is_word cs ≡ true → continues_name c ≡ true → is_word (cs ++ c ∷ []) ≡ true
is_word_push [] c e h = cc
is_word_push (d ∷ cs) c e h = let f = both (starts_name d) (list_all continues_name cs) e in rw (f.0, list_all_push continues_name cs c f.1 h) refl

pub word_one : (c : ℕ) → scalar c ≡ true → starts_name c ≡ true → is_word (chars (encode_utf8 c)) ≡ true
word_one c s e = rw (chars_char c s, e) refl

pub word_longer : (word : List ℕ) (c : ℕ) → scalar c ≡ true → IsUtf8 word → is_word (chars word) ≡ true → continues_name c ≡ true → is_word (chars (word ++ encode_utf8 c)) ≡ true
word_longer word c s utf8 e h = rw (chars-append word (encode_utf8 c) utf8, chars_char c s) (is_word_push (chars word) c e h)

-- a word with an underscore behind it is a name
last : List ℕ → ℕ
last [] = 0
last (x ∷ []) = x
last (x ∷ y ∷ ys) = last (y ∷ ys)

last_push : (xs : List ℕ) (x : ℕ) → last (xs ++ x ∷ []) ≡ x
unfolding last
last_push [] x = refl
last_push (y ∷ []) x = refl
last_push (y ∷ z ∷ zs) x = last_push (z ∷ zs) x

none_of : (text : List ℕ) (words : List (List ℕ)) → list_all (λ w. not (last w == 95)) words ≡ true → list_any (λ w. bytes_eq w (text ++ 95 ∷ [])) words ≡ false
none_of text [] e = refl
none_of text (w ∷ ws) e =
    let f = both (not (last w == 95)) _ e in
    rw (differs (bytes_eq w (text ++ 95 ∷ [])) refl f.0) (none_of text ws f.1)
  where
    differs : (b : Bool) → bytes_eq w (text ++ 95 ∷ []) ≡ b → not (last w == 95) ≡ true → bytes_eq w (text ++ 95 ∷ []) ≡ false
    differs true h apart =
        let s : w ≡ text ++ 95 ∷ [] = (bytes_eq-Decides w (text ++ 95 ∷ [])).0 h in
        let ends : last w ≡ 95 = ap last s ∙ last_push text 95 in
        let g : not (95 == 95) ≡ true = rw ends at apart in
        cc
    differs false h apart = h

none_ends_so : list_all (λ w. not (last w == 95)) reserved_words ≡ true
unfolding reserved_words last
none_ends_so = refl

unreserved : (text : List ℕ) → is_reserved (text ++ 95 ∷ []) ≡ false
unreserved text = none_of text reserved_words none_ends_so

underscore_continues : continues_name 95 ≡ true
underscore_continues = rw (is_xid_continue-ascii 95 (lit< tt)) refl

underscore_starts : starts_name 95 ≡ true
underscore_starts = rw (is_xid_start-ascii 95 (lit< tt)) refl

pub longer_name : (word : List ℕ) → IsUtf8 word → is_word (chars word) ≡ true → is_name (word ++ 95 ∷ []) ≡ true
longer_name word utf8 e =
    let w : is_word (chars (word ++ 95 ∷ [])) ≡ true = rw (chars-append word (95 ∷ []) utf8, chars_ascii 95 [] (lit< tt), chars-nil) (is_word_push (chars word) 95 e underscore_continues) in
    rw (w, unreserved word) refl

pub shortest_name : is_name (95 ∷ []) ≡ true
shortest_name = let w : is_word (chars (95 ∷ [])) ≡ true = rw (chars_ascii 95 [] (lit< tt), chars-nil, underscore_starts) refl in rw (w, unreserved []) refl

-- a run over a name
pub run_word : {P : Type 0} (step : P → ℕ → Option P) (place : List ℕ → P) → ((word : List ℕ) (c : ℕ) → continues_name c ≡ true → step (place word) c ≡ Some (place (word ++ encode_utf8 c))) → (cs word z : List ℕ) → list_all continues_name cs ≡ true → run step (Some (place word)) (cs ++ z) ≡ run step (Some (place (word ++ encode_utf8_all cs))) z
run_word step place goes [] word z e = rw append-nil refl
run_word step place goes (c ∷ cs) word z e =
    let f = both (continues_name c) (list_all continues_name cs) e in
    ap (λ r. run step r (cs ++ z)) (goes word c f.0) ∙ run_word step place goes cs (word ++ encode_utf8 c) z f.1 ∙ rw append_assoc refl

pub run_name : {P : Type 0} (step : P → ℕ → Option P) (p : P) (place : List ℕ → P) → ((c : ℕ) → starts_name c ≡ true → step p c ≡ Some (place (encode_utf8 c))) → ((word : List ℕ) (c : ℕ) → continues_name c ≡ true → step (place word) c ≡ Some (place (word ++ encode_utf8 c))) → (name z : List ℕ) → IsUtf8 name → is_word (chars name) ≡ true → run step (Some p) (chars (name ++ z)) ≡ run step (Some (place name)) (chars z)
run_name step p place begins goes name z utf8 e = ap (run step (Some p)) (chars-append name z utf8) ∙ over (chars name) e ∙ ap (λ y. run step (Some (place y)) (chars z)) (encodes-chars name utf8)
  where
    over : (cs : List ℕ) → is_word cs ≡ true → run step (Some p) (cs ++ chars z) ≡ run step (Some (place (encode_utf8_all cs))) (chars z)
    over [] e = cc
    over (c ∷ cs) e =
        let f = both (starts_name c) (list_all continues_name cs) e in
        ap (λ r. run step r (cs ++ chars z)) (begins c f.0) ∙ run_word step place goes cs (encode_utf8 c) (chars z) f.1

-- decimals
pub digit_bounds : (c : ℕ) → is_digit c ≡ true → (48 ≤ c) × (c ≤ 57)
digit_bounds c e = let p = both (nat_le 48 c) (nat_le c 57) e in (grind (arith, nat_tests, p.0), grind (arith, nat_tests, p.1))

pub low_digit : (n : ℕ) → n < 10 → is_digit (48 + n) ≡ true
low_digit n h = let a : nat_le 48 (48 + n) ≡ true = grind (arith, nat_tests) in let b : nat_le (48 + n) 57 ≡ true = grind (arith, nat_tests) in rw (a, b) refl

pub digit_bytes : (c : ℕ) → is_digit c ≡ true → encode_utf8 c ≡ c ∷ []
digit_bytes c e = let b = digit_bounds c e in encode_ascii c (omega (arith, b.0, b.1))

pub one_digit : (c : ℕ) → is_digit c ≡ true → decimal (c - 48) ≡ c ∷ []
one_digit c e = let b = digit_bounds c e in let s : 48 + (c - 48) ≡ c = omega (arith, b.0, b.1) in decimal_digit (c - 48) (omega (arith, b.0, b.1)) ∙ ap (λ x. x ∷ []) s

pub more_digits : (n c : ℕ) → is_digit c ≡ true → 0 < n → n < 2 ^ 32 → decimal (n * 10 + (c - 48)) ≡ decimal n ++ c ∷ []
more_digits n c e positive small =
    let b = digit_bounds c e in
    let m : n * 10 + (c - 48) < 2 ^ 64 = omega (arith, b.0, b.1) in
    let q : (n * 10 + (c - 48)) / 10 ≡ n = omega (arith, b.0, b.1) in
    let r : 48 + (n * 10 + (c - 48)) % 10 ≡ c = omega (arith, b.0, b.1) in
    decimal_step (n * 10 + (c - 48)) (omega (arith, b.0, b.1)) m ∙ rw (q, r) refl

-- a run over a decimal from `low`, which is 0 or 1, up to `high`
pub run_decimal : {P : Type 0} (step : P → ℕ → Option P) (p : P) (place : ℕ → P) (low high : ℕ) → low ≤ 1 → high < 2 ^ 64 → ((n : ℕ) → n < 10 → low ≤ n → step p (48 + n) ≡ Some (place n)) → ((n : ℕ) → 10 ≤ n → n ≤ high → step (place (n / 10)) (48 + n % 10) ≡ Some (place n)) → (n : ℕ) (z : List ℕ) → low ≤ n → n ≤ high → run step (Some p) (chars (decimal n ++ z)) ≡ run step (Some (place n)) (chars z)
run_decimal step p place low high least most begins goes n z l h =
    decimal_by_steps (λ n ds. low ≤ n → n ≤ high → (z : List ℕ) → run step (Some p) (chars (ds ++ z)) ≡ run step (Some (place n)) (chars z))
    (λ n m l h z. run_byte step p (48 + n) z (Some (place n)) (omega arith) (begins n m l))
    (λ n ds m more l h z. ap (λ y. run step (Some p) (chars y)) (append_assoc ds ((48 + n % 10) ∷ []) z)
    ∙ more (omega arith) (omega arith) ((48 + n % 10) ∷ z)
    ∙ run_byte step (place (n / 10)) (48 + n % 10) z (Some (place n)) (omega arith) (goes n m h))
    n (omega arith) l h z
