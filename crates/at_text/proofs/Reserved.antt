-- A word is compared with those of the reserved words alone that begin with the same letter.
use Rattle.std.proofs.Common.{◌≡◌, ◌≢◌, ℕ, Bool, true, false, ◌||◌, ◌==◌, not, List, [], ◌∷◌, get_or, length, filter, map, refl, sym, ap, ◌∙◌, arith}
use Rattle.std.proofs.lemmas.Bool.Decides.{nat_tests}
use Rattle.std.specs.Prelude.{codes}
use Rattle.std.specs.Char.{is_ascii_lowercase}
use Rattle.std.specs.List.{list_all, list_any}
use Rattle.std.specs.Str.{bytes_eq}
use Rattle.std.proofs.lemmas.Slice.Eq.{bytes_eq-Decides}
use Rattle.at_model.specs.Names.{is_reserved, reserved_words}
use Rattle.at_model.proofs.Options.{both}
use Rattle.at_text.proofs.Fronts.{clash, not_false}

-- the text is one of the words
abbrev pub is_among : List (List ℕ) → List ℕ → Bool
is_among words text = list_any (λ w. bytes_eq w text) words

-- one of those that are seen through a function
pub any_seen : {A B : Type 0} (p : B → Bool) (f : A → B) (xs : List A) → list_any (λ x. p (f x)) xs ≡ list_any p (map f xs)
any_seen p f [] = refl
any_seen p f (x ∷ xs) = ap (λ b. p (f x) || b) (any_seen p f xs)

differs : (has : List ℕ → Bool) (word text : List ℕ) → has word ≡ false → has text ≡ true → bytes_eq word text ≡ false
differs has word text lacks h = decide (bytes_eq word text) refl
  where
    decide : (b : Bool) → bytes_eq word text ≡ b → b ≡ false
    decide true e = absurd (clash (has text) h (ap has (sym ((bytes_eq-Decides word text).0 e)) ∙ lacks))
    decide false e = refl

-- with a property that the text has, those words are left that have it
pub left : (has : List ℕ → Bool) (text : List ℕ) → has text ≡ true → (words : List (List ℕ)) → is_among (filter has words) text ≡ is_among words text
left has text h [] = refl
left has text h (word ∷ words) = decide (has word) refl (left has text h words)
  where
    decide : (b : Bool) → has word ≡ b → is_among (filter has words) text ≡ is_among words text → is_among (filter has (word ∷ words)) text ≡ is_among (word ∷ words) text
    decide true e rest = rw e (ap (λ b. bytes_eq word text || b) rest)
    decide false e rest = rw (e, differs has word text e h) rest

-- the text begins with the byte
abbrev pub begins_with : ℕ → List ℕ → Bool
begins_with c text = get_or text 0 0 == c

reserved_with : (c : ℕ) (text : List ℕ) → get_or text 0 0 ≡ c → is_among (filter (begins_with c) reserved_words) text ≡ is_reserved text
reserved_with c text e = let begins : begins_with c text ≡ true = grind (arith, nat_tests, e) in left (begins_with c) text begins reserved_words

words_with_a : filter (begins_with 97) reserved_words ≡ codes "abstract" ∷ codes "aspect" ∷ []
unfolding reserved_words
words_with_a = refl

words_with_b : filter (begins_with 98) reserved_words ≡ codes "boolean" ∷ []
unfolding reserved_words
words_with_b = refl

words_with_c : filter (begins_with 99) reserved_words ≡ codes "circular" ∷ []
unfolding reserved_words
words_with_c = refl

words_with_e : filter (begins_with 101) reserved_words ≡ codes "eq" ∷ codes "exists" ∷ []
unfolding reserved_words
words_with_e = refl

words_with_f : filter (begins_with 102) reserved_words ≡ codes "false" ∷ codes "first" ∷ []
unfolding reserved_words
words_with_f = refl

words_with_i : filter (begins_with 105) reserved_words ≡ codes "inh" ∷ codes "instanceof" ∷ codes "int" ∷ []
unfolding reserved_words
words_with_i = refl

words_with_l : filter (begins_with 108) reserved_words ≡ codes "lazy" ∷ []
unfolding reserved_words
words_with_l = refl

words_with_n : filter (begins_with 110) reserved_words ≡ codes "nta" ∷ codes "null" ∷ []
unfolding reserved_words
words_with_n = refl

words_with_r : filter (begins_with 114) reserved_words ≡ codes "return" ∷ []
unfolding reserved_words
words_with_r = refl

words_with_s : filter (begins_with 115) reserved_words ≡ codes "syn" ∷ codes "sum" ∷ []
unfolding reserved_words
words_with_s = refl

words_with_t : filter (begins_with 116) reserved_words ≡ codes "true" ∷ codes "this" ∷ []
unfolding reserved_words
words_with_t = refl

words_with_capital_s : filter (begins_with 83) reserved_words ≡ codes "String" ∷ []
unfolding reserved_words
words_with_capital_s = refl

pub reserved_with_a : (text : List ℕ) → get_or text 0 0 ≡ 97 → is_among (codes "abstract" ∷ codes "aspect" ∷ []) text ≡ is_reserved text
reserved_with_a text e = ap (λ words. is_among words text) (sym words_with_a) ∙ reserved_with 97 text e

pub reserved_with_b : (text : List ℕ) → get_or text 0 0 ≡ 98 → is_among (codes "boolean" ∷ []) text ≡ is_reserved text
reserved_with_b text e = ap (λ words. is_among words text) (sym words_with_b) ∙ reserved_with 98 text e

pub reserved_with_c : (text : List ℕ) → get_or text 0 0 ≡ 99 → is_among (codes "circular" ∷ []) text ≡ is_reserved text
reserved_with_c text e = ap (λ words. is_among words text) (sym words_with_c) ∙ reserved_with 99 text e

pub reserved_with_e : (text : List ℕ) → get_or text 0 0 ≡ 101 → is_among (codes "eq" ∷ codes "exists" ∷ []) text ≡ is_reserved text
reserved_with_e text e = ap (λ words. is_among words text) (sym words_with_e) ∙ reserved_with 101 text e

pub reserved_with_f : (text : List ℕ) → get_or text 0 0 ≡ 102 → is_among (codes "false" ∷ codes "first" ∷ []) text ≡ is_reserved text
reserved_with_f text e = ap (λ words. is_among words text) (sym words_with_f) ∙ reserved_with 102 text e

pub reserved_with_i : (text : List ℕ) → get_or text 0 0 ≡ 105 → is_among (codes "inh" ∷ codes "instanceof" ∷ codes "int" ∷ []) text ≡ is_reserved text
reserved_with_i text e = ap (λ words. is_among words text) (sym words_with_i) ∙ reserved_with 105 text e

pub reserved_with_l : (text : List ℕ) → get_or text 0 0 ≡ 108 → is_among (codes "lazy" ∷ []) text ≡ is_reserved text
reserved_with_l text e = ap (λ words. is_among words text) (sym words_with_l) ∙ reserved_with 108 text e

pub reserved_with_n : (text : List ℕ) → get_or text 0 0 ≡ 110 → is_among (codes "nta" ∷ codes "null" ∷ []) text ≡ is_reserved text
reserved_with_n text e = ap (λ words. is_among words text) (sym words_with_n) ∙ reserved_with 110 text e

pub reserved_with_r : (text : List ℕ) → get_or text 0 0 ≡ 114 → is_among (codes "return" ∷ []) text ≡ is_reserved text
reserved_with_r text e = ap (λ words. is_among words text) (sym words_with_r) ∙ reserved_with 114 text e

pub reserved_with_s : (text : List ℕ) → get_or text 0 0 ≡ 115 → is_among (codes "syn" ∷ codes "sum" ∷ []) text ≡ is_reserved text
reserved_with_s text e = ap (λ words. is_among words text) (sym words_with_s) ∙ reserved_with 115 text e

pub reserved_with_t : (text : List ℕ) → get_or text 0 0 ≡ 116 → is_among (codes "true" ∷ codes "this" ∷ []) text ≡ is_reserved text
reserved_with_t text e = ap (λ words. is_among words text) (sym words_with_t) ∙ reserved_with 116 text e

pub reserved_with_capital_s : (text : List ℕ) → get_or text 0 0 ≡ 83 → is_among (codes "String" ∷ []) text ≡ is_reserved text
reserved_with_capital_s text e = ap (λ words. is_among words text) (sym words_with_capital_s) ∙ reserved_with 83 text e

none_among : (has : List ℕ → Bool) (text : List ℕ) → has text ≡ true → (words : List (List ℕ)) → list_all (λ w. not (has w)) words ≡ true → is_among words text ≡ false
none_among has text h [] e = refl
none_among has text h (word ∷ words) e =
    let f = both (not (has word)) (list_all (λ w. not (has w)) words) e in
    rw (differs has word text (not_false (has word) f.0) h) (none_among has text h words f.1)

no_letter : (c : ℕ) → (97 == c) ≡ false → (98 == c) ≡ false → (99 == c) ≡ false → (101 == c) ≡ false
    → (102 == c) ≡ false → (105 == c) ≡ false → (108 == c) ≡ false → (110 == c) ≡ false → (114 == c) ≡ false
    → (115 == c) ≡ false → (116 == c) ≡ false → (83 == c) ≡ false
    → list_all (λ w. not (begins_with c w)) reserved_words ≡ true
unfolding reserved_words
no_letter c e97 e98 e99 e101 e102 e105 e108 e110 e114 e115 e116 e83 = rw (e97, e98, e99, e101, e102, e105, e108, e110, e114, e115, e116, e83) refl

other : (k n : ℕ) → n ≢ k → (k == n) ≡ false
other k n e = grind (arith, nat_tests)

pub reserved_with_no_other : (text : List ℕ) → get_or text 0 0 ≢ 97 → get_or text 0 0 ≢ 98 → get_or text 0 0 ≢ 99
    → get_or text 0 0 ≢ 101 → get_or text 0 0 ≢ 102 → get_or text 0 0 ≢ 105 → get_or text 0 0 ≢ 108 → get_or text 0 0 ≢
    110 → get_or text 0 0 ≢ 114 → get_or text 0 0 ≢ 115 → get_or text 0 0 ≢ 116 → get_or text 0 0 ≢ 83
    → false ≡ is_reserved text
reserved_with_no_other text e97 e98 e99 e101 e102 e105 e108 e110 e114 e115 e116 e83 =
    let c = get_or text 0 0 in
    let begins : begins_with c text ≡ true = grind (arith, nat_tests) in
    sym (none_among (begins_with c) text begins reserved_words (no_letter c (other 97 c e97) (other 98 c e98)
    (other 99 c e99) (other 101 c e101) (other 102 c e102) (other 105 c e105) (other 108 c e108) (other 110 c e110)
    (other 114 c e114) (other 115 c e115) (other 116 c e116) (other 83 c e83)))

apart : (c k : ℕ) → is_ascii_lowercase c ≡ false → is_ascii_lowercase k ≡ true → c ≢ k
apart c k off on is = clash (is_ascii_lowercase k) on (ap is_ascii_lowercase (sym is) ∙ off)

pub reserved_with_no_letter : (text : List ℕ) (first : ℕ) → first ≡ get_or text 0 0 → is_ascii_lowercase first ≡ false → first ≢ 83 → false ≡ is_reserved text
reserved_with_no_letter text first is off other =
    let c = get_or text 0 0 in
    let small : is_ascii_lowercase (get_or text 0 0) ≡ false = ap is_ascii_lowercase (sym is) ∙ off in
    reserved_with_no_other text (apart c 97 small refl) (apart c 98 small refl) (apart c 99 small refl) (apart c 101
    small refl) (apart c 102 small refl) (apart c 105 small refl) (apart c 108 small refl) (apart c 110 small refl)
    (apart c 114 small refl) (apart c 115 small refl) (apart c 116 small refl) (λ e. other (is ∙ e))
