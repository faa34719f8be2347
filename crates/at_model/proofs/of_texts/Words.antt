-- Names and numbers stand between delimiters: where one ends is read off the bytes.
use Rattle.std.proofs.Common.{◌≡◌, ℕ, ◌+◌, ◌/◌, ◌%◌, ◌^◌, ◌<◌, ◌≤◌, Bool, true, false, cond, not, ◌&&◌, ◌||◌, ◌==◌, nat_eq, nat_lt, nat_le, List, [], ◌∷◌, ◌++◌, refl, sym, ap, ◌∙◌, subst, arith, encode_utf8_all}
use Rattle.std.specs.Prelude.{chars, IsUtf8, ⊤}
use Rattle.std.specs.List.{list_any, list_all, AllByRecursion}
use Rattle.std.specs.Fmt.{decimal}
use Rattle.std.proofs.lemmas.Bool.Decides.{nat_tests}
use Rattle.std.proofs.lemmas.Fmt.{decimal_by_steps}
use Rattle.std.proofs.lemmas.Str.{chars-nil, encodes-chars}
use lib.Utf8.{encode}
use Rattle.std.specs.Char.{is_ascii_alphabetic, is_ascii_alphanumeric}
use Rattle.unicode_ident.proofs.IdentLemmas.{is_xid_start-ascii, is_xid_continue-ascii}
use Rattle.at_model.specs.Names.{starts_name, continues_name, is_word, is_name, is_reserved}
use Rattle.at_model.proofs.Options.{and_true}

-- lists that begin with different bytes
pub apart_bytes : (a b : ℕ) → nat_eq a b ≡ false → a ≡ b → ⊥
apart_bytes a b h e = let f : nat_eq a b ≡ true = grind (arith, nat_tests) in cc

pub apart : (a b : ℕ) (x y : List ℕ) → nat_eq a b ≡ false → a ∷ x ≡ b ∷ y → ⊥
apart a b x y h e = apart_bytes a b h (cc)

-- space " $ ( ) , - / : [ ]
abbrev pub delimiters : List ℕ
delimiters = 32 ∷ 34 ∷ 36 ∷ 40 ∷ 41 ∷ 44 ∷ 45 ∷ 47 ∷ 58 ∷ 91 ∷ 93 ∷ []

abbrev pub delimits : ℕ → Bool
delimits b = list_any (nat_eq b) delimiters

-- no byte delimits
abbrev pub IsInner : List ℕ → Type 0
IsInner x = AllByRecursion (λ b. delimits b ≡ false) x

-- the end, or a byte that delimits
abbrev pub Stops : List ℕ → Type 0
Stops [] = ⊤
Stops (b ∷ bs) = delimits b ≡ true

-- the same words, and the same behind them
pub same_word : (x y r s : List ℕ) → IsInner x → IsInner y → Stops r → Stops s → x ++ r ≡ y ++ s → (x ≡ y) × (r ≡ s)
same_word [] [] r s hx hy hr hs e = (refl, e)
same_word [] (c ∷ y) [] s hx hy hr hs e = absurd cc
same_word [] (c ∷ y) (b ∷ r) s hx (inner, rest) stops hs e = let is : b ≡ c = cc in absurd (let h = subst (λ (d : ℕ). delimits d ≡ true) is stops in cc)
same_word (b ∷ x) [] r [] hx hy hr hs e = absurd cc
same_word (b ∷ x) [] r (c ∷ s) (inner, rest) hy hr stops e = let is : c ≡ b = cc in absurd (let h = subst (λ (d : ℕ). delimits d ≡ true) is stops in cc)
same_word (b ∷ x) (c ∷ y) r s hx hy hr hs e =
    let heads : b ≡ c = cc in let tails : x ++ r ≡ y ++ s = cc in
    let both = same_word x y r s hx.1 hy.1 hr hs tails in
    (λ i. heads i ∷ both.0 i, both.1)

-- the bytes that may stand behind an argument, a token or a term: space ) , ]
abbrev pub ends : List ℕ
ends = 32 ∷ 41 ∷ 44 ∷ 93 ∷ []

abbrev pub Ends : List ℕ → Type 0
Ends [] = ⊤
Ends (b ∷ bs) = list_any (nat_eq b) ends ≡ true

pub all_and : (a b : Bool) → (a && b) ≡ true → (a ≡ true) × (b ≡ true)
all_and true true e = (refl, refl)
all_and true false e = cc
all_and false b e = cc

picked_at : (P : ℕ → Bool) (b d : ℕ) (rest t : Bool) → nat_eq b d ≡ t → P d ≡ true → (rest ≡ true → P b ≡ true) → (t || rest) ≡ true → P b ≡ true
picked_at P b d rest true f h more g = let is : b ≡ d = grind (arith, nat_tests) in subst (λ (x : ℕ). P x ≡ true) (sym is) h
picked_at P b d rest false f h more g = more g

picked : (P : ℕ → Bool) (b : ℕ) (ds : List ℕ) → list_all P ds ≡ true → list_any (nat_eq b) ds ≡ true → P b ≡ true
picked P b [] h e = cc
picked P b (d ∷ ds) h e = let g = all_and (P d) (list_all P ds) h in picked_at P b d (list_any (nat_eq b) ds) (nat_eq b d) refl g.0 (picked P b ds g.1) e

pub stops : (r : List ℕ) → Ends r → Stops r
stops [] h = tt
stops (b ∷ r) h = picked delimits b ends refl h

-- a word does not begin with a byte that delimits
pub headless : (x r y : List ℕ) (d : ℕ) → IsInner x → delimits d ≡ true → ((z : List ℕ) → r ≡ d ∷ z → ⊥) → x ++ r ≡ d ∷ y → ⊥
headless [] r y d hx hd none e = none y e
headless (b ∷ x) r y d hx hd none e = let is : b ≡ d = cc in let h = subst (λ (c : ℕ). delimits c ≡ false) is hx.0 in cc

pub ends_not : (r z : List ℕ) (d : ℕ) → Ends r → list_any (nat_eq d) ends ≡ false → r ≡ d ∷ z → ⊥
ends_not [] z d h k e = cc
ends_not (b ∷ r) z d h k e = let is : b ≡ d = cc in let g = subst (λ (c : ℕ). list_any (nat_eq c) ends ≡ true) is h in cc

-- what ends delimits
pub ends_delimits : (d : ℕ) → list_any (nat_eq d) ends ≡ true → delimits d ≡ true
ends_delimits d h = picked delimits d ends refl h

pub apart_from_end : (b d : ℕ) (x y : List ℕ) → list_any (nat_eq b) ends ≡ false → list_any (nat_eq d) ends ≡ true → b ∷ x ≡ d ∷ y → ⊥
apart_from_end b d x y h k e = let is : b ≡ d = cc in let g = subst (λ (c : ℕ). list_any (nat_eq c) ends ≡ false) is h in cc

-- what may stand behind a word is no word
pub ends_wordless : (r x s : List ℕ) (b : ℕ) → Ends r → IsInner (b ∷ x) → r ≡ (b ∷ x) ++ s → ⊥
ends_wordless [] x s b h hx e = cc
ends_wordless (c ∷ r) x s b h hx e = let is : c ≡ b = cc in let g = subst (λ (d : ℕ). delimits d ≡ true) is (picked delimits c ends refl h) in let f = hx.0 in cc

pub inner-append : (x y : List ℕ) → IsInner x → IsInner y → IsInner (x ++ y)
inner-append [] y hx hy = hy
inner-append (b ∷ x) y hx hy = (hx.0, inner-append x y hx.1 hy)

-- a byte that passes a test which no delimiter passes
apart_at : (test : ℕ → Bool) (b d : ℕ) (t : Bool) → nat_eq b d ≡ t → test b ≡ true → not (test d) ≡ true → nat_eq b d ≡ false
apart_at test b d false e h k = e
apart_at test b d true e h k = let is : b ≡ d = grind (arith, nat_tests) in absurd (let g =
    subst (λ (x : ℕ). test x ≡ true) is h in let f : not true ≡ true = subst (λ (x : Bool). not x ≡ true) g k in cc)

apart_from : (test : ℕ → Bool) (b : ℕ) (ds : List ℕ) → list_all (λ d. not (test d)) ds ≡ true → test b ≡ true → list_any (nat_eq b) ds ≡ false
apart_from test b [] h k = refl
apart_from test b (d ∷ ds) h k = let g = all_and (not (test d)) (list_all (λ d. not (test d)) ds) h in rw (apart_at test b d (nat_eq b d) refl k g.0, apart_from test b ds g.1 k) refl

high_inner : (b : ℕ) → 128 ≤ b → delimits b ≡ false
high_inner b h = apart_from (nat_le 128) b delimiters refl (grind (arith, nat_tests))

above : (low n : ℕ) → 128 ≤ low → delimits (low + n) ≡ false
above low n h = high_inner (low + n) (omega arith)

abbrev is_digit : ℕ → Bool
is_digit b = nat_le 48 b && nat_le b 57

digit_inner : (b : ℕ) → is_digit b ≡ true → delimits b ≡ false
digit_inner b h = apart_from is_digit b delimiters refl h

digit : (n : ℕ) → n < 10 → is_digit (48 + n) ≡ true
digit n h = and_true (nat_le 48 (48 + n)) (nat_le (48 + n) 57) (grind (arith, nat_tests)) (grind (arith, nat_tests))

pub decimal_inner : (n : ℕ) → n < 2 ^ 64 → IsInner (decimal n)
decimal_inner n h = decimal_by_steps (λ n ds. IsInner ds) (λ n small. (digit_inner (48 + n) (digit n small), tt))
    (λ n ds big inner. inner-append ds _ inner (digit_inner (48 + n % 10) (digit (n % 10) (omega arith)), tt)) n h

continue_at : (b : ℕ) (t : Bool) → nat_lt b 128 ≡ t → continues_name b ≡ true → delimits b ≡ false
continue_at b true e h = apart_from (λ c. is_ascii_alphanumeric c || (c == 95)) b delimiters refl (sym (is_xid_continue-ascii b (grind (arith, nat_tests))) ∙ h)
continue_at b false e h = high_inner b (grind (arith, nat_tests))

continue_inner : (b : ℕ) → continues_name b ≡ true → delimits b ≡ false
continue_inner b h = continue_at b (nat_lt b 128) refl h

start_at : (b : ℕ) (t : Bool) → nat_lt b 128 ≡ t → starts_name b ≡ true → delimits b ≡ false
start_at b true e h = apart_from (λ c. is_ascii_alphabetic c || (c == 95)) b delimiters refl (sym (ap (λ t. t || (b == 95)) (is_xid_start-ascii b (grind (arith, nat_tests)))) ∙ h)
start_at b false e h = high_inner b (grind (arith, nat_tests))

start_inner : (b : ℕ) → starts_name b ≡ true → delimits b ≡ false
start_inner b h = start_at b (nat_lt b 128) refl h

-- a character that does not delimit, in bytes
inner_char : (c : ℕ) → delimits c ≡ false → IsInner (encode c)
unfolding encode
inner_char c h = by_tests (nat_lt c 128) (nat_lt c 2048) (nat_lt c 65536)
  where
    by_tests : (p q r : Bool) → IsInner (cond p (c ∷ []) (cond q ((192 + c / 64) ∷ (128 + c % 64) ∷ [])
        (cond r ((224 + c / 4096) ∷ (128 + c / 64 % 64) ∷ (128 + c % 64) ∷ [])
        ((240 + c / 262144) ∷ (128 + c / 4096 % 64) ∷ (128 + c / 64 % 64) ∷ (128 + c % 64) ∷ []))))
    by_tests true q r = (h, tt)
    by_tests false true r = (above 192 (c / 64) (omega arith), (above 128 (c % 64) (omega arith), tt))
    by_tests false false true = (above 224 (c / 4096) (omega arith), (above 128 (c / 64 % 64) (omega arith), (above 128 (c % 64) (omega arith), tt)))
    by_tests false false false = (above 240 (c / 262144) (omega arith), (above 128 (c / 4096 % 64) (omega arith), (above 128 (c / 64 % 64) (omega arith), (above 128 (c % 64) (omega arith), tt))))

inner_chars : (cs : List ℕ) → list_all continues_name cs ≡ true → IsInner (encode_utf8_all cs)
inner_chars [] h = tt
inner_chars (c ∷ cs) h = let g = all_and (continues_name c) (list_all continues_name cs) h in inner-append (encode c) (encode_utf8_all cs) (inner_char c (continue_inner c g.0)) (inner_chars cs g.1)

word_inner : (cs : List ℕ) → is_word cs ≡ true → IsInner (encode_utf8_all cs)
word_inner [] h = cc
word_inner (c ∷ cs) h = let g = all_and (starts_name c) (list_all continues_name cs) h in inner-append (encode c) (encode_utf8_all cs) (inner_char c (start_inner c g.0)) (inner_chars cs g.1)

pub name_inner : (name : List ℕ) → is_name name ≡ true → IsUtf8 name → IsInner name
name_inner name h u = let g = all_and (is_word (chars name)) (not (is_reserved name)) h in subst IsInner (encodes-chars name u) (word_inner (chars name) g.0)

-- a name has a character
pub name_filled : (bytes : List ℕ) → is_name bytes ≡ true → bytes ≡ [] → ⊥
name_filled bytes is e = let off : false ≡ true = ap (λ cs. is_word cs && not (is_reserved [])) (sym chars-nil) ∙ subst (λ (x : List ℕ). is_name x ≡ true) e is in absurd cc
