-- By its first character a piece is a blank, a name, a number, a text between quotes, or one of the others.
use Rattle.std.proofs.Common.{◌≡◌, ℕ, zero, suc, ◌<◌, List, [], ◌∷◌, ◌++◌, Bool, true, false, cond, not, ◌==◌, ◌||◌, ◌&&◌, nat_lt, refl, sym, ap, ◌∙◌, append_assoc, eqb-true, ltb-true, lit<, arith, encode_utf8, encode_utf8_all}
use Rattle.std.specs.Char.{is_ascii_digit, is_ascii_alphabetic}
use Rattle.std.specs.List.{list_any, list_all, flat_map}
use Rattle.std.specs.Str.{bytes_eq}
use Rattle.std.proofs.lemmas.Bool.Decides.{nat_tests}
use Rattle.std.proofs.lemmas.Str.{encode_same, encode_ascii}
use Rattle.std.proofs.lemmas.Slice.Eq.{bytes_eq-Decides}
use Rattle.unicode_ident.proofs.IdentLemmas.{is_xid_start-ascii}
use Rattle.at_model.specs.Names.{starts_name}
use Rattle.at_model.specs.Texts.{escaped}
use Rattle.at_model.proofs.Options.{both}
use Rattle.at_text.specs.Pieces.{Piece, Blank, LineComment, BlockComment, Name, Number, Quoted, Sign, spell, IsPiece, is_blank, is_sign, signs}
use Rattle.at_text.proofs.Fronts.{clash, not_false}

abbrev family_by : Bool → ℕ → ℕ
family_by starts c = cond (is_blank c) 0 (cond starts 1 (cond (is_ascii_digit c) 2 (cond (c == 34) 3 4)))

-- the family of the pieces that begin with this character
abbrev pub family_at : ℕ → ℕ
family_at c = family_by (starts_name c) c

abbrev plain_family : ℕ → ℕ
plain_family c = family_by (is_ascii_alphabetic c || (c == 95)) c

abbrev pub family : Piece → ℕ
family (Blank c) = 0
family (Name c cs) = 1
family (Number d ds) = 2
family (Quoted body) = 3
family (LineComment cs) = 4
family (BlockComment body) = 4
family (Sign sign) = 4

family_ascii : (c : ℕ) → c < 128 → family_at c ≡ plain_family c
family_ascii c h = ap (λ s. family_by (s || (c == 95)) c) (is_xid_start-ascii c h)

-- a test of each number below n
abbrev pub all_below : ℕ → (ℕ → Bool) → Bool
all_below zero test = true
all_below (suc n) test = test n && all_below n test

pub below : (n : ℕ) (test : ℕ → Bool) → all_below n test ≡ true → (c : ℕ) → c < n → test c ≡ true
below zero test e c h = absurd (omega (arith, h))
below (suc n) test e c h =
    let p = both (test n) (all_below n test) e in
    decide (c == n) refl p.0 (λ less. below n test p.1 c less)
  where
    decide : (t : Bool) → (c == n) ≡ t → test n ≡ true → (c < n → test c ≡ true) → test c ≡ true
    decide true s here others = ap test (eqb-true c n s) ∙ here
    decide false s here others = others (let d : c ≡ n → ⊥ = grind (arith, nat_tests) in omega (arith, h, d))

-- a character that passes this test is of this family
abbrev all_of : (ℕ → Bool) → ℕ → ℕ → Bool
all_of test n c = not (test c) || (plain_family c == n)

family_of : (test : ℕ → Bool) (n : ℕ) → all_below 128 (all_of test n) ≡ true → (c : ℕ) → c < 128 → test c ≡ true → family_at c ≡ n
family_of test n e c h t =
    let u : all_of test n c ≡ true = below 128 (all_of test n) e c h in
    let v : (plain_family c == n) ≡ true = sym (ap (λ b. not b || (plain_family c == n)) t) ∙ u in
    family_ascii c h ∙ eqb-true (plain_family c) n v

pub blank_small : (c : ℕ) → is_blank c ≡ true → c < 128
blank_small c e = grind (arith, nat_tests)

pub digit_small : (c : ℕ) → is_ascii_digit c ≡ true → c < 128
digit_small c e = grind (arith, nat_tests)

family_blank : (c : ℕ) → is_blank c ≡ true → family_at c ≡ 0
family_blank c e = ap (λ b. cond b 0 (cond (starts_name c) 1 (cond (is_ascii_digit c) 2 (cond (c == 34) 3 4)))) e

abbrev is_letter : ℕ → Bool
is_letter c = is_ascii_alphabetic c || (c == 95)

abbrev blank_apart : ℕ → Bool
blank_apart c = not (is_blank c) || not (is_letter c)

blank_starts_none : (c : ℕ) → is_blank c ≡ true → starts_name c ≡ false
blank_starts_none c t =
    let h : c < 128 = blank_small c t in
    let u : blank_apart c ≡ true = below 128 blank_apart refl c h in
    let v : not (is_letter c) ≡ true = sym (ap (λ b. not b || not (is_letter c)) t) ∙ u in
    ap (λ s. s || (c == 95)) (is_xid_start-ascii c h) ∙ not_false (is_letter c) v

family_name : (c : ℕ) → starts_name c ≡ true → family_at c ≡ 1
family_name c e = decide (is_blank c) refl
  where
    decide : (b : Bool) → is_blank c ≡ b → family_at c ≡ 1
    decide true t = absurd (clash (starts_name c) e (blank_starts_none c t))
    decide false t = rw (t, e) refl

family_digit : (d : ℕ) → is_ascii_digit d ≡ true → family_at d ≡ 2
family_digit d e = family_of is_ascii_digit 2 refl d (digit_small d e) e

-- each sign begins with such a byte
abbrev begins_sign : List ℕ → Bool
begins_sign [] = false
begins_sign (b ∷ bs) = nat_lt b 128 && (plain_family b == 4)

pub bytes_same : (xs ys : List ℕ) → bytes_eq xs ys ≡ true → xs ≡ ys
bytes_same xs ys e = grind (arith, bytes_eq-Decides)

-- what each of a list passes, the one that is found in it passes
pub found_passes : (test : List ℕ → Bool) (xs : List (List ℕ)) (s : List ℕ) → list_all test xs ≡ true → list_any (bytes_eq s) xs ≡ true → test s ≡ true
found_passes test [] s each e = absurd (clash false e refl)
found_passes test (x ∷ xs) s each e =
    let p = both (test x) (list_all test xs) each in
    decide (bytes_eq s x) refl p.0 (λ f. found_passes test xs s p.1 (ap (λ b. b || list_any (bytes_eq s) xs) (sym f) ∙ e))
  where
    decide : (b : Bool) → bytes_eq s x ≡ b → test x ≡ true → (bytes_eq s x ≡ false → test s ≡ true) → test s ≡ true
    decide true f here others = ap test (bytes_same s x f) ∙ here
    decide false f here others = others f

sign_begins : (s : List ℕ) → is_sign s ≡ true → begins_sign s ≡ true
unfolding signs
sign_begins s e = found_passes begins_sign signs s refl e

-- the first character of a piece
pub record Opening (p : Piece) (after : List ℕ) : Type 0 where
  pub first : ℕ
  pub others : List ℕ
  pub split : spell p ++ after ≡ encode_utf8 first ++ others
  pub of : family_at first ≡ family p

sign_opening : (s after : List ℕ) → begins_sign s ≡ true → Opening (Sign s) after
sign_opening [] after e = absurd (clash false e refl)
sign_opening (b ∷ bs) after e =
    let p = both (nat_lt b 128) (plain_family b == 4) e in
    let h : b < 128 = ltb-true b 128 p.0 in
    record {
      first = b;
      others = bs ++ after;
      split = ap (λ l. l ++ (bs ++ after)) (sym (encode_ascii b h));
      of = family_ascii b h ∙ eqb-true (plain_family b) 4 p.1;
    }

pub slash : family_at 47 ≡ 4
slash = family_ascii 47 (lit< tt)

pub quote : family_at 34 ≡ 3
quote = family_ascii 34 (lit< tt)

pub plain : (b : ℕ) (rest : List ℕ) → b < 128 → b ∷ rest ≡ encode_utf8 b ++ rest
plain b rest h = ap (λ l. l ++ rest) (sym (encode_ascii b h))

pub opening : (p : Piece) (after : List ℕ) → IsPiece p after → Opening p after
opening (Blank c) after is = record { first = c; others = after; split = refl; of = family_blank c is }
opening (Name c cs) after is = record { first = c; others = encode_utf8_all cs ++ after; split = append_assoc (encode_utf8 c) (encode_utf8_all cs) after; of = family_name c is.0 }
opening (Number d ds) after is = record { first = d; others = ds ++ after; split = ap (λ l. l ++ (ds ++ after)) (sym (encode_ascii d (digit_small d is.0))); of = family_digit d is.0 }
opening (Quoted body) after is = record { first = 34; others = (flat_map escaped body ++ 34 ∷ []) ++ after; split = plain 34 ((flat_map escaped body ++ 34 ∷ []) ++ after) (lit< tt); of = quote }
opening (LineComment cs) after is = record { first = 47; others = 47 ∷ (encode_utf8_all cs ++ after); split = plain 47 (47 ∷ (encode_utf8_all cs ++ after)) (lit< tt); of = slash }
opening (BlockComment body) after is = record { first = 47; others = 42 ∷ ((body ++ 42 ∷ 47 ∷ []) ++ after); split = plain 47 (42 ∷ ((body ++ 42 ∷ 47 ∷ []) ++ after)) (lit< tt); of = slash }
opening (Sign s) after is = sign_opening s after (sign_begins s is.0.0)

pub family_same : (p q : Piece) (x y : List ℕ) → IsPiece p x → IsPiece q y → spell p ++ x ≡ spell q ++ y → family p ≡ family q
family_same p q x y g h e =
    let a = opening p x g in
    let b = opening q y h in
    sym a.of ∙ ap family_at (encode_same a.first b.first a.others b.others (sym a.split ∙ e ∙ b.split)).0 ∙ b.of

-- a piece that begins with this character is of its family
pub family_in : (c : ℕ) (text after : List ℕ) (p : Piece) (rest : List ℕ) → text ≡ encode_utf8 c ++ after → IsPiece p rest → text ≡ spell p ++ rest → family_at c ≡ family p
family_in c text after p rest e is g =
    let o = opening p rest is in
    ap family_at (encode_same c o.first after o.others (sym e ∙ g ∙ o.split)).0 ∙ o.of
