-- Words in which a byte doesn't stand, and where that byte stands between them.
use Prim.Native.Nat as Nat
use Rattle.std.proofs.Common.{◌≡◌, ◌≢◌, ℕ, suc, ◌<◌, ◌^◌, Bool, true, false, ◌==◌, nat_eq, not, List, [], ◌∷◌, ◌++◌, get_or, Option, Some, None, refl, ap, sym, ◌∙◌, subst, append-nil, arith, lit<, length-append}
use Rattle.std.specs.Prelude.{⊤}
use Rattle.std.specs.List.{list_all, flat_map}
use Rattle.std.specs.Fmt.{decimal}
use Rattle.std.proofs.lemmas.Bool.Decides.{nat_tests}
use Rattle.std.proofs.lemmas.Str.Parse.{digit_at, numerals_by_value, tells_digits}
use Rattle.std.proofs.lemmas.Fmt.{digits_decimal}
use Rattle.at_model.specs.Paths.{Path, Step, IsPath, IsStep, IsIndex, step_text, index_text, path_text}
use Rattle.at_model.specs.Lines.{Place, From_root, From_mark, place_text, IsPlace, IsSpaceOrEnd}
use Rattle.at_model.specs.Names.{IsName}
use Rattle.at_model.proofs.of_texts.Words.{IsInner, delimits, name_inner}
use Rattle.at_model.proofs.Options.{both}
use Rattle.at_protocol.specs.Words.{HasNo, HasNoSpace, IsSlashOrEnd}

-- this byte comes next, or nothing
abbrev pub IsNext : ℕ → List ℕ → Type 0
IsNext d [] = ⊤
IsNext d (b ∷ bs) = b ≡ d

-- a text is cut at its first such byte in one way
pub one_cut : (d : ℕ) (a b x y : List ℕ) → a ++ x ≡ b ++ y → HasNo d a → HasNo d b → IsNext d x → IsNext d y → (a ≡ b) × (x ≡ y)
one_cut d [] [] x y e p q s t = (refl, e)
one_cut d [] (b ∷ bs) x y e p q s t = absurd (q 0 (omega (arith, length-append (b ∷ []) bs)) (subst (IsNext d) e s))
one_cut d (a ∷ front) [] x y e p q s t = absurd (p 0 (omega (arith, length-append (a ∷ []) front)) (subst (IsNext d) (sym e) t))
one_cut d (a ∷ front) (b ∷ bs) x y e p q s t =
    let rest = one_cut d front bs x y (cc) (λ i l. p (suc i) (omega (arith, length-append (a ∷ []) front))) (λ i l. q (suc i) (omega (arith, length-append (b ∷ []) bs))) s t in
    ((cc), rest.1)

next_space : (x : List ℕ) → IsSpaceOrEnd x → IsNext 32 x
next_space [] h = tt
next_space (b ∷ bs) h = h

pub next_slash : (x : List ℕ) → IsSlashOrEnd x → IsNext 47 x
next_slash [] h = tt
next_slash (b ∷ bs) h = h

pub one_front : (a b x y : List ℕ) → a ++ x ≡ b ++ y → HasNoSpace a → HasNoSpace b → IsSpaceOrEnd x → IsSpaceOrEnd y → (a ≡ b) × (x ≡ y)
one_front a b x y e p q s t = one_cut 32 a b x y e p q (next_space x s) (next_space y t)

abbrev pub tail_of : List ℕ → List ℕ
tail_of [] = []
tail_of (b ∷ bs) = bs

-- two words with such a byte between them
pub two_parts : (d : ℕ) (p q x y : List ℕ) → p ++ d ∷ x ≡ q ++ d ∷ y → HasNo d p → HasNo d q → (p ≡ q) × (x ≡ y)
two_parts d p q x y e s t = let r = one_cut d p q (d ∷ x) (d ∷ y) e s t refl refl in (r.0, ap tail_of r.1)

pub two_words : (p q x y : List ℕ) → p ++ 32 ∷ x ≡ q ++ 32 ∷ y → HasNoSpace p → HasNoSpace q → (p ≡ q) × (x ≡ y)
two_words = two_parts 32

pub byte_inside : (d : ℕ) (word rest text : List ℕ) → word ++ d ∷ rest ≡ text → HasNo d word → HasNo d text → ⊥
byte_inside d word rest text e p q =
    let none : d ∷ rest ≡ [] = (one_cut d word text (d ∷ rest) [] (e ∙ sym (append-nil text)) p q refl tt).1 in
    cc

pub space_inside : (word rest text : List ℕ) → word ++ 32 ∷ rest ≡ text → HasNoSpace word → HasNoSpace text → ⊥
space_inside = byte_inside 32

-- texts with other first bytes
pub first : (s t : List ℕ) → s ≡ t → get_or s 0 0 ≡ get_or t 0 0
first s t e = ap (λ y. get_or y 0 0) e

pub differ : (a b : ℕ) → (a == b) ≡ false → a ≡ b → ⊥
differ a b h e = grind (arith, nat_tests)

-- which texts don't have the byte
pub has_no_nil : (d : ℕ) → HasNo d []
has_no_nil d i l = absurd (omega arith)

pub has_no_cons : (d b : ℕ) (bs : List ℕ) → b ≢ d → HasNo d bs → HasNo d (b ∷ bs)
has_no_cons d b bs other rest Nat.zero l = other
has_no_cons d b bs other rest (suc i) l = rest i (omega (arith, length-append (b ∷ []) bs))

pub has_no_append : (d : ℕ) (xs ys : List ℕ) → HasNo d xs → HasNo d ys → HasNo d (xs ++ ys)
has_no_append d [] ys p q = q
has_no_append d (x ∷ xs) ys p q = has_no_cons d x (xs ++ ys) (p 0 (omega (arith, length-append (x ∷ []) xs))) (has_no_append d xs ys (λ i l. p (suc i) (omega (arith, length-append (x ∷ []) xs))) q)

-- a test for words that are written out
unequal : (d b : ℕ) (t : Bool) → nat_eq b d ≡ t → not t ≡ true → b ≢ d
unequal d b true f e is = cc
unequal d b false f e is = differ b d f is

pub has_no_test : (d : ℕ) (bs : List ℕ) → list_all (λ b. not (nat_eq b d)) bs ≡ true → HasNo d bs
has_no_test d [] e = has_no_nil d
has_no_test d (b ∷ bs) e = let p = both (not (nat_eq b d)) _ e in has_no_cons d b bs (unequal d b (nat_eq b d) refl p.0) (has_no_test d bs p.1)

pub no_space_test : (bs : List ℕ) → list_all (λ b. not (nat_eq b 32)) bs ≡ true → HasNoSpace bs
no_space_test = has_no_test 32

-- a byte that stands in no place
pub record IsOutside (d : ℕ) : Type 0 where
  pub low : d < 47
  pub no_mark : nat_eq 36 d ≡ false
  pub is_delimiter : delimits d ≡ true

pub space_outside : IsOutside 32
space_outside = record { low = omega arith; no_mark = refl; is_delimiter = refl }

pub comma_outside : IsOutside 44
comma_outside = record { low = omega arith; no_mark = refl; is_delimiter = refl }

pub has_no_decimal : (d n : ℕ) → d < 47 → n < 2 ^ 64 → HasNo d (decimal n)
has_no_decimal d n low h i l e =
    let digit = digit_at (decimal n) i (digits_decimal (numerals_by_value _ tells_digits) n h) l in
    omega (arith, digit.0)

pub no_space_decimal : (n : ℕ) → n < 2 ^ 64 → HasNoSpace (decimal n)
no_space_decimal n h = has_no_decimal 32 n (lit< tt) h

-- a delimiter stands in no name
delimiter_apart : (d b : ℕ) → delimits d ≡ true → delimits b ≡ false → b ≢ d
delimiter_apart d b h k e = let f : true ≡ false = sym h ∙ ap delimits (sym e) ∙ k in cc

has_no_inner : (d : ℕ) → delimits d ≡ true → (text : List ℕ) → IsInner text → HasNo d text
has_no_inner d h [] k = has_no_nil d
has_no_inner d h (b ∷ bs) k = has_no_cons d b bs (delimiter_apart d b h k.0) (has_no_inner d h bs k.1)

pub has_no_name : (d : ℕ) → delimits d ≡ true → (name : List ℕ) → IsName name → HasNo d name
has_no_name d h name k = has_no_inner d h name (name_inner name k.0 k.1)

pub no_space_name : (name : List ℕ) → IsName name → HasNoSpace name
no_space_name = has_no_name 32 refl

-- such a byte stands in no place
has_no_index : (d : ℕ) → IsOutside d → (index : Option ℕ) → IsIndex index → HasNo d (index_text index)
has_no_index d o None h = has_no_nil d
has_no_index d o (Some i) h = has_no_cons d 58 (decimal i) (λ e. omega (arith, o.low)) (has_no_decimal d i o.low (omega arith))

has_no_step : (d : ℕ) → IsOutside d → (s : Step) → IsStep s → HasNo d (step_text s)
has_no_step d o s h = has_no_cons d 47 _ (λ e. omega (arith, o.low)) (has_no_append d s.part (index_text s.index) (has_no_name d o.is_delimiter s.part h.0) (has_no_index d o s.index h.1))

has_no_steps : (d : ℕ) → IsOutside d → (ss : Path) → IsPath ss → HasNo d (flat_map step_text ss)
has_no_steps d o [] h = has_no_nil d
has_no_steps d o (s ∷ ss) h = has_no_append d (step_text s) (flat_map step_text ss) (has_no_step d o s h.0) (has_no_steps d o ss h.1)

has_no_path : (d : ℕ) → IsOutside d → (path : Path) → IsPath path → HasNo d (path_text path)
has_no_path d o [] h = has_no_cons d 47 [] (λ e. omega (arith, o.low)) (has_no_nil d)
has_no_path d o (s ∷ ss) h = has_no_steps d o (s ∷ ss) h

pub has_no_place : (d : ℕ) → IsOutside d → (place : Place) → IsPlace place → HasNo d (place_text place)
has_no_place d o (From_root path) h = has_no_path d o path h
has_no_place d o (From_mark name steps) h = has_no_cons d 36 _ (λ e. differ 36 d o.no_mark e) (has_no_append d name _ (has_no_name d o.is_delimiter name h.0) (has_no_steps d o steps h.1))
