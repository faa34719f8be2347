-- A text is that of at most one term, and no text of a term begins another one.
use Rattle.std.proofs.Common.{◌≡◌, ℕ, suc, ◌-◌, ◌^◌, ◌<◌, Bool, true, false, nat_eq, List, [], ◌∷◌, ◌++◌, length, ℤ, pos, negsuc, refl, sym, ap, ◌∙◌, subst, arith, append_assoc}
use Rattle.std.specs.List.{list_any}
use Rattle.std.specs.Fmt.{decimal, signed_decimal}
use Rattle.std.proofs.lemmas.Fmt.{decimal_injective, decimal_nonempty, decimal_is_IsNumeral}
use Rattle.std.specs.Str.Parse.{AllDigits}
use lib.Chars.{codes}
use Rattle.at_model.specs.Trees.{Token, Text, Int, Truth}
use Rattle.at_model.specs.Terms.{Term, Cells, Cell, Terms, Node, no_cells, cell, One, Many, Empty, Holds, no_terms, term, with_commas, token_text, term_text, cell_texts, cell_text, term_texts, IsInt32, IsToken, IsTermWithin, AreCellsWithin, IsCellWithin, AreTermsWithin}
use Rattle.at_model.proofs.of_texts.Words.{apart, apart_from_end, ends_delimits, IsInner, Ends, Stops, ends, delimits, same_word, stops, headless, ends_not, ends_wordless, decimal_inner, name_inner}
use Rattle.at_model.proofs.of_texts.QuotedTexts.{same_quoted}

abbrev pub tail : List ℕ → List ℕ
tail [] = []
tail (b ∷ bs) = bs

-- numbers
decimal_filled : (n : ℕ) → n < 2 ^ 64 → decimal n ≡ [] → ⊥
decimal_filled n h e = let g : 0 < length (decimal n) = decimal_nonempty n h in let f : length (decimal n) ≡ 0 = ap length e in omega arith

pub same_decimal : (m n : ℕ) (r s : List ℕ) → m < 2 ^ 64 → n < 2 ^ 64 → Stops r → Stops s → decimal m ++ r ≡ decimal n ++ s → (m ≡ n) × (r ≡ s)
same_decimal m n r s hm hn hr hs e = let both = same_word (decimal m) (decimal n) r s (decimal_inner m hm) (decimal_inner n hn) hr hs e in (decimal_injective m n hm hn both.0, both.1)

-- a decimal begins with no byte that delimits
decimal_headless : (n : ℕ) (r y : List ℕ) (d : ℕ) → n < 2 ^ 64 → delimits d ≡ true → list_any (nat_eq d) ends ≡ false → Ends r → decimal n ++ r ≡ d ∷ y → ⊥
decimal_headless n r y d h hd he hr e = headless (decimal n) r y d (decimal_inner n h) hd (λ z. ends_not r z d hr he) e

-- nor is one what may stand behind a word
ends_no_decimal : (n : ℕ) (r s : List ℕ) → n < 2 ^ 64 → Ends r → r ≡ decimal n ++ s → ⊥
ends_no_decimal n r s h hr e = at_text (decimal n) refl
  where
    at_text : (x : List ℕ) → decimal n ≡ x → ⊥
    at_text [] f = decimal_filled n h f
    at_text (b ∷ x) f = ends_wordless r x s b hr (subst IsInner f (decimal_inner n h)) (e ∙ ap (λ y. y ++ s) f)

abbrev true_inner : IsInner (codes "true")
true_inner = (refl, (refl, (refl, (refl, tt))))

abbrev false_inner : IsInner (codes "false")
false_inner = (refl, (refl, (refl, (refl, (refl, tt)))))

wide : (n : ℕ) → n < 2147483648 → n < 2 ^ 64
wide n h = omega arith

wide_negative : (n : ℕ) → n < 2147483648 → suc n < 2 ^ 64
wide_negative n h = omega arith

-- the same tokens, and the same behind them
same_negative : (m n : ℕ) (r s : List ℕ) → suc m < 2 ^ 64 → suc n < 2 ^ 64 → Ends r → Ends s → 45 ∷ (decimal (suc m) ++ r) ≡ 45 ∷ (decimal (suc n) ++ s) → (m ≡ n) × (r ≡ s)
same_negative m n r s hm hn hr hs e =
    let both = same_decimal (suc m) (suc n) r s hm hn (stops r hr) (stops s hs) (ap tail e) in
    let same : m ≡ n = omega (arith, both.0) in
    (same, both.1)

same_int : (m n : ℤ) (r s : List ℕ) → IsInt32 m → IsInt32 n → Ends r → Ends s → signed_decimal m ++ r ≡ signed_decimal n ++ s → (m ≡ n) × (r ≡ s)
same_int (pos m) (pos n) r s hm hn hr hs e = let both = same_decimal m n r s (wide m hm) (wide n hn) (stops r hr) (stops s hs) e in (ap pos both.0, both.1)
same_int (pos m) (negsuc n) r s hm hn hr hs e = absurd (decimal_headless m r _ 45 (wide m hm) refl refl hr e)
same_int (negsuc m) (pos n) r s hm hn hr hs e = absurd (decimal_headless n s _ 45 (wide n hn) refl refl hs (sym e))
same_int (negsuc m) (negsuc n) r s hm hn hr hs e = let both = same_negative m n r s (wide_negative m hm) (wide_negative n hn) hr hs e in (ap negsuc both.0, both.1)

truth_text_inner : (b : Bool) → IsInner (token_text (Truth b))
truth_text_inner true = true_inner
truth_text_inner false = false_inner

-- neither letters nor digits begin as what delimits
truth_headless : (b : Bool) (r y : List ℕ) (d : ℕ) → delimits d ≡ true → list_any (nat_eq d) ends ≡ false → Ends r → token_text (Truth b) ++ r ≡ d ∷ y → ⊥
truth_headless b r y d hd he hr e = headless (token_text (Truth b)) r y d (truth_text_inner b) hd (λ z. ends_not r z d hr he) e

int_no_quote : (n : ℤ) (r y : List ℕ) → IsInt32 n → Ends r → signed_decimal n ++ r ≡ 34 ∷ y → ⊥
int_no_quote (pos n) r y h hr e = decimal_headless n r y 34 (wide n h) refl refl hr e
int_no_quote (negsuc n) r y h hr e = apart 45 34 _ y refl e

no_truth : (n : ℕ) → n < 2 ^ 64 → (b : Bool) → decimal n ≡ token_text (Truth b) → ⊥
no_truth n h true e = let f = subst (AllDigits 10) e (decimal_is_IsNumeral n h).0.1 in let g : 29 < 10 = f.0 in omega arith
no_truth n h false e = let f = subst (AllDigits 10) e (decimal_is_IsNumeral n h).0.1 in let g : 15 < 10 = f.0 in omega arith

int_no_truth : (n : ℤ) (b : Bool) (r s : List ℕ) → IsInt32 n → Ends r → Ends s → signed_decimal n ++ r ≡ token_text (Truth b) ++ s → ⊥
int_no_truth (pos n) b r s h hr hs e = no_truth n (wide n h) b (same_word (decimal n) (token_text (Truth b)) r s (decimal_inner n (wide n h)) (truth_text_inner b) (stops r hr) (stops s hs) e).0
int_no_truth (negsuc n) b r s h hr hs e = truth_headless b s _ 45 refl refl hs (sym e)

same_truth : (b c : Bool) (r s : List ℕ) → token_text (Truth b) ++ r ≡ token_text (Truth c) ++ s → (b ≡ c) × (r ≡ s)
same_truth true true r s e = (refl, ap (λ x. tail (tail (tail (tail x)))) e)
same_truth true false r s e = absurd (apart 116 102 _ _ refl e)
same_truth false true r s e = absurd (apart 102 116 _ _ refl e)
same_truth false false r s e = (refl, ap (λ x. tail (tail (tail (tail (tail x))))) e)

pub same_token : (v w : Token) (r s : List ℕ) → IsToken v → IsToken w → Ends r → Ends s → token_text v ++ r ≡ token_text w ++ s → (v ≡ w) × (r ≡ s)
same_token (Text a) (Text b) r s hv hw hr hs e = let both = same_quoted a b r s e in (ap Text both.0, both.1)
same_token (Text a) (Int n) r s hv hw hr hs e = absurd (int_no_quote n s _ hw hs (sym e))
same_token (Text a) (Truth b) r s hv hw hr hs e = absurd (truth_headless b s _ 34 refl refl hs (sym e))
same_token (Int m) (Text b) r s hv hw hr hs e = absurd (int_no_quote m r _ hv hr e)
same_token (Int m) (Int n) r s hv hw hr hs e = let both = same_int m n r s hv hw hr hs e in (ap Int both.0, both.1)
same_token (Int m) (Truth b) r s hv hw hr hs e = absurd (int_no_truth m b r s hv hr hs e)
same_token (Truth b) (Text a) r s hv hw hr hs e = absurd (truth_headless b r _ 34 refl refl hr e)
same_token (Truth b) (Int n) r s hv hw hr hs e = absurd (int_no_truth n b s r hw hs hr (sym e))
same_token (Truth b) (Truth c) r s hv hw hr hs e = let both = same_truth b c r s e in (ap Truth both.0, both.1)

-- what comes behind the first of the texts
commas : List (List ℕ) → List ℕ
commas [] = []
commas (x ∷ xs) = 44 ∷ with_commas (x ∷ xs)

unfold_commas : (x : List ℕ) (xs : List (List ℕ)) (z : List ℕ) → with_commas (x ∷ xs) ++ z ≡ x ++ (commas xs ++ z)
unfolding commas
unfold_commas x [] z = refl
unfold_commas x (y ∷ ys) z = append_assoc x (44 ∷ with_commas (y ∷ ys)) z

commas_end : (xs : List (List ℕ)) (d : ℕ) (z : List ℕ) → list_any (nat_eq d) ends ≡ true → Ends (commas xs ++ d ∷ z)
unfolding commas
commas_end [] d z h = h
commas_end (x ∷ xs) d z h = refl

-- a token does not begin with a byte that delimits, but for a quote and a minus
pub token_headless : (v : Token) (r y : List ℕ) (d : ℕ) → delimits d ≡ true → list_any (nat_eq d) ends ≡ false → nat_eq 34 d ≡ false → nat_eq 45 d ≡ false
    → IsToken v → Ends r → token_text v ++ r ≡ d ∷ y → ⊥
token_headless (Text a) r y d hd he hq hm hv hr e = apart 34 d _ y hq e
token_headless (Int (pos n)) r y d hd he hq hm hv hr e = decimal_headless n r y d (wide n hv) hd he hr e
token_headless (Int (negsuc n)) r y d hd he hq hm hv hr e = apart 45 d _ y hm e
token_headless (Truth b) r y d hd he hq hm hv hr e = truth_headless b r y d hd he hr e

abbrev null_inner : IsInner (codes "null")
null_inner = (refl, (refl, (refl, (refl, tt))))

-- nor is one `null`
no_null : (n : ℕ) → n < 2 ^ 64 → decimal n ≡ codes "null" → ⊥
no_null n h e = let f = subst (AllDigits 10) e (decimal_is_IsNumeral n h).0.1 in let g : 23 < 10 = f.0 in omega arith

pub token_no_null : (v : Token) (r s : List ℕ) → IsToken v → Ends r → Ends s → token_text v ++ r ≡ codes "null" ++ s → ⊥
token_no_null (Text a) r s hv hr hs e = apart 34 110 _ _ refl e
token_no_null (Int (pos n)) r s hv hr hs e =
    no_null n (wide n hv) (same_word (decimal n) (codes "null") r s (decimal_inner n (wide n hv)) null_inner (stops r hr) (stops s hs) e).0
token_no_null (Int (negsuc n)) r s hv hr hs e = apart 45 110 _ _ refl e
token_no_null (Truth true) r s hv hr hs e = apart 116 110 _ _ refl e
token_no_null (Truth false) r s hv hr hs e = apart 102 110 _ _ refl e

-- a token does not begin with what may stand behind one
pub token_no_end : (v : Token) (z y : List ℕ) (d : ℕ) → IsToken v → list_any (nat_eq d) ends ≡ true → token_text v ++ z ≡ d ∷ y → ⊥
token_no_end (Text a) z y d hv hd e = apart_from_end 34 d _ y refl hd e
token_no_end (Int (pos n)) z y d hv hd e = ends_no_decimal n (d ∷ y) z (wide n hv) hd (sym e)
token_no_end (Int (negsuc n)) z y d hv hd e = apart_from_end 45 d _ y refl hd e
token_no_end (Truth true) z y d hv hd e = apart_from_end 116 d _ y refl hd e
token_no_end (Truth false) z y d hv hd e = apart_from_end 102 d _ y refl hd e

-- nor does a name with a parenthesis behind it
name_no_end : (name x y : List ℕ) (d : ℕ) → IsInner name → list_any (nat_eq d) ends ≡ true → name ++ 40 ∷ x ≡ d ∷ y → ⊥
name_no_end name x y d h hd e = headless name (40 ∷ x) y d h (ends_delimits d hd) (λ z. apart_from_end 40 d x z refl hd) e

-- a name with a parenthesis behind it is no token
name_no_word : (name x w s : List ℕ) → IsInner name → IsInner w → Ends s → name ++ 40 ∷ x ≡ w ++ s → ⊥
name_no_word name x w s h hw hs e = ends_not s x 40 hs refl (sym (same_word name w (40 ∷ x) s h hw refl (stops s hs) e).1)

name_no_token : (name x : List ℕ) (v : Token) (s : List ℕ) → IsInner name → IsToken v → Ends s → name ++ 40 ∷ x ≡ token_text v ++ s → ⊥
name_no_token name x (Text a) s h hv hs e = headless name (40 ∷ x) _ 34 h refl (λ z. apart 40 34 x z refl) e
name_no_token name x (Int (pos n)) s h hv hs e = name_no_word name x (decimal n) s h (decimal_inner n (wide n hv)) hs e
name_no_token name x (Int (negsuc n)) s h hv hs e = headless name (40 ∷ x) _ 45 h refl (λ z. apart 40 45 x z refl) e
name_no_token name x (Truth b) s h hv hs e = name_no_word name x (token_text (Truth b)) s h (truth_text_inner b) hs e

-- nor is an empty optional, or a list
empty_no_token : (r : List ℕ) (v : Token) (s : List ℕ) → Ends r → IsToken v → Ends s → 45 ∷ r ≡ token_text v ++ s → ⊥
empty_no_token r (Text a) s hr hv hs e = apart 45 34 r _ refl e
empty_no_token r (Int (pos n)) s hr hv hs e = decimal_headless n s r 45 (wide n hv) refl refl hs (sym e)
empty_no_token r (Int (negsuc n)) s hr hv hs e = ends_no_decimal (suc n) r s (wide_negative n hv) hr (ap tail e)
empty_no_token r (Truth b) s hr hv hs e = truth_headless b s r 45 refl refl hs (sym e)

list_no_token : (r : List ℕ) (v : Token) (s : List ℕ) → IsToken v → Ends s → 91 ∷ r ≡ token_text v ++ s → ⊥
list_no_token r (Text a) s hv hs e = apart 91 34 r _ refl e
list_no_token r (Int (pos n)) s hv hs e = decimal_headless n s r 91 (wide n hv) refl refl hs (sym e)
list_no_token r (Int (negsuc n)) s hv hs e = apart 91 45 r _ refl e
list_no_token r (Truth b) s hv hs e = truth_headless b s r 91 refl refl hs (sym e)

term_flat : (name : List ℕ) (cs : Cells) (r : List ℕ) → term_text (Node name cs) ++ r ≡ name ++ 40 ∷ (with_commas (cell_texts cs) ++ 41 ∷ r)
term_flat name cs r = append_assoc name _ r ∙ ap (λ z. name ++ 40 ∷ z) (append_assoc (with_commas (cell_texts cs)) (41 ∷ []) r)

list_flat : (ts : Terms) (r : List ℕ) → cell_text (Many ts) ++ r ≡ 91 ∷ (with_commas (term_texts ts) ++ 93 ∷ r)
list_flat ts r = ap (λ z. 91 ∷ z) (append_assoc (with_commas (term_texts ts)) (93 ∷ []) r)

-- a term is no list, no empty optional and no token
term_no_delimiter : (d : ℕ) (t : Term) (r y : List ℕ) (b : ℕ) → IsTermWithin d t → delimits b ≡ true → nat_eq 40 b ≡ false → term_text t ++ r ≡ b ∷ y → ⊥
term_no_delimiter d (Node name cs) r y b (p, (h, u), hc) hb ne e = headless name _ y b (name_inner name h u) hb (λ z. apart 40 b _ z ne) (sym (term_flat name cs r) ∙ e)

term_no_token : (d : ℕ) (t : Term) (v : Token) (r s : List ℕ) → IsTermWithin d t → IsToken v → Ends s → term_text t ++ r ≡ token_text v ++ s → ⊥
term_no_token d (Node name cs) v r s (p, (h, u), hc) hv hs e = name_no_token name _ v s (name_inner name h u) hv hs (sym (term_flat name cs r) ∙ e)

term_no_end : (d : ℕ) (t : Term) (z y : List ℕ) (b : ℕ) → IsTermWithin d t → list_any (nat_eq b) ends ≡ true → term_text t ++ z ≡ b ∷ y → ⊥
term_no_end d (Node name cs) z y b (p, (h, u), hc) hb e = name_no_end name _ y b (name_inner name h u) hb (sym (term_flat name cs z) ∙ e)

cell_no_end : (d : ℕ) (c : Cell) (z y : List ℕ) (b : ℕ) → IsCellWithin d c → list_any (nat_eq b) ends ≡ true → cell_text c ++ z ≡ b ∷ y → ⊥
cell_no_end d (One t) z y b h hb e = term_no_end d t z y b h hb e
cell_no_end d (Many ts) z y b h hb e = apart_from_end 91 b _ y refl hb e
cell_no_end d Empty z y b h hb e = apart_from_end 45 b _ y refl hb e
cell_no_end d (Holds v) z y b h hb e = token_no_end v z y b h hb e

-- what stands behind the first cell, or the first term, is the same where what stands behind the next is
same_cells_behind : (cs ds : Cells) (r s : List ℕ) → (with_commas (cell_texts cs) ++ 41 ∷ r ≡ with_commas (cell_texts ds) ++ 41 ∷ s → (cs ≡ ds) × (r ≡ s)) →
    commas (cell_texts cs) ++ 41 ∷ r ≡ commas (cell_texts ds) ++ 41 ∷ s → (cs ≡ ds) × (r ≡ s)
unfolding commas
same_cells_behind no_cells no_cells r s same e = (refl, ap tail e)
same_cells_behind no_cells (cell d ds) r s same e = absurd (apart 41 44 r _ refl e)
same_cells_behind (cell c cs) no_cells r s same e = absurd (apart 44 41 _ s refl e)
same_cells_behind (cell c cs) (cell d ds) r s same e = same (ap tail e)

same_terms_behind : (ts us : Terms) (r s : List ℕ) → (with_commas (term_texts ts) ++ 93 ∷ r ≡ with_commas (term_texts us) ++ 93 ∷ s → (ts ≡ us) × (r ≡ s)) →
    commas (term_texts ts) ++ 93 ∷ r ≡ commas (term_texts us) ++ 93 ∷ s → (ts ≡ us) × (r ≡ s)
unfolding commas
same_terms_behind no_terms no_terms r s same e = (refl, ap tail e)
same_terms_behind no_terms (term u us) r s same e = absurd (apart 93 44 r _ refl e)
same_terms_behind (term t ts) no_terms r s same e = absurd (apart 44 93 _ s refl e)
same_terms_behind (term t ts) (term u us) r s same e = same (ap tail e)

-- the same terms and cells, and the same behind them
mutual
  pub same_term : (d e : ℕ) (t u : Term) (r s : List ℕ) → IsTermWithin d t → IsTermWithin e u → term_text t ++ r ≡ term_text u ++ s → (t ≡ u) × (r ≡ s)
  same_term d e (Node a cs) (Node b ds) r s (p, (ha, ua), hc) (q, (hb, ub), hd) is =
      let flat = sym (term_flat a cs r) ∙ is ∙ term_flat b ds s in
      let words = same_word a b _ _ (name_inner a ha ua) (name_inner b hb ub) refl refl flat in
      let both = same_cells (d - 1) (e - 1) cs ds r s hc hd (ap tail words.1) in
      (λ i. Node (words.0 i) (both.0 i), both.1)

  same_cells : (d e : ℕ) (cs ds : Cells) (r s : List ℕ) → AreCellsWithin d cs → AreCellsWithin e ds
      → with_commas (cell_texts cs) ++ 41 ∷ r ≡ with_commas (cell_texts ds) ++ 41 ∷ s → (cs ≡ ds) × (r ≡ s)
  same_cells d e no_cells no_cells r s hc hd is = (refl, ap tail is)
  same_cells d e no_cells (cell b ds) r s hc hd is = absurd (cell_no_end e b _ r 41 hd.0 refl (sym (is ∙ unfold_commas (cell_text b) (cell_texts ds) (41 ∷ s))))
  same_cells d e (cell a cs) no_cells r s hc hd is = absurd (cell_no_end d a _ s 41 hc.0 refl (sym (unfold_commas (cell_text a) (cell_texts cs) (41 ∷ r)) ∙ is))
  same_cells d e (cell a cs) (cell b ds) r s hc hd is =
      let flat = sym (unfold_commas (cell_text a) (cell_texts cs) (41 ∷ r)) ∙ is ∙ unfold_commas (cell_text b) (cell_texts ds) (41 ∷ s) in
      let first = same_cell d e a b _ _ hc.0 hd.0 (commas_end (cell_texts cs) 41 r refl) (commas_end (cell_texts ds) 41 s refl) flat in
      let rest = same_cells_behind cs ds r s (same_cells d e cs ds r s hc.1 hd.1) first.1 in
      (λ i. cell (first.0 i) (rest.0 i), rest.1)

  same_cell : (d e : ℕ) (a b : Cell) (r s : List ℕ) → IsCellWithin d a → IsCellWithin e b → Ends r → Ends s → cell_text a ++ r ≡ cell_text b ++ s → (a ≡ b) × (r ≡ s)
  same_cell d e (One t) (One u) r s ha hb hr hs is = let both = same_term d e t u r s ha hb is in (ap One both.0, both.1)
  same_cell d e (One t) (Many us) r s ha hb hr hs is = absurd (term_no_delimiter d t r _ 91 ha refl refl is)
  same_cell d e (One t) Empty r s ha hb hr hs is = absurd (term_no_delimiter d t r _ 45 ha refl refl is)
  same_cell d e (One t) (Holds v) r s ha hb hr hs is = absurd (term_no_token d t v r s ha hb hs is)
  same_cell d e (Many ts) (One u) r s ha hb hr hs is = absurd (term_no_delimiter e u s _ 91 hb refl refl (sym is))
  same_cell d e (Many ts) (Many us) r s ha hb hr hs is =
      let both = same_terms d e ts us r s ha hb (ap tail (sym (list_flat ts r) ∙ is ∙ list_flat us s)) in
      (ap Many both.0, both.1)
  same_cell d e (Many ts) Empty r s ha hb hr hs is = absurd (apart 91 45 _ _ refl is)
  same_cell d e (Many ts) (Holds v) r s ha hb hr hs is = absurd (list_no_token _ v s hb hs is)
  same_cell d e Empty (One u) r s ha hb hr hs is = absurd (term_no_delimiter e u s _ 45 hb refl refl (sym is))
  same_cell d e Empty (Many us) r s ha hb hr hs is = absurd (apart 45 91 _ _ refl is)
  same_cell d e Empty Empty r s ha hb hr hs is = (refl, ap tail is)
  same_cell d e Empty (Holds v) r s ha hb hr hs is = absurd (empty_no_token r v s hr hb hs is)
  same_cell d e (Holds v) (One u) r s ha hb hr hs is = absurd (term_no_token e u v s r hb ha hr (sym is))
  same_cell d e (Holds v) (Many us) r s ha hb hr hs is = absurd (list_no_token _ v r ha hr (sym is))
  same_cell d e (Holds v) Empty r s ha hb hr hs is = absurd (empty_no_token s v r hs ha hr (sym is))
  same_cell d e (Holds v) (Holds w) r s ha hb hr hs is = let both = same_token v w r s ha hb hr hs is in (ap Holds both.0, both.1)

  same_terms : (d e : ℕ) (ts us : Terms) (r s : List ℕ) → AreTermsWithin d ts → AreTermsWithin e us
      → with_commas (term_texts ts) ++ 93 ∷ r ≡ with_commas (term_texts us) ++ 93 ∷ s → (ts ≡ us) × (r ≡ s)
  same_terms d e no_terms no_terms r s ht hu is = (refl, ap tail is)
  same_terms d e no_terms (term u us) r s ht hu is = absurd (term_no_end e u _ r 93 hu.0 refl (sym (is ∙ unfold_commas (term_text u) (term_texts us) (93 ∷ s))))
  same_terms d e (term t ts) no_terms r s ht hu is = absurd (term_no_end d t _ s 93 ht.0 refl (sym (unfold_commas (term_text t) (term_texts ts) (93 ∷ r)) ∙ is))
  same_terms d e (term t ts) (term u us) r s ht hu is =
      let flat = sym (unfold_commas (term_text t) (term_texts ts) (93 ∷ r)) ∙ is ∙ unfold_commas (term_text u) (term_texts us) (93 ∷ s) in
      let first = same_term d e t u _ _ ht.0 hu.0 flat in
      let rest = same_terms_behind ts us r s (same_terms d e ts us r s ht.1 hu.1) first.1 in
      (λ i. term (first.0 i) (rest.0 i), rest.1)
