-- The text of a term is run through, whatever stands open before it.
use Rattle.std.proofs.Common.{◌≡◌, ℕ, suc, ◌+◌, ◌-◌, ◌*◌, ◌<◌, ◌≤◌, ℤ, pos, negsuc, Bool, true, false, ◌||◌, ◌==◌, nat_lt, nat_le, List, [], ◌∷◌, ◌++◌, length, Option, Some, None, refl, ap, sym, ◌∙◌, append_assoc, append-nil, lit<, arith, encode_utf8_all}
use Rattle.std.specs.Prelude.{⊤, chars, encode_utf8, IsUtf8, ◌/◌, ◌%◌, codes}
use Rattle.std.specs.Char.{is_ascii_alphabetic, is_ascii_alphanumeric}
use Rattle.std.specs.List.{flat_map}
use Rattle.std.specs.Fmt.{decimal}
use Rattle.std.proofs.Math.Utf8.{scalar, scalars}
use Rattle.std.proofs.lemmas.Bool.Decides.{nat_tests}
use Rattle.std.proofs.lemmas.Grind.{flat_map-append}
use Rattle.std.proofs.lemmas.Str.{encode_ascii, chars-append, encodes-chars, scalars-chars}
use Rattle.unicode_ident.proofs.IdentLemmas.{is_xid_start-ascii, is_xid_continue-ascii}
use Rattle.at_model.specs.Names.{starts_name, continues_name, is_word, is_reserved}
use Rattle.at_model.specs.Texts.{escaped, quoted}
use Rattle.at_model.specs.Trees.{Token, Text, Int, Truth}
use Rattle.at_model.specs.Terms.{Term, Node, Cells, no_cells, cell, Cell, One, Many, Empty, Holds, Terms, no_terms, term, term_text, cell_texts, term_texts, cell_text, token_text, with_commas, IsTermWithin, IsCellWithin, AreCellsWithin, AreTermsWithin, IsInt32}
use Rattle.at_model.proofs.Options.{both, or_right}
use Rattle.at_tree.specs.View.{to_cells, to_terms}
use Rattle.at_tree.specs.Partial.{Level, Start, InWord, Dash, Digits, InText, Escape, Whole, Partial, at, is_digit, limit, can_open, begins_truth, may_be_word, complete, in_cell, after_word, first, in_digits, in_dash, in_text, step}
use Rattle.at_tree.proofs.Machine.{run, utf8_char, chars_char}
use Rattle.at_tree.proofs.Pieces.{same, other, not_true, run_byte, run_name, low_digit, run_decimal}
use Rattle.at_tree.proofs.Escapes.{plain_text}
use Rattle.at_tree.proofs.TermSteps.{room}

-- the run goes on from a partial term, or from a step
abbrev pub runs : Partial → List ℕ → Option Partial
runs p z = run step (Some p) (chars z)

abbrev pub from : Option Partial → List ℕ → Option Partial
from r z = run step r (chars z)

abbrev pub level : List ℕ → List Cell → Option (List Term) → Level
level name cells items = record { name = name; cells = cells; items = items }

-- what may stand behind a cell
record Closes (d : ℕ) : Type 0 where
  low : d < 128
  digit : is_digit d ≡ false
  word : continues_name d ≡ false
  paren : (d == 40) ≡ false

comma : Closes 44
comma = record { low = lit< tt; digit = refl; word = rw (is_xid_continue-ascii 44 (lit< tt)) refl; paren = refl }

close : Closes 41
close = record { low = lit< tt; digit = refl; word = rw (is_xid_continue-ascii 41 (lit< tt)) refl; paren = refl }

-- names
can : (fs : List Level) → length fs < 512 → can_open fs ≡ true
can fs h = grind (arith, nat_tests)

pub not_paren : (c : ℕ) → continues_name c ≡ true → (c == 40) ≡ false
not_paren c e = other c 40 (λ s. let f : continues_name 40 ≡ true = rw s at e in let g : continues_name 40 ≡ false = rw (is_xid_continue-ascii 40 (lit< tt)) refl in cc)

run_to_name : (fs : List Level) (name z : List ℕ) → length fs < 512 → is_word (chars name) ≡ true → IsUtf8 name → runs (at fs Start) (name ++ z) ≡ runs (at fs (InWord name)) z
run_to_name fs name z less e u = run_name step (at fs Start) (λ w. at fs (InWord w)) (λ c s. rw (s, can fs less) refl) (λ w c s. rw (not_paren c s, s, can fs less) refl) name z u e

opened : (fs : List Level) (name : List ℕ) → length fs < 512 → is_reserved name ≡ false → step (at fs (InWord name)) 40 ≡ Some (at (level name [] None ∷ fs) Start)
opened fs name less r = rw (can fs less, r) refl

-- what begins no name
starts_none : (c : ℕ) → c < 128 → is_ascii_alphabetic c ≡ false → (c == 95) ≡ false → starts_name c ≡ false
starts_none c h e f = rw (is_xid_start-ascii c h, e, f) refl

digit_starts_none : (n : ℕ) → n < 10 → starts_name (48 + n) ≡ false
digit_starts_none n h =
    let a : is_ascii_alphabetic (48 + n) ≡ false = grind (arith, nat_tests) in
    let b : (48 + n == 95) ≡ false = grind (arith, nat_tests) in
    starts_none (48 + n) (omega arith) a b

module _ (name : List ℕ) (cells : List Cell) (fs : List Level) where
  abbrev here : List Level
  here = level name cells None ∷ fs

  -- numbers
  first_digit : (n : ℕ) → n < 10 → first here (48 + n) ≡ Some (at here (Digits false n))
  first_digit n h =
      let e : 48 + n - 48 ≡ n = omega arith in
      rw (digit_starts_none n h, other (48 + n) 45 (λ e. omega arith), other (48 + n) 34 (λ e. omega arith), low_digit n h, e) refl

  dash_digit : (n : ℕ) → n < 10 → 0 < n → in_dash here (48 + n) ≡ Some (at here (Digits true n))
  dash_digit n h p =
      let e : 48 + n - 48 ≡ n = omega arith in
      rw (low_digit n h, other (48 + n) 48 (λ e. omega arith), e) refl

  next_digit : (minus : Bool) (n : ℕ) → 10 ≤ n → n ≤ limit minus → in_digits here minus (n / 10) (48 + n % 10) ≡ Some (at here (Digits minus n))
  next_digit minus n h l =
      let small : n % 10 < 10 = omega arith in
      let e : n / 10 * 10 + (48 + n % 10 - 48) ≡ n = omega arith in
      let p : nat_lt 0 (n / 10) ≡ true = grind (arith, nat_tests) in
      let q : nat_le n (limit minus) ≡ true = grind (arith, nat_tests) in
      rw (low_digit (n % 10) small, e, p, q) refl

  run_digits : (n : ℕ) (z : List ℕ) → n ≤ limit false → runs (at here Start) (decimal n ++ z) ≡ runs (at here (Digits false n)) z
  run_digits n z l = run_decimal step (at here Start) (λ n. at here (Digits false n)) 0 (limit false) (omega arith) (omega arith) (λ n h p. first_digit n h) (λ n h l. next_digit false n h l) n z (omega arith) l

  run_minus : (n : ℕ) (z : List ℕ) → 0 < n → n ≤ limit true → runs (at here Dash) (decimal n ++ z) ≡ runs (at here (Digits true n)) z
  run_minus n z p l = run_decimal step (at here Dash) (λ n. at here (Digits true n)) 1 (limit true) (omega arith) (omega arith) (λ n h p. dash_digit n h (omega arith)) (λ n h l. next_digit true n h l) n z (omega arith) l

  first_dash : first here 45 ≡ Some (at here Dash)
  first_dash = rw (starts_none 45 (lit< tt) refl refl) refl

  first_bracket : first here 91 ≡ Some (at (level name cells (Some []) ∷ fs) Start)
  first_bracket = rw (starts_none 91 (lit< tt) refl refl) refl

  first_quote : first here 34 ≡ Some (at here (InText []))
  first_quote = rw (starts_none 34 (lit< tt) refl refl) refl

  run_number : (n : ℤ) (d : ℕ) (z : List ℕ) → IsInt32 n → Closes d → runs (at here Start) (token_text (Int n) ++ d ∷ z) ≡ from (in_cell here (Holds (Int n)) d) z
  run_number (pos n) d z fits closes = run_digits n (d ∷ z) (omega arith) ∙ run_byte step (at here (Digits false n)) d z _ closes.low (rw closes.digit refl)
  run_number (negsuc n) d z fits closes =
      let e : suc n - 1 ≡ n = omega arith in
      run_byte step (at here Start) 45 (decimal (suc n) ++ d ∷ z) _ (lit< tt) first_dash ∙ run_minus (suc n) (d ∷ z) (omega arith) (omega arith)
      ∙ run_byte step (at here (Digits true (suc n))) d z _ closes.low (rw (closes.digit, e) refl)

  run_empty : (d : ℕ) (z : List ℕ) → Closes d → runs (at here Start) (45 ∷ d ∷ z) ≡ from (in_cell here Empty d) z
  run_empty d z closes = run_byte step (at here Start) 45 (d ∷ z) _ (lit< tt) first_dash ∙ run_byte step (at here Dash) d z _ closes.low (rw closes.digit refl)

  -- true and false
  may : (word : List ℕ) → begins_truth word ≡ true → may_be_word here word ≡ true
  may word e = or_right (can_open here) (begins_truth word) e

  first_letter : (c : ℕ) → c < 128 → is_ascii_alphabetic c ≡ true → begins_truth (c ∷ []) ≡ true → first here c ≡ Some (at here (InWord (c ∷ [])))
  first_letter c h a e = rw (is_xid_start-ascii c h, a, encode_ascii c h, may (c ∷ []) e) refl

  next_letter : (word : List ℕ) (c : ℕ) → c < 128 → (is_ascii_alphanumeric c || (c == 95)) ≡ true → (c == 40) ≡ false → begins_truth (word ++ c ∷ []) ≡ true → after_word here word c ≡ Some (at here (InWord (word ++ c ∷ [])))
  next_letter word c h a p e = rw (p, is_xid_continue-ascii c h, a, encode_ascii c h, may (word ++ c ∷ []) e) refl

  run_truth : (b : Bool) (d : ℕ) (z : List ℕ) → Closes d → runs (at here Start) (token_text (Truth b) ++ d ∷ z) ≡ from (in_cell here (Holds (Truth b)) d) z
  run_truth true d z closes =
      run_byte step (at here Start) 116 _ _ (lit< tt) (first_letter 116 (lit< tt) refl refl)
      ∙ run_byte step (at here (InWord (codes "t"))) 114 _ _ (lit< tt) (next_letter (codes "t") 114 (lit< tt) refl refl refl)
      ∙ run_byte step (at here (InWord (codes "tr"))) 117 _ _ (lit< tt) (next_letter (codes "tr") 117 (lit< tt) refl refl refl)
      ∙ run_byte step (at here (InWord (codes "tru"))) 101 _ _ (lit< tt) (next_letter (codes "tru") 101 (lit< tt) refl refl refl)
      ∙ run_byte step (at here (InWord (codes "true"))) d z _ closes.low (rw (closes.paren, closes.word) refl)
  run_truth false d z closes =
      run_byte step (at here Start) 102 _ _ (lit< tt) (first_letter 102 (lit< tt) refl refl)
      ∙ run_byte step (at here (InWord (codes "f"))) 97 _ _ (lit< tt) (next_letter (codes "f") 97 (lit< tt) refl refl refl)
      ∙ run_byte step (at here (InWord (codes "fa"))) 108 _ _ (lit< tt) (next_letter (codes "fa") 108 (lit< tt) refl refl refl)
      ∙ run_byte step (at here (InWord (codes "fal"))) 115 _ _ (lit< tt) (next_letter (codes "fal") 115 (lit< tt) refl refl refl)
      ∙ run_byte step (at here (InWord (codes "fals"))) 101 _ _ (lit< tt) (next_letter (codes "fals") 101 (lit< tt) refl refl refl)
      ∙ run_byte step (at here (InWord (codes "false"))) d z _ closes.low (rw (closes.paren, closes.word) refl)

  -- quoted texts
  run_escape : (text : List ℕ) (c d : ℕ) (z : List ℕ) → c < 128 → d < 128 → escaped d ≡ 92 ∷ c ∷ [] → step (at here (Escape text)) c ≡ Some (at here (InText (text ++ encode_utf8 d))) → runs (at here (InText text)) (flat_map escaped (encode_utf8 d) ++ z) ≡ runs (at here (InText (text ++ encode_utf8 d))) z
  run_escape text c d z h l e goes =
      let bytes : flat_map escaped (encode_utf8 d) ≡ 92 ∷ c ∷ [] = rw (encode_ascii d l, e) refl in
      ap (λ y. runs (at here (InText text)) (y ++ z)) bytes
      ∙ run_byte step (at here (InText text)) 92 (c ∷ z) _ (lit< tt) refl ∙ run_byte step (at here (Escape text)) c z _ h goes

  run_char : (text : List ℕ) (c : ℕ) (z : List ℕ) → scalar c ≡ true → runs (at here (InText text)) (flat_map escaped (encode_utf8 c) ++ z) ≡ runs (at here (InText (text ++ encode_utf8 c))) z
  run_char text c z s = quote (c == 34) refl
    where
      tab : (c == 34) ≡ false → (c == 92) ≡ false → (c == 10) ≡ false → (b : Bool) → (c == 9) ≡ b → runs (at here (InText text)) (flat_map escaped (encode_utf8 c) ++ z) ≡ runs (at here (InText (text ++ encode_utf8 c))) z
      tab q b n true e = let is : c ≡ 9 = same c 9 e in rw is (run_escape text 116 9 z (lit< tt) (lit< tt) refl refl)
      tab q b n false e =
          ap (λ y. runs (at here (InText text)) (y ++ z)) (plain_text c q b n e)
          ∙ ap (λ y. run step (Some (at here (InText text))) y) (chars-append (encode_utf8 c) z (utf8_char c s) ∙ ap (λ y. y ++ chars z) (chars_char c s))
          ∙ ap (λ y. run step y (chars z)) goes
        where
          goes : in_text here text c ≡ Some (at here (InText (text ++ encode_utf8 c)))
          goes = rw (q, b, n, e) refl

      newline : (c == 34) ≡ false → (c == 92) ≡ false → (b : Bool) → (c == 10) ≡ b → runs (at here (InText text)) (flat_map escaped (encode_utf8 c) ++ z) ≡ runs (at here (InText (text ++ encode_utf8 c))) z
      newline q b true e = let is : c ≡ 10 = same c 10 e in rw is (run_escape text 110 10 z (lit< tt) (lit< tt) refl refl)
      newline q b false e = tab q b e (c == 9) refl

      backslash : (c == 34) ≡ false → (b : Bool) → (c == 92) ≡ b → runs (at here (InText text)) (flat_map escaped (encode_utf8 c) ++ z) ≡ runs (at here (InText (text ++ encode_utf8 c))) z
      backslash q true e = let is : c ≡ 92 = same c 92 e in rw is (run_escape text 92 92 z (lit< tt) (lit< tt) refl refl)
      backslash q false e = newline q e (c == 10) refl

      quote : (b : Bool) → (c == 34) ≡ b → runs (at here (InText text)) (flat_map escaped (encode_utf8 c) ++ z) ≡ runs (at here (InText (text ++ encode_utf8 c))) z
      quote true e = let is : c ≡ 34 = same c 34 e in rw is (run_escape text 34 34 z (lit< tt) (lit< tt) refl refl)
      quote false e = backslash e (c == 92) refl

  run_chars : (cs : List ℕ) (text : List ℕ) (z : List ℕ) → scalars cs ≡ true → runs (at here (InText text)) (flat_map escaped (encode_utf8_all cs) ++ z) ≡ runs (at here (InText (text ++ encode_utf8_all cs))) z
  run_chars [] text z e = rw append-nil refl
  run_chars (c ∷ cs) text z e =
      let f = both (scalar c) (scalars cs) e in
      let bytes : flat_map escaped (encode_utf8_all (c ∷ cs)) ++ z ≡ flat_map escaped (encode_utf8 c) ++ (flat_map escaped (encode_utf8_all cs) ++ z) =
      rw (flat_map-append escaped (encode_utf8 c) (encode_utf8_all cs)) (append_assoc (flat_map escaped (encode_utf8 c)) _ z) in
      ap (λ y. runs (at here (InText text)) y) bytes ∙ run_char text c _ f.0 ∙ run_chars cs (text ++ encode_utf8 c) z f.1 ∙ ap (λ y. runs (at here (InText y)) z) (append_assoc text (encode_utf8 c) (encode_utf8_all cs))

  run_text : (text : List ℕ) (d : ℕ) (z : List ℕ) → IsUtf8 text → Closes d → runs (at here Start) (quoted text ++ d ∷ z) ≡ from (in_cell here (Holds (Text text)) d) z
  run_text text d z u closes =
      let all : encode_utf8_all (chars text) ≡ text = encodes-chars text u in
      run_byte step (at here Start) 34 ((flat_map escaped text ++ 34 ∷ []) ++ d ∷ z) _ (lit< tt) first_quote
      ∙ ap (λ y. runs (at here (InText [])) y) (append_assoc (flat_map escaped text) (34 ∷ []) (d ∷ z))
      ∙ ap (λ y. runs (at here (InText [])) (flat_map escaped y ++ 34 ∷ d ∷ z)) (sym all)
      ∙ run_chars (chars text) [] (34 ∷ d ∷ z) (scalars-chars text u)
      ∙ ap (λ y. runs (at here (InText y)) (34 ∷ d ∷ z)) all
      ∙ run_byte step (at here (InText text)) 34 (d ∷ z) _ (lit< tt) refl
      ∙ run_byte step (at here (Whole (Holds (Text text)))) d z _ closes.low refl

-- cells and items in a row
abbrev pub with_cells : List Cell → Cells → Cells
with_cells [] cs = cs
with_cells (x ∷ xs) cs = cell x (with_cells xs cs)

abbrev pub with_terms : List Term → Terms → Terms
with_terms [] ts = ts
with_terms (x ∷ xs) ts = term x (with_terms xs ts)

last_cell : (xs : List Cell) (x : Cell) → to_cells (xs ++ x ∷ []) ≡ with_cells xs (cell x no_cells)
last_cell [] x = refl
last_cell (y ∷ xs) x = ap (cell y) (last_cell xs x)

next_cell : (xs : List Cell) (x : Cell) (cs : Cells) → with_cells (xs ++ x ∷ []) cs ≡ with_cells xs (cell x cs)
next_cell [] x cs = refl
next_cell (y ∷ xs) x cs = ap (cell y) (next_cell xs x cs)

last_term : (xs : List Term) (x : Term) → to_terms (xs ++ x ∷ []) ≡ with_terms xs (term x no_terms)
last_term [] x = refl
last_term (y ∷ xs) x = ap (term y) (last_term xs x)

next_term : (xs : List Term) (x : Term) (cs : Terms) → with_terms (xs ++ x ∷ []) cs ≡ with_terms xs (term x cs)
next_term [] x cs = refl
next_term (y ∷ xs) x cs = ap (term y) (next_term xs x cs)

-- no comma stands before nothing
abbrev pub NoneBefore : List Cell → Cells → Type 0
NoneBefore xs no_cells = xs ≡ []
NoneBefore xs (cell c cs) = ⊤

abbrev pub NoItemBefore : List Term → Terms → Type 0
NoItemBefore xs no_terms = xs ≡ []
NoItemBefore xs (term t ts) = ⊤

-- what the induction shows of each part
abbrev pub RunsTerm : Term → Type 0
RunsTerm t = (fs : List Level) (z : List ℕ) → IsTermWithin (room fs) t → runs (at fs Start) (term_text t ++ z) ≡ runs (complete fs t) z

abbrev RunsCells : Cells → Type 0
RunsCells cs = (name : List ℕ) (xs : List Cell) (fs : List Level) (z : List ℕ) → AreCellsWithin (512 - suc (length fs)) cs → NoneBefore xs cs →
    runs (at (level name xs None ∷ fs) Start) (with_commas (cell_texts cs) ++ 41 ∷ z) ≡ runs (complete fs (Node name (with_cells xs cs))) z

abbrev RunsCell : Cell → Type 0
RunsCell x = (name : List ℕ) (xs : List Cell) (fs : List Level) (d : ℕ) (z : List ℕ) → IsCellWithin (512 - suc (length fs)) x → Closes d →
    runs (at (level name xs None ∷ fs) Start) (cell_text x ++ d ∷ z) ≡ from (in_cell (level name xs None ∷ fs) x d) z

abbrev RunsTerms : Terms → Type 0
RunsTerms ts = (name : List ℕ) (xs : List Cell) (items : List Term) (fs : List Level) (z : List ℕ) → AreTermsWithin (512 - suc (length fs)) ts → NoItemBefore items ts →
    runs (at (level name xs (Some items) ∷ fs) Start) (with_commas (term_texts ts) ++ 93 ∷ z) ≡ runs (at (level name xs None ∷ fs) (Whole (Many (with_terms items ts)))) z

node_runs : (name : List ℕ) (cells : Cells) → RunsCells cells → RunsTerm (Node name cells)
node_runs name cells more fs z fits =
    let p = both (is_word (chars name)) _ fits.1.0 in
    let less : length fs < 512 = omega (arith, fits.0) in
    let e : room fs - 1 ≡ 512 - suc (length fs) = omega arith in
    let inner : AreCellsWithin (512 - suc (length fs)) cells = rw e at fits.2 in
    let text : term_text (Node name cells) ++ z ≡ name ++ 40 ∷ (with_commas (cell_texts cells) ++ 41 ∷ z) = simp append_assoc in
    ap (λ y. runs (at fs Start) y) text ∙ run_to_name fs name (40 ∷ (with_commas (cell_texts cells) ++ 41 ∷ z)) less p.0 fits.1.1
    ∙ run_byte step (at fs (InWord name)) 40 (with_commas (cell_texts cells) ++ 41 ∷ z) _ (lit< tt) (opened fs name less (not_true (is_reserved name) p.1))
    ∙ more name [] fs z inner (first_or cells)
  where
    first_or : (cs : Cells) → NoneBefore [] cs
    first_or no_cells = refl
    first_or (cell c cs) = tt

no_cells_run : RunsCells no_cells
no_cells_run name xs fs z fits none = rw none (run_byte step (at (level name [] None ∷ fs) Start) 41 z _ (lit< tt) (rw (starts_none 41 (lit< tt) refl refl) refl))

cells_run : (x : Cell) (cs : Cells) → RunsCell x → RunsCells cs → RunsCells (cell x cs)
cells_run x no_cells one more name xs fs z fits none = one name xs fs 41 z fits.0 close ∙ rw (last_cell xs x) refl
cells_run x (cell y cs) one more name xs fs z fits none =
    ap (λ w. runs (at (level name xs None ∷ fs) Start) w) (append_assoc (cell_text x) (44 ∷ with_commas (cell_texts (cell y cs))) (41 ∷ z))
    ∙ one name xs fs 44 (with_commas (cell_texts (cell y cs)) ++ 41 ∷ z) fits.0 comma ∙ more name (xs ++ x ∷ []) fs z fits.1 tt ∙ ap (λ w. runs (complete fs (Node name w)) z) (next_cell xs x (cell y cs))

many_runs : (ts : Terms) → RunsTerms ts → RunsCell (Many ts)
many_runs ts more name xs fs d z fits closes =
    let text : cell_text (Many ts) ++ d ∷ z ≡ 91 ∷ (with_commas (term_texts ts) ++ 93 ∷ d ∷ z) = simp append_assoc in
    ap (λ y. runs (at (level name xs None ∷ fs) Start) y) text
    ∙ run_byte step (at (level name xs None ∷ fs) Start) 91 (with_commas (term_texts ts) ++ 93 ∷ d ∷ z) _ (lit< tt) (first_bracket name xs fs)
    ∙ more name xs [] fs (d ∷ z) fits (first_or ts)
    ∙ run_byte step (at (level name xs None ∷ fs) (Whole (Many ts))) d z _ closes.low refl
  where
    first_or : (ts : Terms) → NoItemBefore [] ts
    first_or no_terms = refl
    first_or (term c cs) = tt

no_terms_run : RunsTerms no_terms
no_terms_run name xs items fs z fits none = rw none (run_byte step (at (level name xs (Some []) ∷ fs) Start) 93 z _ (lit< tt) (rw (starts_none 93 (lit< tt) refl refl) refl))

terms_run : (t : Term) (ts : Terms) → RunsTerm t → RunsTerms ts → RunsTerms (term t ts)
terms_run t no_terms one more name xs items fs z fits none =
    one (level name xs (Some items) ∷ fs) (93 ∷ z) fits.0 ∙ run_byte step (complete (level name xs (Some items) ∷ fs) t) 93 z _ (lit< tt) refl ∙ rw (last_term items t) refl
terms_run t (term y ts) one more name xs items fs z fits none =
    ap (λ w. runs (at (level name xs (Some items) ∷ fs) Start) w) (append_assoc (term_text t) (44 ∷ with_commas (term_texts (term y ts))) (93 ∷ z))
    ∙ one (level name xs (Some items) ∷ fs) (44 ∷ (with_commas (term_texts (term y ts)) ++ 93 ∷ z)) fits.0
    ∙ run_byte step (complete (level name xs (Some items) ∷ fs) t) 44 (with_commas (term_texts (term y ts)) ++ 93 ∷ z) _ (lit< tt) refl
    ∙ more name xs (items ++ t ∷ []) fs z fits.1 tt ∙ ap (λ w. runs (at (level name xs None ∷ fs) (Whole (Many w))) z) (next_term items t (term y ts))

one_runs : (t : Term) → RunsTerm t → RunsCell (One t)
one_runs t one name xs fs d z fits closes = one (level name xs None ∷ fs) (d ∷ z) fits ∙ run_byte step (complete (level name xs None ∷ fs) t) d z _ closes.low refl

token_runs : (v : Token) → RunsCell (Holds v)
token_runs (Text text) name xs fs d z fits closes = run_text name xs fs text d z fits closes
token_runs (Int n) name xs fs d z fits closes = run_number name xs fs n d z fits closes
token_runs (Truth b) name xs fs d z fits closes = run_truth name xs fs b d z closes

mutual
  pub run_term : (t : Term) → RunsTerm t
  run_term (Node name cells) = node_runs name cells (run_cells cells)

  run_cells : (cs : Cells) → RunsCells cs
  run_cells no_cells = no_cells_run
  run_cells (cell x cs) = cells_run x cs (run_cell x) (run_cells cs)

  run_cell : (x : Cell) → RunsCell x
  run_cell (One t) = one_runs t (run_term t)
  run_cell (Many ts) = many_runs ts (run_terms ts)
  run_cell Empty = λ name xs fs d z fits closes. run_empty name xs fs d z closes
  run_cell (Holds v) = token_runs v

  run_terms : (ts : Terms) → RunsTerms ts
  run_terms no_terms = no_terms_run
  run_terms (term t ts) = terms_run t ts (run_term t) (run_terms ts)
