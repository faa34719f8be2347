-- Each step of the reader of terms keeps that the terms fit, and adds its character to the text.
use Rattle.std.proofs.Common.{◌≡◌, ℕ, suc, ◌+◌, ◌-◌, ◌*◌, ◌<◌, ◌≤◌, Bool, true, false, ◌&&◌, ◌||◌, ◌==◌, nat_lt, nat_le, not, List, [], ◌∷◌, ◌++◌, length, Option, Some, None, refl, ap, ◌∙◌, subst, append_assoc, lit<, arith}
use Rattle.std.specs.Prelude.{⊤, chars, encode_utf8, IsUtf8, option_map, codes, ◌^◌}
use Rattle.std.specs.List.{flat_map}
use Rattle.std.specs.Str.{bytes_eq}
use Rattle.std.specs.Fmt.{decimal}
use Rattle.std.proofs.Math.Utf8.{scalar}
use Rattle.std.proofs.lemmas.Grind.{flat_map-append}
use Rattle.std.proofs.lemmas.Bool.Decides.{nat_tests}
use Rattle.std.proofs.lemmas.Slice.Eq.{bytes_eq-Decides}
use Rattle.std.proofs.lemmas.Str.{IsUtf8-append, IsUtf8-nil}
use Rattle.at_model.specs.Names.{starts_name, continues_name, is_word, is_name, is_reserved}
use Rattle.at_model.specs.Texts.{escaped}
use Rattle.at_model.specs.Trees.{Int, Truth}
use Rattle.at_model.specs.Terms.{Term, Node, Cells, no_cells, Cell, Empty, Holds, term_text, cell_text, token_text, IsTermWithin, IsCellWithin, AreCellsWithin, AreTermsWithin, IsInt32}
use Rattle.at_model.proofs.Options.{both}
use Rattle.at_tree.specs.View.{to_cells, to_terms}
use Rattle.at_tree.specs.Partial.{Level, Place, Start, InWord, Dash, Digits, InText, Escape, Whole, Item, Done, Partial, is_empty, is_digit, limit, integer, takes_cell, can_open, truth_of, whole_in, complete, in_cell, in_item_of, in_item, may_be_word, in_word, after_truth, after_word, first_in, first_inside, first, in_digits, in_dash, in_text, unescaped, in_escape, step_at, step}
use Rattle.at_tree.proofs.Machine.{utf8_char}
use Rattle.at_tree.proofs.Pieces.{choose, OnStep, ascii, word_one, word_longer, digit_bounds, digit_bytes, one_digit, more_digits}
use Rattle.at_tree.proofs.Escapes.{plain_text, unescaped_text}
use Rattle.at_tree.proofs.TermSpelled.{openings, number_text, place_text, spelled, cell_texts_of, term_texts_of}

-- how many terms may stand in one another behind these open ones
abbrev pub room : List Level → ℕ
room fs = 512 - length fs

abbrev pub ItemsFit : ℕ → Option (List Term) → Type 0
ItemsFit d None = ⊤
ItemsFit d (Some ts) = AreTermsWithin d (to_terms ts)

pub record LevelFits (d : ℕ) (f : Level) : Type 0 where
  pub name : is_name f.name ≡ true
  pub utf8 : IsUtf8 f.name
  pub cells : AreCellsWithin d (to_cells f.cells)
  pub items : ItemsFit d f.items

abbrev pub LevelsFit : List Level → Type 0
LevelsFit [] = ⊤
LevelsFit (f ∷ fs) = (length fs < 512) × LevelFits (room (f ∷ fs)) f × LevelsFit fs

abbrev pub TakesCell : List Level → Type 0
TakesCell [] = ⊥
TakesCell (f ∷ fs) = f.items ≡ None

abbrev pub TakesItem : List Level → Type 0
TakesItem [] = ⊥
TakesItem (f ∷ fs) = (ts : List Term) × (f.items ≡ Some ts)

abbrev pub IsFirst : List Level → Type 0
IsFirst [] = ⊤
IsFirst (f ∷ fs) = ⊥

abbrev pub PlaceFits : List Level → Place → Type 0
PlaceFits fs Start = ⊤
PlaceFits fs (InWord word) = (is_word (chars word) ≡ true) × IsUtf8 word × (may_be_word fs word ≡ true)
PlaceFits fs Dash = TakesCell fs
PlaceFits fs (Digits minus n) = TakesCell fs × (n ≤ limit minus) × (minus ≡ true → 0 < n)
PlaceFits fs (InText text) = TakesCell fs × IsUtf8 text
PlaceFits fs (Escape text) = TakesCell fs × IsUtf8 text
PlaceFits fs (Whole x) = TakesCell fs × IsCellWithin (room fs) x
PlaceFits fs (Item t) = TakesItem fs × IsTermWithin (room fs) t
PlaceFits fs (Done t) = IsFirst fs × IsTermWithin 512 t

pub record PartialFits (p : Partial) : Type 0 where
  pub levels : LevelsFit p.levels
  pub place : PlaceFits p.levels p.place

abbrev pub Steps : List ℕ → ℕ → Option Partial → Type 0
Steps before c r = OnStep PartialFits spelled before c r

pub cells_fit_push : (d : ℕ) (cs : List Cell) (x : Cell) → AreCellsWithin d (to_cells cs) → IsCellWithin d x → AreCellsWithin d (to_cells (cs ++ x ∷ []))
cells_fit_push d [] x e h = (h, tt)
cells_fit_push d (c ∷ cs) x e h = (e.0, cells_fit_push d cs x e.1 h)

pub terms_fit_push : (d : ℕ) (cs : List Term) (x : Term) → AreTermsWithin d (to_terms cs) → IsTermWithin d x → AreTermsWithin d (to_terms (cs ++ x ∷ []))
terms_fit_push d [] x e h = (h, tt)
terms_fit_push d (c ∷ cs) x e h = (e.0, terms_fit_push d cs x e.1 h)

-- a term with these cells fits where it was opened
pub node_fits : (fs : List Level) (name : List ℕ) (cells : Cells) → length fs < 512 → is_name name ≡ true → IsUtf8 name → AreCellsWithin (512 - suc (length fs)) cells → IsTermWithin (room fs) (Node name cells)
node_fits fs name cells less n u h = (omega arith, (n, u), (let e : 512 - suc (length fs) ≡ room fs - 1 = omega arith in rw e at h))

complete_fits : (fs : List Level) (t : Term) → LevelsFit fs → IsTermWithin (room fs) t → PartialFits (complete fs t)
complete_fits [] t e h = record { levels = tt; place = (tt, h) }
complete_fits (f ∷ fs) t e h = record { levels = e; place = whole f.items refl }
  where
    whole : (items : Option (List Term)) → f.items ≡ items → PlaceFits (f ∷ fs) (whole_in items t)
    whole None i = (i, h)
    whole (Some ts) i = ((ts, i), h)

complete_text : (fs : List Level) (t : Term) → spelled (complete fs t) ≡ openings fs ++ term_text t
complete_text [] t = refl
complete_text (f ∷ fs) t = ap (λ y. openings (f ∷ fs) ++ y) (whole f.items)
  where
    whole : (items : Option (List Term)) → place_text (whole_in items t) ≡ term_text t
    whole None = refl
    whole (Some ts) = refl

-- cells and items
cell_steps : (fs : List Level) (x : Cell) (c : ℕ) → LevelsFit fs → TakesCell fs → IsCellWithin (room fs) x → Steps (openings fs ++ cell_text x) c (in_cell fs x c)
cell_steps [] x c l takes h = tt
cell_steps (f ∷ fs) x c l takes h =
    let Goes = Steps (openings (f ∷ fs) ++ cell_text x) c in
    choose Goes (c == 44) _ _
    (λ e. (
      record { levels = (l.0, record { name = l.1.name; utf8 = l.1.utf8; cells = cells_fit_push _ f.cells x l.1.cells h; items = l.1.items }, l.2); place = tt },
      rw (ascii c 44 (lit< tt) e, takes, flat_map-append (λ y. cell_text y ++ 44 ∷ []) f.cells (x ∷ [])) (simp append_assoc),
    ))
    (λ e. choose Goes (c == 41) _ _
    (λ g. (
      complete_fits fs _ l.2 (node_fits fs f.name _ l.0 l.1.name l.1.utf8 (cells_fit_push _ f.cells x l.1.cells h)),
      complete_text fs _ ∙ rw (ascii c 41 (lit< tt) g, takes, cell_texts_of f.cells x) (simp append_assoc),
    ))
    (λ g. tt))

item_steps_of : (f : Level) (fs : List Level) (items : Option (List Term)) (t : Term) (c : ℕ) → f.items ≡ items → LevelsFit (f ∷ fs) → IsTermWithin (room (f ∷ fs)) t → Steps (openings (f ∷ fs) ++ term_text t) c (in_item_of f fs items t c)
item_steps_of f fs None t c is l h = tt
item_steps_of f fs (Some ts) t c is l h =
    let fit : AreTermsWithin (room (f ∷ fs)) (to_terms ts) = rw is at l.1.items in
    let Goes = Steps (openings (f ∷ fs) ++ term_text t) c in
    choose Goes (c == 44) _ _
    (λ e. (
      record { levels = (l.0, record { name = l.1.name; utf8 = l.1.utf8; cells = l.1.cells; items = terms_fit_push _ ts t fit h }, l.2); place = tt },
      rw (ascii c 44 (lit< tt) e, is, flat_map-append (λ y. term_text y ++ 44 ∷ []) ts (t ∷ [])) (simp append_assoc),
    ))
    (λ e. choose Goes (c == 93) _ _
    (λ g. (
      record { levels = (l.0, record { name = l.1.name; utf8 = l.1.utf8; cells = l.1.cells; items = tt }, l.2); place = (refl, terms_fit_push _ ts t fit h) },
      rw (ascii c 93 (lit< tt) g, is, term_texts_of ts t) (simp append_assoc),
    ))
    (λ g. tt))

item_steps : (fs : List Level) (t : Term) (c : ℕ) → LevelsFit fs → IsTermWithin (room fs) t → Steps (openings fs ++ term_text t) c (in_item fs t c)
item_steps [] t c l h = tt
item_steps (f ∷ fs) t c l h = item_steps_of f fs f.items t c refl l h

-- words
pub opens : (fs : List Level) → can_open fs ≡ true → length fs < 512
opens fs e = grind (arith, nat_tests)

pub takes : (fs : List Level) → takes_cell fs ≡ true → TakesCell fs
takes [] e = cc
takes (f ∷ fs) e = of f.items refl e
  where
    of : (items : Option (List Term)) → f.items ≡ items → elim items [ None ↦ true | Some ts ↦ false ] ≡ true → f.items ≡ None
    of None is e = is
    of (Some ts) is e = cc

pub truth_text : (word : List ℕ) (b : Bool) → truth_of word ≡ Some b → word ≡ token_text (Truth b)
truth_text word b e =
    choose Says (bytes_eq word (codes "true")) _ _
    (λ t b f. let is : true ≡ b = cc in rw (← is) ((bytes_eq-Decides word (codes "true")).0 t))
    (λ _. choose Says (bytes_eq word (codes "false")) _ _
    (λ t b f. let is : false ≡ b = cc in rw (← is) ((bytes_eq-Decides word (codes "false")).0 t))
    (λ _ b f. cc)) b e
  where
    Says : Option Bool → Type 0
    Says o = (b : Bool) → o ≡ Some b → word ≡ token_text (Truth b)

in_word_steps : (fs : List Level) (before : List ℕ) (word : List ℕ) (c : ℕ) → LevelsFit fs → is_word (chars word) ≡ true → IsUtf8 word → openings fs ++ word ≡ before ++ encode_utf8 c → Steps before c (in_word fs word)
in_word_steps fs before word c l w u text = choose (Steps before c) (may_be_word fs word) _ _ (λ e. (record { levels = l; place = (w, u, e) }, text)) (λ _. tt)

truth_steps : (fs : List Level) (word : List ℕ) (c : ℕ) (truth : Option Bool) → truth_of word ≡ truth → LevelsFit fs → Steps (openings fs ++ word) c (after_truth fs truth c)
truth_steps fs word c None is l = tt
truth_steps fs word c (Some b) is l =
    choose (Steps (openings fs ++ word) c) (takes_cell fs) _ _
    (λ e. rw (truth_text word b is) (cell_steps fs (Holds (Truth b)) c l (takes fs e) tt))
    (λ _. tt)

word_steps : (fs : List Level) (word : List ℕ) (c : ℕ) → scalar c ≡ true → LevelsFit fs → PlaceFits fs (InWord word) → Steps (openings fs ++ word) c (after_word fs word c)
word_steps fs word c s l p =
    let Goes = Steps (openings fs ++ word) c in
    choose Goes (c == 40) _ _
    (λ e. choose Goes (can_open fs && not (is_reserved word)) _ _
    (λ o. let q = both (can_open fs) _ o in
    let name : is_name word ≡ true = rw (p.0, q.1) refl in (
      record { levels = (opens fs q.0, record { name = name; utf8 = p.1; cells = tt; items = tt }, l); place = tt },
      rw (ascii c 40 (lit< tt) e) (simp append_assoc),
    ))
    (λ _. tt))
    (λ _. choose Goes (continues_name c) _ _
    (λ e. in_word_steps fs _ (word ++ encode_utf8 c) c l (word_longer word c s p.1 p.0 e) (IsUtf8-append word (encode_utf8 c) p.1 (utf8_char c s)) (simp append_assoc))
    (λ _. truth_steps fs word c (truth_of word) refl l))

-- numbers
pub integer_text : (minus : Bool) (n : ℕ) → (minus ≡ true → 0 < n) → cell_text (Holds (Int (integer minus n))) ≡ number_text minus n
integer_text false n h = refl
integer_text true n h = let p = h refl in let e : suc (n - 1) ≡ n = omega arith in ap (λ k. 45 ∷ decimal k) e

pub integer_fits : (minus : Bool) (n : ℕ) → n ≤ limit minus → (minus ≡ true → 0 < n) → IsInt32 (integer minus n)
integer_fits false n l h = omega arith
integer_fits true n l h = let p = h refl in omega arith

limit_small : (minus : Bool) (n : ℕ) → n ≤ limit minus → n < 2 ^ 32
limit_small false n h = omega arith
limit_small true n h = omega arith

number_more : (minus : Bool) (n c : ℕ) → is_digit c ≡ true → 0 < n → n < 2 ^ 32 → number_text minus (n * 10 + (c - 48)) ≡ number_text minus n ++ c ∷ []
number_more false n c e p s = more_digits n c e p s
number_more true n c e p s = ap (λ y. 45 ∷ y) (more_digits n c e p s)

digits_steps : (fs : List Level) (minus : Bool) (n c : ℕ) → LevelsFit fs → TakesCell fs → n ≤ limit minus → (minus ≡ true → 0 < n) → Steps (openings fs ++ number_text minus n) c (in_digits fs minus n c)
digits_steps fs minus n c l takes most h =
    choose (Steps (openings fs ++ number_text minus n) c) (is_digit c && (nat_lt 0 n && nat_le (n * 10 + (c - 48)) (limit minus))) _ _
    (λ e. let p = both (is_digit c) _ e in let q = both (nat_lt 0 n) _ p.1 in
    let positive : 0 < n = grind (arith, nat_tests, q.0) in
    let within : n * 10 + (c - 48) ≤ limit minus = grind (arith, nat_tests, q.1) in (
      record { levels = l; place = (takes, within, λ m. omega arith) },
      rw (number_more minus n c p.0 positive (limit_small minus n most), digit_bytes c p.0) (simp append_assoc),
    ))
    (λ e. subst (λ y. Steps (openings fs ++ y) c (in_cell fs (Holds (Int (integer minus n))) c)) (integer_text minus n h)
    (cell_steps fs (Holds (Int (integer minus n))) c l takes (integer_fits minus n most h)))

dash_steps : (fs : List Level) (c : ℕ) → LevelsFit fs → TakesCell fs → Steps (openings fs ++ 45 ∷ []) c (in_dash fs c)
dash_steps fs c l takes =
    choose (Steps (openings fs ++ 45 ∷ []) c) (is_digit c && not (c == 48)) _ _
    (λ e. let p = both (is_digit c) _ e in
    let b = digit_bounds c p.0 in
    let other : (c ≡ 48) → ⊥ = λ z. differs z p.1 in (
      record { levels = l; place = (takes, omega (arith, b.0, b.1), λ m. omega (arith, b.0, b.1, other)) },
      rw (one_digit c p.0, digit_bytes c p.0) (simp append_assoc),
    ))
    (λ e. cell_steps fs Empty c l takes tt)
  where
    differs : {c : ℕ} → c ≡ 48 → not (c == 48) ≡ true → ⊥
    differs {c} z e = let f : not (48 == 48) ≡ true = rw z at e in cc

-- quoted texts
text_steps : (fs : List Level) (text : List ℕ) (c : ℕ) → scalar c ≡ true → LevelsFit fs → TakesCell fs → IsUtf8 text → Steps (openings fs ++ 34 ∷ flat_map escaped text) c (in_text fs text c)
text_steps fs text c s l takes u =
    let Goes = Steps (openings fs ++ 34 ∷ flat_map escaped text) c in
    choose Goes (c == 34) _ _ (λ e. (record { levels = l; place = (takes, u) }, rw (ascii c 34 (lit< tt) e) (simp append_assoc)))
    (λ q. choose Goes (c == 92) _ _ (λ e. (record { levels = l; place = (takes, u) }, rw (ascii c 92 (lit< tt) e) (simp append_assoc)))
    (λ b. choose Goes ((c == 10) || (c == 9)) _ _ (λ _. tt)
    (λ e. let f = neither (c == 10) (c == 9) e in (
      record { levels = l; place = (takes, IsUtf8-append text (encode_utf8 c) u (utf8_char c s)) },
      rw (flat_map-append escaped text (encode_utf8 c), plain_text c q b f.0 f.1) (simp append_assoc),
    ))))
  where
    neither : (a b : Bool) → (a || b) ≡ false → (a ≡ false) × (b ≡ false)
    neither true b e = cc
    neither false b e = (refl, e)

escape_steps : (fs : List Level) (text : List ℕ) (c : ℕ) → LevelsFit fs → TakesCell fs → IsUtf8 text → Steps (openings fs ++ 34 ∷ (flat_map escaped text ++ 92 ∷ [])) c (in_escape fs text c)
escape_steps fs text c l takes u = of (unescaped c) refl
  where
    of : (o : Option ℕ) → unescaped c ≡ o → Steps (openings fs ++ 34 ∷ (flat_map escaped text ++ 92 ∷ [])) c (option_map (λ d. record { levels = fs; place = InText (text ++ encode_utf8 d) }) o)
    of None is = tt
    of (Some d) is =
        let t = unescaped_text c d is in (
          record { levels = l; place = (takes, IsUtf8-append text (encode_utf8 d) u (utf8_char d t.0)) },
          rw (flat_map-append escaped text (encode_utf8 d), t.1) (simp append_assoc),
        )

-- the first character
empty : {A : Type 0} → (xs : List A) → is_empty xs ≡ true → xs ≡ []
empty [] e = refl
empty (x ∷ xs) e = cc

first_steps_of : (f : Level) (fs : List Level) (items : Option (List Term)) (c : ℕ) → f.items ≡ items → LevelsFit (f ∷ fs) → Steps (openings (f ∷ fs) ++ []) c (first_in f fs items c)
first_steps_of f fs None c is l =
    let Goes = Steps (openings (f ∷ fs) ++ []) c in
    choose Goes (c == 45) _ _ (λ e. (record { levels = l; place = is }, rw (ascii c 45 (lit< tt) e) (simp append_assoc)))
    (λ _. choose Goes (c == 34) _ _ (λ e. (record { levels = l; place = (is, IsUtf8-nil) }, rw (ascii c 34 (lit< tt) e) (simp append_assoc)))
    (λ _. choose Goes (is_digit c) _ _ (λ e. let b = digit_bounds c e in (record { levels = l; place = (is, omega (arith, b.0, b.1), λ m. cc) }, rw (one_digit c e, digit_bytes c e) (simp append_assoc)))
    (λ _. choose Goes (c == 91) _ _ (λ e. (record { levels = (l.0, record { name = l.1.name; utf8 = l.1.utf8; cells = l.1.cells; items = tt }, l.2); place = tt }, rw (ascii c 91 (lit< tt) e, is) (simp append_assoc)))
    (λ _. choose Goes ((c == 41) && is_empty f.cells) _ _
    (λ e. let p = both (c == 41) (is_empty f.cells) e in let none = empty f.cells p.1 in (
      complete_fits fs _ l.2 (node_fits fs f.name no_cells l.0 l.1.name l.1.utf8 tt),
      complete_text fs _ ∙ rw (ascii c 41 (lit< tt) p.0, is, none) (simp append_assoc),
    ))
    (λ _. tt)))))
first_steps_of f fs (Some ts) c is l =
    choose (Steps (openings (f ∷ fs) ++ []) c) ((c == 93) && is_empty ts) _ _
    (λ e. let p = both (c == 93) (is_empty ts) e in (
      record { levels = (l.0, record { name = l.1.name; utf8 = l.1.utf8; cells = l.1.cells; items = tt }, l.2); place = (refl, tt) },
      rw (ascii c 93 (lit< tt) p.0, is, empty ts p.1) (simp append_assoc),
    ))
    (λ _. tt)

inside_steps : (fs : List Level) (c : ℕ) → LevelsFit fs → Steps (openings fs ++ []) c (first_inside fs c)
inside_steps [] c l = tt
inside_steps (f ∷ fs) c l = first_steps_of f fs f.items c refl l

first_steps : (fs : List Level) (c : ℕ) → scalar c ≡ true → LevelsFit fs → Steps (openings fs ++ []) c (first fs c)
first_steps fs c s l =
    choose (Steps (openings fs ++ []) c) (starts_name c) _ _
    (λ e. in_word_steps fs _ (encode_utf8 c) c l (word_one c s e) (utf8_char c s) (simp append_assoc))
    (λ _. inside_steps fs c l)

steps_at : (fs : List Level) (place : Place) (c : ℕ) → scalar c ≡ true → LevelsFit fs → PlaceFits fs place → Steps (openings fs ++ place_text place) c (step_at fs place c)
steps_at fs Start c s l p = first_steps fs c s l
steps_at fs (InWord word) c s l p = word_steps fs word c s l p
steps_at fs Dash c s l p = dash_steps fs c l p
steps_at fs (Digits minus n) c s l p = digits_steps fs minus n c l p.0 p.1 p.2
steps_at fs (InText text) c s l p = text_steps fs text c s l p.0 p.1
steps_at fs (Escape text) c s l p = escape_steps fs text c l p.0 p.1
steps_at fs (Whole x) c s l p = cell_steps fs x c l p.0 p.1
steps_at fs (Item t) c s l p = item_steps fs t c l p.1
steps_at fs (Done t) c s l p = tt

pub steps : (p : Partial) (c : ℕ) (q : Partial) → scalar c ≡ true → PartialFits p → step p c ≡ Some q → PartialFits q × (spelled q ≡ spelled p ++ encode_utf8 c)
steps p c q s f e = subst (Steps (spelled p) c) e (steps_at p.levels p.place c s f.levels f.place)
