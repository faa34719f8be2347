-- What has been read of a term's text, character by character.
use Rattle.std.specs.Prelude.{ℕ, ◌+◌, ◌-◌, ◌*◌, ℤ, pos, negsuc, Bool, true, false, ◌&&◌, ◌||◌, ◌==◌, nat_eq, nat_lt, nat_le, not, List, [], ◌∷◌, ◌++◌, length, Option, Some, None, if◌then◌else◌, option_map, codes, encode_utf8}
use Rattle.std.specs.List.{starts_with}
use Rattle.std.specs.Str.{bytes_eq}
use Rattle.at_model.specs.Names.{starts_name, continues_name, is_reserved}
use Rattle.at_model.specs.Trees.{Text, Int, Truth}
use Rattle.at_model.specs.Terms.{Term, Node, no_cells, Cell, One, Many, Empty, Holds, no_terms, max_depth}
use Rattle.at_tree.specs.View.{to_cells, to_terms}

-- a term whose parenthesis is open: its cells, and the terms of its open list, as far as a comma follows each
pub record Level : Type 0 where
  pub name : List ℕ
  pub cells : List Cell
  pub items : Option (List Term)

-- what stands right before the next character
pub data Place : Type 0 where
  -- a bracket, a comma or nothing
  Start : Place
  -- the front of a name, of true or of false
  InWord : List ℕ → Place
  Dash : Place
  -- a minus sign or none, and digits
  Digits : Bool → ℕ → Place
  -- a quote, and what the characters behind it stand for
  InText : List ℕ → Place
  -- the same, and a backslash
  Escape : List ℕ → Place
  -- a whole cell, or a whole term of a list
  Whole : Cell → Place
  Item : Term → Place
  -- the whole text
  Done : Term → Place

-- the open terms, the innermost first
pub record Partial : Type 0 where
  pub levels : List Level
  pub place : Place

abbrev pub at : List Level → Place → Partial
at levels place = record { levels = levels; place = place }

abbrev pub nothing_read : Partial
nothing_read = at [] Start

abbrev pub is_empty : {A : Type 0} → List A → Bool
is_empty [] = true
is_empty (x ∷ xs) = false

abbrev pub is_digit : ℕ → Bool
is_digit c = nat_le 48 c && nat_le c 57

-- the greatest number behind a minus sign, or behind none
abbrev pub limit : Bool → ℕ
limit true = 2147483648
limit false = 2147483647

abbrev pub integer : Bool → ℕ → ℤ
integer false n = pos n
integer true n = negsuc (n - 1)

-- a cell comes next, and no item of a list
abbrev pub takes_cell : List Level → Bool
takes_cell [] = false
takes_cell (f ∷ fs) = elim f.items [ None ↦ true | Some ts ↦ false ]

abbrev pub can_open : List Level → Bool
can_open fs = nat_lt (length fs) max_depth

abbrev pub begins_truth : List ℕ → Bool
begins_truth word = starts_with nat_eq (codes "true") word || starts_with nat_eq (codes "false") word

abbrev pub truth_of : List ℕ → Option Bool
truth_of word = if bytes_eq word (codes "true") then Some true else (if bytes_eq word (codes "false") then Some false else None)

-- a term is whole: it is all, a cell of the innermost open term, or an item of its open list
abbrev pub whole_in : Option (List Term) → Term → Place
whole_in None t = Whole (One t)
whole_in (Some ts) t = Item t

abbrev pub place_of : List Level → Term → Place
place_of [] t = Done t
place_of (f ∷ fs) t = whole_in f.items t

abbrev pub complete : List Level → Term → Partial
complete fs t = at fs (place_of fs t)

abbrev pub in_cell : List Level → Cell → ℕ → Option Partial
in_cell [] x c = None
in_cell (f ∷ fs) x c =
    if c == 44 then Some (at (record f { cells = f.cells ++ x ∷ [] } ∷ fs) Start)
    else (if c == 41 then Some (complete fs (Node f.name (to_cells (f.cells ++ x ∷ []))))
    else None)

abbrev pub in_item_of : Level → List Level → Option (List Term) → Term → ℕ → Option Partial
in_item_of f fs None t c = None
in_item_of f fs (Some ts) t c =
    if c == 44 then Some (at (record f { items = Some (ts ++ t ∷ []) } ∷ fs) Start)
    else (if c == 93 then Some (at (record f { items = None } ∷ fs) (Whole (Many (to_terms (ts ++ t ∷ [])))))
    else None)

abbrev pub in_item : List Level → Term → ℕ → Option Partial
in_item [] t c = None
in_item (f ∷ fs) t c = in_item_of f fs f.items t c

-- a word may stand here: a name where one more term may open, true or false where a cell comes
abbrev pub may_be_word : List Level → List ℕ → Bool
may_be_word fs word = can_open fs || (takes_cell fs && begins_truth word)

abbrev pub in_word : List Level → List ℕ → Option Partial
in_word fs word = if may_be_word fs word then Some (at fs (InWord word)) else None

-- the parenthesis behind a name
abbrev pub open_term : List Level → List ℕ → Option Partial
open_term fs name = if can_open fs && not (is_reserved name) then Some (at (record { name = name; cells = []; items = None } ∷ fs) Start) else None

abbrev pub after_truth : List Level → Option Bool → ℕ → Option Partial
after_truth fs None c = None
after_truth fs (Some b) c = if takes_cell fs then in_cell fs (Holds (Truth b)) c else None

abbrev pub after_word : List Level → List ℕ → ℕ → Option Partial
after_word fs word c =
    if c == 40 then open_term fs word
    else (if continues_name c then in_word fs (word ++ encode_utf8 c)
    else after_truth fs (truth_of word) c)

-- the first character of a cell or an item, or the bracket that closes none of them
abbrev pub first_in : Level → List Level → Option (List Term) → ℕ → Option Partial
first_in f fs None c =
    if c == 45 then Some (at (f ∷ fs) Dash)
    else (if c == 34 then Some (at (f ∷ fs) (InText []))
    else (if is_digit c then Some (at (f ∷ fs) (Digits false (c - 48)))
    else (if c == 91 then Some (at (record f { items = Some [] } ∷ fs) Start)
    else (if (c == 41) && is_empty f.cells then Some (complete fs (Node f.name no_cells))
    else None))))
first_in f fs (Some ts) c =
    if (c == 93) && is_empty ts then Some (at (record f { items = None } ∷ fs) (Whole (Many no_terms)))
    else None

abbrev pub first_inside : List Level → ℕ → Option Partial
first_inside [] c = None
first_inside (f ∷ fs) c = first_in f fs f.items c

abbrev pub first : List Level → ℕ → Option Partial
first fs c = if starts_name c then in_word fs (encode_utf8 c) else first_inside fs c

abbrev pub in_digits : List Level → Bool → ℕ → ℕ → Option Partial
in_digits fs minus n c =
    if is_digit c && (nat_lt 0 n && nat_le (n * 10 + (c - 48)) (limit minus)) then Some (at fs (Digits minus (n * 10 + (c - 48))))
    else in_cell fs (Holds (Int (integer minus n))) c

abbrev pub in_dash : List Level → ℕ → Option Partial
in_dash fs c =
    if is_digit c && not (c == 48) then Some (at fs (Digits true (c - 48)))
    else in_cell fs Empty c

abbrev pub in_text : List Level → List ℕ → ℕ → Option Partial
in_text fs text c =
    if c == 34 then Some (at fs (Whole (Holds (Text text))))
    else (if c == 92 then Some (at fs (Escape text))
    else (if (c == 10) || (c == 9) then None
    else Some (at fs (InText (text ++ encode_utf8 c)))))

-- what a character behind a backslash stands for
abbrev pub unescaped : ℕ → Option ℕ
unescaped c =
    if (c == 34) || (c == 92) then Some c
    else (if c == 110 then Some 10
    else (if c == 116 then Some 9
    else None))

abbrev pub in_escape : List Level → List ℕ → ℕ → Option Partial
in_escape fs text c = option_map (λ d. at fs (InText (text ++ encode_utf8 d))) (unescaped c)

abbrev pub step_at : List Level → Place → ℕ → Option Partial
step_at fs Start c = first fs c
step_at fs (InWord word) c = after_word fs word c
step_at fs Dash c = in_dash fs c
step_at fs (Digits minus n) c = in_digits fs minus n c
step_at fs (InText text) c = in_text fs text c
step_at fs (Escape text) c = in_escape fs text c
step_at fs (Whole x) c = in_cell fs x c
step_at fs (Item t) c = in_item fs t c
step_at fs (Done t) c = None

-- one more character
abbrev pub step : Partial → ℕ → Option Partial
step p c = step_at p.levels p.place c

-- the term, where the text is whole
abbrev pub term_at : Place → Option Term
term_at Start = None
term_at (InWord word) = None
term_at Dash = None
term_at (Digits minus n) = None
term_at (InText text) = None
term_at (Escape text) = None
term_at (Whole x) = None
term_at (Item t) = None
term_at (Done t) = Some t

abbrev pub whole_term : Partial → Option Term
whole_term p = term_at p.place
