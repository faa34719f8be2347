-- Lines of ASCII characters: a test, which computes, whether one is a line.
use Rattle.std.proofs.Common.{◌≡◌, ℕ, zero, suc, ◌<◌, ◌≤◌, ℤ, pos, negsuc, Bool, true, false, not, ◌&&◌, ◌||◌, ◌==◌, nat_lt, nat_le, List, [], ◌∷◌, length, Option, Some, None, refl, ap, ◌∙◌, arith}
use Rattle.std.specs.Prelude.{IsUtf8, IsAscii, chars, ◌-◌}
use Rattle.std.specs.List.{list_all, AllByRecursion}
use Rattle.std.specs.Char.{is_ascii_alphabetic, is_ascii_alphanumeric}
use Rattle.std.proofs.lemmas.Bool.Decides.{nat_tests}
use Rattle.std.proofs.lemmas.Str.{chars-IsAscii, IsUtf8-from_ascii}
use Rattle.unicode_ident.proofs.IdentLemmas.{is_xid_start-ascii, is_xid_continue-ascii}
use Rattle.at_model.specs.Names.{starts_name, continues_name, is_word, is_reserved, IsName}
use Rattle.at_model.specs.Trees as tree
use Rattle.at_model.specs.Terms.{Term, Cells, Cell, Terms, Node, no_cells, cell, One, Many, Empty, Holds, no_terms, term, IsInt32, IsToken, IsTermWithin, AreCellsWithin, IsCellWithin, AreTermsWithin, max_depth}
use Rattle.at_model.specs.Paths.{Path, Step, IsIndex, IsStep, IsPath}
use Rattle.at_model.specs.Lines.{Place, From_root, From_mark, Argument, Text, Int, Truth, Ref, Null, Command, Ask, Set, Put, Drop, Insert, Token, Move, Show, Mark, Unmark, Where, Version, Post, Wait, Line, line_text, IsPlace, IsArgument, IsCommand, IsVersion, Spells, last_version, last_post, max_sessions, max_line}
use Rattle.at_model.proofs.Options.{and_true}
use Rattle.at_model.proofs.of_texts.Words.{all_and}

below : (m n : ℕ) → nat_lt m n ≡ true → m < n
below m n h = grind (arith, nat_tests)

at_most : (m n : ℕ) → nat_le m n ≡ true → m ≤ n
at_most m n h = grind (arith, nat_tests)

-- each element has what its test shows
each : {A : Type 0} (test : A → Bool) (P : A → Type 0) → ((a : A) → test a ≡ true → P a) → (as' : List A) → list_all test as' ≡ true → AllByRecursion P as'
each test P shown [] h = tt
each test P shown (a ∷ as') h = let g = all_and (test a) (list_all test as') h in (shown a g.0, each test P shown as' g.1)

-- texts and names
abbrev pub is_low : ℕ → Bool
is_low b = nat_lt b 128

at_front : (b : ℕ) (bs : List ℕ) → b < 128 → IsAscii bs → IsAscii (b ∷ bs)
at_front b bs h more zero = h
at_front b bs h more (suc i) = more i

pub low : (bytes : List ℕ) → list_all is_low bytes ≡ true → IsAscii bytes
low [] h = λ i. omega arith
low (b ∷ bs) h = let g = all_and (is_low b) (list_all is_low bs) h in at_front b bs (below b 128 g.0) (low bs g.1)

pub low_utf8 : (bytes : List ℕ) → list_all is_low bytes ≡ true → IsUtf8 bytes
low_utf8 bytes h = IsUtf8-from_ascii bytes (low bytes h)

abbrev pub begins_plain : ℕ → Bool
begins_plain b = is_low b && (is_ascii_alphabetic b || (b == 95))

abbrev pub continues_plain : ℕ → Bool
continues_plain b = is_low b && (is_ascii_alphanumeric b || (b == 95))

abbrev pub is_plain_word : List ℕ → Bool
is_plain_word [] = false
is_plain_word (b ∷ bs) = begins_plain b && list_all continues_plain bs

abbrev pub is_plain_name : List ℕ → Bool
is_plain_name text = is_plain_word text && list_all is_low text && not (is_reserved text)

begun : (b : ℕ) → begins_plain b ≡ true → starts_name b ≡ true
begun b h = let g = all_and (is_low b) (is_ascii_alphabetic b || (b == 95)) h in ap (λ s. s || (b == 95)) (is_xid_start-ascii b (below b 128 g.0)) ∙ g.1

continued : (b : ℕ) → continues_plain b ≡ true → continues_name b ≡ true
continued b h = let g = all_and (is_low b) (is_ascii_alphanumeric b || (b == 95)) h in is_xid_continue-ascii b (below b 128 g.0) ∙ g.1

all_continued : (bs : List ℕ) → list_all continues_plain bs ≡ true → list_all continues_name bs ≡ true
all_continued [] h = refl
all_continued (b ∷ bs) h = let g = all_and (continues_plain b) (list_all continues_plain bs) h in and_true (continues_name b) (list_all continues_name bs) (continued b g.0) (all_continued bs g.1)

word : (text : List ℕ) → is_plain_word text ≡ true → is_word text ≡ true
word [] h = h
word (b ∷ bs) h = let g = all_and (begins_plain b) (list_all continues_plain bs) h in and_true (starts_name b) (list_all continues_name bs) (begun b g.0) (all_continued bs g.1)

pub named : (text : List ℕ) → is_plain_name text ≡ true → IsName text
named text h =
    let g = all_and (is_plain_word text && list_all is_low text) (not (is_reserved text)) h in
    let f = all_and (is_plain_word text) (list_all is_low text) g.0 in
    (and_true (is_word (chars text)) (not (is_reserved text)) (ap is_word (chars-IsAscii text (low text f.1)) ∙ word text f.0) g.1, low_utf8 text f.1)

-- places
abbrev pub is_plain_index : Option ℕ → Bool
is_plain_index None = true
is_plain_index (Some i) = nat_lt i 1000000000

index : (i : Option ℕ) → is_plain_index i ≡ true → IsIndex i
index None h = tt
index (Some i) h = below i 1000000000 h

abbrev pub is_plain_step : Step → Bool
is_plain_step s = is_plain_name s.part && is_plain_index s.index

step : (s : Step) → is_plain_step s ≡ true → IsStep s
step s h = let g = all_and (is_plain_name s.part) (is_plain_index s.index) h in (named s.part g.0, index s.index g.1)

pub path : (p : Path) → list_all is_plain_step p ≡ true → IsPath p
path p h = each is_plain_step IsStep step p h

abbrev pub is_plain_place : Place → Bool
is_plain_place (From_root p) = list_all is_plain_step p
is_plain_place (From_mark name steps) = is_plain_name name && list_all is_plain_step steps

place : (p : Place) → is_plain_place p ≡ true → IsPlace p
place (From_root p) h = path p h
place (From_mark name steps) h = let g = all_and (is_plain_name name) (list_all is_plain_step steps) h in (named name g.0, path steps g.1)

abbrev pub is_int : ℤ → Bool
is_int (pos n) = nat_lt n 2147483648
is_int (negsuc n) = nat_lt n 2147483648

int : (n : ℤ) → is_int n ≡ true → IsInt32 n
int (pos n) h = below n 2147483648 h
int (negsuc n) h = below n 2147483648 h

abbrev pub is_plain_argument : Argument → Bool
is_plain_argument (Text bytes) = list_all is_low bytes
is_plain_argument (Int n) = is_int n
is_plain_argument (Truth b) = true
is_plain_argument (Ref p) = is_plain_place p
is_plain_argument Null = true

argument : (a : Argument) → is_plain_argument a ≡ true → IsArgument a
argument (Text bytes) h = low_utf8 bytes h
argument (Int n) h = int n h
argument (Truth b) h = tt
argument (Ref p) h = place p h
argument Null h = tt

-- terms
abbrev pub is_plain_token : tree.Token → Bool
is_plain_token (tree.Text bytes) = list_all is_low bytes
is_plain_token (tree.Int n) = is_int n
is_plain_token (tree.Truth b) = true

token : (v : tree.Token) → is_plain_token v ≡ true → IsToken v
token (tree.Text bytes) h = low_utf8 bytes h
token (tree.Int n) h = int n h
token (tree.Truth b) h = tt

abbrev mutual
  pub is_plain_term : ℕ → Term → Bool
  is_plain_term d (Node name cells) = nat_lt 0 d && (is_plain_name name && are_plain_cells (d - 1) cells)

  pub are_plain_cells : ℕ → Cells → Bool
  are_plain_cells d no_cells = true
  are_plain_cells d (cell c cs) = is_plain_cell d c && are_plain_cells d cs

  pub is_plain_cell : ℕ → Cell → Bool
  is_plain_cell d (One t) = is_plain_term d t
  is_plain_cell d (Many ts) = are_plain_terms d ts
  is_plain_cell d Empty = true
  is_plain_cell d (Holds v) = is_plain_token v

  pub are_plain_terms : ℕ → Terms → Bool
  are_plain_terms d no_terms = true
  are_plain_terms d (term t ts) = is_plain_term d t && are_plain_terms d ts

mutual
  plain_term : (d : ℕ) (t : Term) → is_plain_term d t ≡ true → IsTermWithin d t
  plain_term d (Node name cells) h =
      let g = all_and (nat_lt 0 d) (is_plain_name name && are_plain_cells (d - 1) cells) h in
      let f = all_and (is_plain_name name) (are_plain_cells (d - 1) cells) g.1 in
      (below 0 d g.0, named name f.0, plain_cells (d - 1) cells f.1)

  plain_cells : (d : ℕ) (cs : Cells) → are_plain_cells d cs ≡ true → AreCellsWithin d cs
  plain_cells d no_cells h = tt
  plain_cells d (cell c cs) h = let g = all_and (is_plain_cell d c) (are_plain_cells d cs) h in (plain_cell d c g.0, plain_cells d cs g.1)

  plain_cell : (d : ℕ) (c : Cell) → is_plain_cell d c ≡ true → IsCellWithin d c
  plain_cell d (One t) h = plain_term d t h
  plain_cell d (Many ts) h = plain_terms d ts h
  plain_cell d Empty h = tt
  plain_cell d (Holds v) h = token v h

  plain_terms : (d : ℕ) (ts : Terms) → are_plain_terms d ts ≡ true → AreTermsWithin d ts
  plain_terms d no_terms h = tt
  plain_terms d (term t ts) h = let g = all_and (is_plain_term d t) (are_plain_terms d ts) h in (plain_term d t g.0, plain_terms d ts g.1)

-- commands
abbrev pub is_plain_command : Command → Bool
is_plain_command (Ask p name as') = is_plain_place p && (is_plain_name name && list_all is_plain_argument as')
is_plain_command (Set p t) = is_plain_place p && is_plain_term max_depth t
is_plain_command (Put p part t) = is_plain_place p && (is_plain_name part && is_plain_term max_depth t)
is_plain_command (Drop p) = is_plain_place p
is_plain_command (Insert p part i t) = is_plain_place p && (is_plain_name part && (is_plain_index (Some i) && is_plain_term max_depth t))
is_plain_command (Token p part v) = is_plain_place p && (is_plain_name part && is_plain_token v)
is_plain_command (Move p to part i) = is_plain_place p && (is_plain_place to && (is_plain_name part && is_plain_index (Some i)))
is_plain_command (Show p) = is_plain_place p
is_plain_command (Mark name p) = is_plain_name name && is_plain_place p
is_plain_command (Unmark name) = is_plain_name name
is_plain_command (Where name) = is_plain_name name
is_plain_command Version = true
is_plain_command (Post p name as') = is_plain_place p && (is_plain_name name && list_all is_plain_argument as')
is_plain_command (Wait n) = nat_lt 0 n && nat_le n last_post

command : (c : Command) → is_plain_command c ≡ true → IsCommand c
command (Ask p name as') h = let g = all_and (is_plain_place p) (is_plain_name name && list_all is_plain_argument as')
    h in let f = all_and (is_plain_name name) (list_all is_plain_argument as') g.1 in
    (place p g.0, named name f.0, each is_plain_argument IsArgument argument as' f.1)
command (Set p t) h = let g = all_and (is_plain_place p) (is_plain_term max_depth t) h in (place p g.0, plain_term max_depth t g.1)
command (Put p part t) h = let g = all_and (is_plain_place p) (is_plain_name part && is_plain_term max_depth t) h in
    let f = all_and (is_plain_name part) (is_plain_term max_depth t) g.1 in
    (place p g.0, named part f.0, plain_term max_depth t f.1)
command (Drop p) h = place p h
command (Insert p part i t) h =
    let g = all_and (is_plain_place p) (is_plain_name part && (is_plain_index (Some i) && is_plain_term max_depth t)) h in
    let f = all_and (is_plain_name part) (is_plain_index (Some i) && is_plain_term max_depth t) g.1 in
    let e = all_and (is_plain_index (Some i)) (is_plain_term max_depth t) f.1 in
    (place p g.0, named part f.0, index (Some i) e.0, plain_term max_depth t e.1)
command (Token p part v) h = let g = all_and (is_plain_place p) (is_plain_name part && is_plain_token v) h in
    let f = all_and (is_plain_name part) (is_plain_token v) g.1 in (place p g.0, named part f.0, token v f.1)
command (Move p to part i) h =
    let g = all_and (is_plain_place p) (is_plain_place to && (is_plain_name part && is_plain_index (Some i))) h in
    let f = all_and (is_plain_place to) (is_plain_name part && is_plain_index (Some i)) g.1 in
    let e = all_and (is_plain_name part) (is_plain_index (Some i)) f.1 in
    (place p g.0, place to f.0, named part e.0, index (Some i) e.1)
command (Show p) h = place p h
command (Mark name p) h = let g = all_and (is_plain_name name) (is_plain_place p) h in (named name g.0, place p g.1)
command (Unmark name) h = named name h
command (Where name) h = named name h
command Version h = tt
command (Post p name as') h = let g = all_and (is_plain_place p) (is_plain_name name && list_all is_plain_argument as')
    h in let f = all_and (is_plain_name name) (list_all is_plain_argument as') g.1 in
    (place p g.0, named name f.0, each is_plain_argument IsArgument argument as' f.1)
command (Wait n) h = let g = all_and (nat_lt 0 n) (nat_le n last_post) h in (below 0 n g.0, at_most n last_post g.1)

abbrev pub is_plain_version : Option ℕ → Bool
is_plain_version None = true
is_plain_version (Some version) = nat_le version last_version

version : (v : Option ℕ) → is_plain_version v ≡ true → IsVersion v
version None h = tt
version (Some v) h = at_most v last_version h

-- it is a line, of ASCII characters and not too long
abbrev pub is_plain_line : Line → Bool
is_plain_line l = nat_lt l.session max_sessions && (is_plain_version l.expected && (is_plain_command l.command && nat_le (length (line_text l)) max_line))

pub spelled : (l : Line) → is_plain_line l ≡ true → Spells (line_text l) l
spelled l h =
    let g = all_and (nat_lt l.session max_sessions) (is_plain_version l.expected && (is_plain_command l.command && nat_le (length (line_text l)) max_line)) h in
    let f = all_and (is_plain_version l.expected) (is_plain_command l.command && nat_le (length (line_text l)) max_line) g.1 in
    let e = all_and (is_plain_command l.command) (nat_le (length (line_text l)) max_line) f.1 in
    record {
      is_line = record {
        session = below l.session max_sessions g.0;
        expected = version l.expected f.0;
        command = command l.command e.0;
      };
      text = refl;
      short = at_most (length (line_text l)) max_line e.1;
    }
