-- What may come next in a grammar, by the next token: the reader's decisions as a table, from which its contracts follow.
use Rattle.std.specs.Prelude.{ℕ, List, [], ◌∷◌, Bool, false, cond, ◌||◌, ◌&&◌, Option, Some, None}
use lib.Chars.{codes}
use Rattle.at_text.specs.Machine.{Answer, Refuses, LeavesOut, and_then}
use Rattle.at_text.specs.Reading.{Table, takes, skips}
use Rattle.at_text.specs.Symbols.{Symbol, is_sign, is_word, is_name_next, is_word_kind}
use Rattle.at_grammar.specs.Grammar.{is_token_kind}

-- a form that is still to come
pub data Want : Type 0 where
  File : Want
  Declaration : Want
  -- ["abstract"]
  Modifier : Want
  Body : Want
  Parts : Want
  Part : Want
  Child : Want
  -- ["*"]
  Star : Want
  -- an optional component behind its `[`
  Optional : Want
  -- a token behind its `<`
  Token : Want
  -- a token behind its name
  TokenKind : Want
  -- a token behind its kind
  Close : Want
  Typed : Want
  -- [":" name]
  Kind : Want
  KindName : Want
  Name : Want
  Mark : (text : List ℕ) → Want

-- the next symbol is a kind of token
abbrev pub is_kind_next : Option Symbol → Bool
is_kind_next None = false
is_kind_next (Some s) = is_word_kind s.kind && is_token_kind s.text

-- it takes the next symbol and wants more, or else
abbrev pub on : Bool → List Want → Answer Want → Answer Want
on test more other = cond test (takes more) other

abbrev pub name_answer : Option Symbol → Answer Want
name_answer s = on (is_name_next s) [] Refuses

abbrev pub mark_answer : List ℕ → Option Symbol → Answer Want
mark_answer text s = on (is_sign text s) [] Refuses

abbrev pub typed_answer : Option Symbol → Answer Want
typed_answer s = and_then (name_answer s) (Kind ∷ [])

abbrev pub child_answer : Option Symbol → Answer Want
child_answer s = and_then (typed_answer s) (Star ∷ [])

abbrev pub part_answer : Option Symbol → Answer Want
part_answer s = on (is_sign (codes "<") s) (Token ∷ []) (on (is_sign (codes "[") s) (Optional ∷ []) (child_answer s))

abbrev pub more_parts_answer : Option Symbol → Answer Want
more_parts_answer s = cond (is_sign (codes "/") s) LeavesOut (and_then (part_answer s) (Parts ∷ []))

abbrev pub declaration_answer : Option Symbol → Answer Want
declaration_answer s = on (is_word (codes "abstract") s) (Name ∷ Kind ∷ Body ∷ []) (and_then (name_answer s) (Kind ∷ Body ∷ []))

abbrev pub file_answer : Option Symbol → Answer Want
file_answer None = skips
file_answer (Some s) = and_then (declaration_answer (Some s)) (File ∷ [])

-- each form by its first symbol
unfoldable pub table : Table Symbol Want
table File s = file_answer s
table Declaration s = declaration_answer s
table Modifier s = on (is_word (codes "abstract") s) [] skips
table Body s = on (is_sign (codes ";") s) [] (and_then (mark_answer (codes "::=") s) (Parts ∷ []))
table Parts s = on (is_sign (codes ";") s) [] (more_parts_answer s)
table Part s = part_answer s
table Child s = child_answer s
table Star s = on (is_sign (codes "*") s) [] skips
table Optional s = and_then (typed_answer s) (Mark (codes "]") ∷ [])
table Token s = and_then (name_answer s) (TokenKind ∷ [])
table TokenKind s = on (is_sign (codes ">") s) [] (and_then (mark_answer (codes ":") s) (KindName ∷ Close ∷ []))
table Close s = cond (is_sign (codes ".") s || is_sign (codes "<") s) LeavesOut (mark_answer (codes ">") s)
table Typed s = typed_answer s
table Kind s = on (is_sign (codes ":") s) (Name ∷ []) skips
table KindName s = on (is_kind_next s) [] Refuses
table Name s = name_answer s
table (Mark text) s = mark_answer text s
