-- Commands, by their first words, and what stands behind these.
use Rattle.std.proofs.Common.{◌≡◌, ◌≢◌, ℕ, List, ◌∷◌, ◌++◌, drop, Some, refl, ap, sym, ◌∙◌, arith}
use Rattle.std.specs.Prelude.{codes}
use Rattle.std.specs.List.{join_with_byte}
use Rattle.std.specs.Fmt.{decimal}
use Rattle.at_model.specs.Paths.{IsIndex}
use Rattle.at_model.specs.Lines.{Place, place_text, IsPlace, Command, Ask, Set, Put, Drop, Insert, Token, Move, Show, Mark, Unmark, Where, Version, Post, Wait, command_words}
use Rattle.at_model.specs.Names.{IsName}
use Rattle.at_model.proofs.of_texts.Words.{apart_bytes}
use Rattle.at_model.proofs.of_texts.OneLine.{two}
use Rattle.at_tree.specs.ReadTrees.{IsTermOf}
use Rattle.at_protocol.specs.Words.{HasNoSpace, IsPlaceText, IsToText, IsNameText, IsIndexText, IsQuestionNumber, IsValueText}
use Rattle.at_protocol.specs.Calls.{IsCallText}
use Rattle.at_protocol.specs.Commands.{IsCommandText}
use Rattle.at_protocol.proofs.Answering.{Is, Then}
use Rattle.at_protocol.proofs.Spaces.{one_front, no_space_test, no_space_name, no_space_decimal, has_no_place, space_outside, space_inside}

abbrev pub Behind : List ℕ → List ℕ → Command → Type 0
Behind word text c = IsCommandText (word ++ 32 ∷ text) c

pub behind : (text word rest : List ℕ) (c : Command) → text ≡ word ++ 32 ∷ rest → IsCommandText text c → Behind word rest c
behind text word rest c e h = record { is_command = h.is_command; is_text = sym e ∙ h.is_text }

-- the first words of a text
place_then : (place : Place) (text rest : List ℕ) (IsRest : List ℕ → Type 0) → IsPlace place → text ≡ place_text place ++ 32 ∷ rest → IsRest rest → Then IsPlaceText IsRest text
place_then place text rest IsRest h e k = ((place, rest), record { word = place_text place; is_text = (h, refl); one = has_no_place 32 space_outside place h; split = e }, k)

name_then : (name text rest : List ℕ) (IsRest : List ℕ → Type 0) → IsName name → text ≡ name ++ 32 ∷ rest → IsRest rest → Then IsNameText IsRest text
name_then name text rest IsRest h e k = ((name, rest), record { word = name; is_text = (h, refl); one = no_space_name name h; split = e }, k)

index_then : (index : ℕ) (text rest : List ℕ) (IsRest : List ℕ → Type 0) → IsIndex (Some index) → text ≡ decimal index ++ 32 ∷ rest → IsRest rest → Then IsIndexText IsRest text
index_then index text rest IsRest h e k = ((index, rest), record { word = decimal index; is_text = (h, refl); one = no_space_decimal index (omega (arith, h)); split = e }, k)

abbrev text_of : Command → List ℕ
text_of c = join_with_byte 32 (command_words c)

-- what stands behind each
abbrev pub BehindAsk : List ℕ → Type 0
BehindAsk = Then IsPlaceText (Is IsCallText)

pub asked : (text : List ℕ) (c : Command) → Behind (codes "ask") text c → BehindAsk text
asked text (Ask place attribute arguments) h = place_then place text _ (Is IsCallText) h.is_command.0 (ap (drop 4) h.is_text) ((attribute, arguments), (h.is_command.1, h.is_command.2, refl))
asked text c h = absurd (apart_bytes (two (codes "ask" ++ 32 ∷ text)) (two (text_of c)) refl (ap two h.is_text))

abbrev pub BehindSet : List ℕ → Type 0
BehindSet = Then IsPlaceText (Is IsTermOf)

pub set : (text : List ℕ) (c : Command) → Behind (codes "set") text c → BehindSet text
set text (Set place t) h = place_then place text _ (Is IsTermOf) h.is_command.0 (ap (drop 4) h.is_text) (t, (h.is_command.1, refl))
set text c h = absurd (apart_bytes (two (codes "set" ++ 32 ∷ text)) (two (text_of c)) refl (ap two h.is_text))

abbrev pub NamedTerm : List ℕ → Type 0
NamedTerm = Then IsNameText (Is IsTermOf)

abbrev pub BehindPut : List ℕ → Type 0
BehindPut = Then IsPlaceText NamedTerm

pub put : (text : List ℕ) (c : Command) → Behind (codes "put") text c → BehindPut text
put text (Put place part t) h =
    place_then place text _ NamedTerm h.is_command.0 (ap (drop 4) h.is_text) (name_then part _ _ (Is IsTermOf) h.is_command.1 refl (t, (h.is_command.2, refl)))
put text c h = absurd (apart_bytes (two (codes "put" ++ 32 ∷ text)) (two (text_of c)) refl (ap two h.is_text))

abbrev pub IndexedTerm : List ℕ → Type 0
IndexedTerm = Then IsIndexText (Is IsTermOf)

abbrev pub NamedIndexedTerm : List ℕ → Type 0
NamedIndexedTerm = Then IsNameText IndexedTerm

abbrev pub BehindInsert : List ℕ → Type 0
BehindInsert = Then IsPlaceText NamedIndexedTerm

pub inserted : (text : List ℕ) (c : Command) → Behind (codes "insert") text c → BehindInsert text
inserted text (Insert place part index t) h =
    place_then place text _ NamedIndexedTerm h.is_command.0 (ap (drop 7) h.is_text)
    (name_then part _ _ IndexedTerm h.is_command.1 refl (index_then index _ _ (Is IsTermOf) h.is_command.2 refl (t, (h.is_command.3, refl))))
inserted text c h = absurd (apart_bytes (two (codes "insert" ++ 32 ∷ text)) (two (text_of c)) refl (ap two h.is_text))

abbrev pub NamedValue : List ℕ → Type 0
NamedValue = Then IsNameText (Is IsValueText)

abbrev pub BehindToken : List ℕ → Type 0
BehindToken = Then IsPlaceText NamedValue

pub set_token : (text : List ℕ) (c : Command) → Behind (codes "token") text c → BehindToken text
set_token text (Token place part v) h =
    place_then place text _ NamedValue h.is_command.0 (ap (drop 6) h.is_text) (name_then part _ _ (Is IsValueText) h.is_command.1 refl (v, (h.is_command.2, refl)))
set_token text c h = absurd (apart_bytes (two (codes "token" ++ 32 ∷ text)) (two (text_of c)) refl (ap two h.is_text))

abbrev pub NamedIndex : List ℕ → Type 0
NamedIndex = Then IsNameText (Is IsIndexText)

abbrev pub PlacedIndex : List ℕ → Type 0
PlacedIndex = Then IsPlaceText NamedIndex

abbrev pub ToPlace : List ℕ → Type 0
ToPlace = Then IsToText PlacedIndex

abbrev pub BehindMove : List ℕ → Type 0
BehindMove = Then IsPlaceText ToPlace

to_then : (text rest : List ℕ) (IsRest : List ℕ → Type 0) → text ≡ codes "to" ++ 32 ∷ rest → IsRest rest → Then IsToText IsRest text
to_then text rest IsRest e k = ((tt, rest), record { word = codes "to"; is_text = refl; one = no_space_test (codes "to") refl; split = e }, k)

pub moved : (text : List ℕ) (c : Command) → Behind (codes "move") text c → BehindMove text
moved text (Move place to part index) h =
    place_then place text _ ToPlace h.is_command.0 (ap (drop 5) h.is_text)
    (to_then _ _ PlacedIndex refl (place_then to _ _ NamedIndex h.is_command.1 refl (name_then part _ _ (Is IsIndexText) h.is_command.2 refl (index, (h.is_command.3, refl)))))
moved text c h = absurd (apart_bytes (two (codes "move" ++ 32 ∷ text)) (two (text_of c)) refl (ap two h.is_text))

abbrev pub BehindMark : List ℕ → Type 0
BehindMark = Then IsNameText (Is IsPlaceText)

pub marked : (text : List ℕ) (c : Command) → Behind (codes "mark") text c → BehindMark text
marked text (Mark name place) h = name_then name text _ (Is IsPlaceText) h.is_command.0 (ap (drop 5) h.is_text) (place, (h.is_command.1, refl))
marked text c h = absurd (apart_bytes (two (codes "mark" ++ 32 ∷ text)) (two (text_of c)) refl (ap two h.is_text))

pub posted : (text : List ℕ) (c : Command) → Behind (codes "post") text c → BehindAsk text
posted text (Post place attribute arguments) h = place_then place text _ (Is IsCallText) h.is_command.0 (ap (drop 5) h.is_text) ((attribute, arguments), (h.is_command.1, h.is_command.2, refl))
posted text c h = absurd (apart_bytes (two (codes "post" ++ 32 ∷ text)) (two (text_of c)) refl (ap two h.is_text))

pub waited : (text : List ℕ) (c : Command) → Behind (codes "wait") text c → Is IsQuestionNumber text
waited text (Wait number) h = (number, (h.is_command.0, h.is_command.1, sym (ap (drop 5) h.is_text)))
waited text c h = absurd (apart_bytes (two (codes "wait" ++ 32 ∷ text)) (two (text_of c)) refl (ap two h.is_text))

-- no command is one word but `version`
pub no_word : (word : List ℕ) (c : Command) → HasNoSpace word → word ≢ codes "version" → IsCommandText word c → ⊥
no_word word (Ask p a as') s v h = space_inside (codes "ask") _ word (sym h.is_text) (no_space_test (codes "ask") refl) s
no_word word (Set p t) s v h = space_inside (codes "set") _ word (sym h.is_text) (no_space_test (codes "set") refl) s
no_word word (Put p a t) s v h = space_inside (codes "put") _ word (sym h.is_text) (no_space_test (codes "put") refl) s
no_word word (Drop p) s v h = space_inside (codes "drop") _ word (sym h.is_text) (no_space_test (codes "drop") refl) s
no_word word (Insert p a i t) s v h = space_inside (codes "insert") _ word (sym h.is_text) (no_space_test (codes "insert") refl) s
no_word word (Token p a w) s v h = space_inside (codes "token") _ word (sym h.is_text) (no_space_test (codes "token") refl) s
no_word word (Move p x a i) s v h = space_inside (codes "move") _ word (sym h.is_text) (no_space_test (codes "move") refl) s
no_word word (Show p) s v h = space_inside (codes "show") _ word (sym h.is_text) (no_space_test (codes "show") refl) s
no_word word (Mark a p) s v h = space_inside (codes "mark") _ word (sym h.is_text) (no_space_test (codes "mark") refl) s
no_word word (Unmark a) s v h = space_inside (codes "unmark") _ word (sym h.is_text) (no_space_test (codes "unmark") refl) s
no_word word (Where a) s v h = space_inside (codes "where") _ word (sym h.is_text) (no_space_test (codes "where") refl) s
no_word word Version s v h = v h.is_text
no_word word (Post p a as') s v h = space_inside (codes "post") _ word (sym h.is_text) (no_space_test (codes "post") refl) s
no_word word (Wait n) s v h = space_inside (codes "wait") _ word (sym h.is_text) (no_space_test (codes "wait") refl) s

-- none of these words is the first
pub record IsNone (word : List ℕ) : Type 0 where
  pub ask : word ≢ codes "ask"
  pub set_ : word ≢ codes "set"
  pub put_ : word ≢ codes "put"
  pub drop_ : word ≢ codes "drop"
  pub insert : word ≢ codes "insert"
  pub token : word ≢ codes "token"
  pub move : word ≢ codes "move"
  pub show : word ≢ codes "show"
  pub mark : word ≢ codes "mark"
  pub unmark : word ≢ codes "unmark"
  pub where_ : word ≢ codes "where"
  pub post : word ≢ codes "post"
  pub wait : word ≢ codes "wait"

same_word : (word name rest text : List ℕ) → word ++ 32 ∷ rest ≡ name ++ 32 ∷ text → HasNoSpace word → HasNoSpace name → word ≡ name
same_word word name rest text e p q = (one_front word name (32 ∷ rest) (32 ∷ text) e p q refl refl).0

pub no_command : (word rest : List ℕ) (c : Command) → HasNoSpace word → IsNone word → Behind word rest c → ⊥
no_command word rest (Ask p a as') s n h = n.ask (same_word word (codes "ask") rest _ h.is_text s (no_space_test (codes "ask") refl))
no_command word rest (Set p t) s n h = n.set_ (same_word word (codes "set") rest _ h.is_text s (no_space_test (codes "set") refl))
no_command word rest (Put p a t) s n h = n.put_ (same_word word (codes "put") rest _ h.is_text s (no_space_test (codes "put") refl))
no_command word rest (Drop p) s n h = n.drop_ (same_word word (codes "drop") rest _ h.is_text s (no_space_test (codes "drop") refl))
no_command word rest (Insert p a i t) s n h = n.insert (same_word word (codes "insert") rest _ h.is_text s (no_space_test (codes "insert") refl))
no_command word rest (Token p a w) s n h = n.token (same_word word (codes "token") rest _ h.is_text s (no_space_test (codes "token") refl))
no_command word rest (Move p x a i) s n h = n.move (same_word word (codes "move") rest _ h.is_text s (no_space_test (codes "move") refl))
no_command word rest (Show p) s n h = n.show (same_word word (codes "show") rest _ h.is_text s (no_space_test (codes "show") refl))
no_command word rest (Mark a p) s n h = n.mark (same_word word (codes "mark") rest _ h.is_text s (no_space_test (codes "mark") refl))
no_command word rest (Unmark a) s n h = n.unmark (same_word word (codes "unmark") rest _ h.is_text s (no_space_test (codes "unmark") refl))
no_command word rest (Where a) s n h = n.where_ (same_word word (codes "where") rest _ h.is_text s (no_space_test (codes "where") refl))
no_command word rest Version s n h = space_inside word rest (codes "version") h.is_text s (no_space_test (codes "version") refl)
no_command word rest (Post p a as') s n h = n.post (same_word word (codes "post") rest _ h.is_text s (no_space_test (codes "post") refl))
no_command word rest (Wait q) s n h = n.wait (same_word word (codes "wait") rest _ h.is_text s (no_space_test (codes "wait") refl))
