-- Bytes that are no line, and from which no session can be read; numbers that no question has.
use Rattle.std.proofs.Common.{◌≡◌, ℕ, zero, suc, ◌<◌, ◌≤◌, true, get_or, List, [], ◌∷◌, ◌++◌, drop, Option, Some, None, codes, refl, sym, ap, ◌∙◌, subst, arith}
use Rattle.std.specs.Fmt.{decimal, digits}
use Rattle.std.proofs.lemmas.Fmt.{decimal_injective, first_decimal}
use Rattle.at_model.specs.Lines.{last_post, Place, From_root, Command, Ask, Set, Put, Drop, Insert, Token, Move, Show, Mark, Unmark, Where, Version, Post, Wait, Line, place_text, IsPlace, IsCommand, Spells, BeginsWith, IsSpaceOrEnd}
use Rattle.at_model.proofs.of_texts.Words.{apart, IsInner, Stops, delimits, same_word, decimal_inner}
use Rattle.at_model.proofs.of_texts.OneTerm.{tail, same_decimal}
use Rattle.at_model.proofs.of_texts.OneLine.{line_flat, body_text, place_head, same_place}

space_stops : (r : List ℕ) → IsSpaceOrEnd r → Stops r
space_stops [] h = tt
space_stops (b ∷ bs) h = subst (λ (c : ℕ). delimits c ≡ true) (sym h) refl

-- what stands at the front is no number of a session
abbrev pub IsNoSession : List ℕ → Type 0
IsNoSession front = (n : ℕ) → n < 1000 → front ≡ decimal n → ⊥

pub no_line : (front rest : List ℕ) → IsInner front → Stops rest → IsNoSession front → (l : Line) → Spells (front ++ rest) l → ⊥
no_line front rest inner stops none l s =
    let small : l.session < 1000 = s.is_line.session in
    none l.session small (same_word front (decimal l.session) rest (32 ∷ body_text l.expected l.command) inner
    (decimal_inner l.session (omega arith)) stops refl (s.text ∙ line_flat l.session l.expected l.command)).0

pub no_session : (front rest : List ℕ) → IsInner front → Stops rest → IsNoSession front → (n : ℕ) → BeginsWith (front ++ rest) n → ⊥
no_session front rest inner stops none n b =
    let small : n < 1000 = b.exists in
    none n small (same_word front (decimal n) rest b.rest inner (decimal_inner n (omega arith)) stops (space_stops b.rest b.behind) b.front).0

pub no_thousand : IsNoSession (codes "1000")
unfolding digits
no_thousand n h e = let same : 1000 ≡ n = decimal_injective 1000 n (omega arith) (omega arith) e in omega arith

pub no_two_zeros : IsNoSession (codes "00")
unfolding digits
no_two_zeros zero h e = let left : codes "0" ≡ [] = ap tail e in cc
no_two_zeros (suc n) h e = let first : 48 < get_or (decimal (suc n)) 0 0 = first_decimal (suc n) (omega arith)
    (omega arith) in let is : 48 ≡ get_or (decimal (suc n)) 0 0 = ap (λ ds. get_or ds 0 0) e in omega arith

-- behind `show` no place stands
at_body : (rest : List ℕ) (o : Option ℕ) (c : Command) → IsCommand c → ((p : Place) → IsPlace p → rest ≡ place_text p → ⊥) → codes "show " ++ rest ≡ body_text o c → ⊥
unfolding body_text
at_body rest (Some v) c h none e = apart 115 97 _ _ refl e
at_body rest None (Ask p a as') h none e = apart 115 97 _ _ refl e
at_body rest None (Set p t) h none e = apart 104 101 _ _ refl (ap tail e)
at_body rest None (Put p a t) h none e = apart 115 112 _ _ refl e
at_body rest None (Drop p) h none e = apart 115 100 _ _ refl e
at_body rest None (Insert p a i t) h none e = apart 115 105 _ _ refl e
at_body rest None (Token p a v) h none e = apart 115 116 _ _ refl e
at_body rest None (Move p to a i) h none e = apart 115 109 _ _ refl e
at_body rest None (Show p) h none e = none p h (ap (drop 5) e)
at_body rest None (Mark a p) h none e = apart 115 109 _ _ refl e
at_body rest None (Unmark a) h none e = apart 115 117 _ _ refl e
at_body rest None (Where a) h none e = apart 115 119 _ _ refl e
at_body rest None Version h none e = apart 115 118 _ _ refl e
at_body rest None (Post p a as') h none e = apart 115 112 _ _ refl e
at_body rest None (Wait n) h none e = apart 115 119 _ _ refl e

pub nothing_shown : (rest : List ℕ) → ((p : Place) → IsPlace p → rest ≡ place_text p → ⊥) → (l : Line) → Spells (codes "0 show " ++ rest) l → ⊥
unfolding digits
nothing_shown rest none l s =
    let small : l.session < 1000 = s.is_line.session in
    let both = same_decimal 0 l.session (codes " show " ++ rest) (32 ∷ body_text l.expected l.command) (omega arith) (omega arith) refl refl (s.text ∙ line_flat l.session l.expected l.command) in
    at_body rest l.expected l.command s.is_line.command none (ap tail both.1)

-- no place begins with that byte, and a blank ends one
pub no_byte : (p : Place) → IsPlace p → 255 ∷ [] ≡ place_text p → ⊥
no_byte p h e = place_head p [] [] 255 refl refl (sym (ap (λ z. z ++ []) e))

pub no_blank : (p : Place) → IsPlace p → codes "/ " ≡ place_text p → ⊥
no_blank p h e = let both = same_place (From_root []) p (32 ∷ []) [] tt h refl tt (ap (λ z. z ++ []) e) in let is : 32 ∷ [] ≡ [] = both.1 in cc

-- behind `wait` stands no number of a question
at_wait : (rest : List ℕ) (o : Option ℕ) (c : Command) → IsCommand c → ((n : ℕ) → 0 < n → n ≤ last_post → rest ≡ decimal n → ⊥) → codes "wait " ++ rest ≡ body_text o c → ⊥
unfolding body_text
at_wait rest (Some v) c h none e = apart 119 97 _ _ refl e
at_wait rest None (Ask p a as') h none e = apart 119 97 _ _ refl e
at_wait rest None (Set p t) h none e = apart 119 115 _ _ refl e
at_wait rest None (Put p a t) h none e = apart 119 112 _ _ refl e
at_wait rest None (Drop p) h none e = apart 119 100 _ _ refl e
at_wait rest None (Insert p a i t) h none e = apart 119 105 _ _ refl e
at_wait rest None (Token p a v) h none e = apart 119 116 _ _ refl e
at_wait rest None (Move p to a i) h none e = apart 119 109 _ _ refl e
at_wait rest None (Show p) h none e = apart 119 115 _ _ refl e
at_wait rest None (Mark a p) h none e = apart 119 109 _ _ refl e
at_wait rest None (Unmark a) h none e = apart 119 117 _ _ refl e
at_wait rest None (Where a) h none e = apart 97 104 _ _ refl (ap tail e)
at_wait rest None Version h none e = apart 119 118 _ _ refl e
at_wait rest None (Post p a as') h none e = apart 119 112 _ _ refl e
at_wait rest None (Wait n) h none e = none n h.0 h.1 (ap (drop 5) e)

pub nothing_awaited : (rest : List ℕ) → ((n : ℕ) → 0 < n → n ≤ last_post → rest ≡ decimal n → ⊥) → (l : Line) → Spells (codes "0 wait " ++ rest) l → ⊥
unfolding digits
nothing_awaited rest none l s =
    let small : l.session < 1000 = s.is_line.session in
    let both = same_decimal 0 l.session (codes " wait " ++ rest) (32 ∷ body_text l.expected l.command) (omega arith) (omega arith) refl refl (s.text ∙ line_flat l.session l.expected l.command) in
    at_wait rest l.expected l.command s.is_line.command none (ap tail both.1)

-- no number of a question begins with a zero
pub no_zero : (rest : List ℕ) (n : ℕ) → 0 < n → n ≤ last_post → 48 ∷ rest ≡ decimal n → ⊥
no_zero rest n some small e = let first : 48 < get_or (decimal n) 0 0 = first_decimal n some (omega (arith, small)) in let is : 48 ≡ get_or (decimal n) 0 0 = ap (λ ds. get_or ds 0 0) e in omega arith
