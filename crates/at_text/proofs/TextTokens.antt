-- The row of tokens of a text, and fronts of rows.
use Rattle.std.proofs.Common.{◌≡◌, ℕ, List, [], ◌∷◌, ◌++◌, length, map, take, drop, refl, sym, ap, ◌∙◌}
use Rattle.at_text.specs.Pieces.{Piece, Cut, Spelled, spelled_at}
use Rattle.at_text.specs.Symbols.{HasTokens, PlacedToken, placed_in}
use Rattle.at_text.proofs.Scanned.{cut_only}

-- the tokens that the program has are those of the text
pub has_tokens : (text : List ℕ) (ps : List Piece) (ss : List Spelled) (ts : List PlacedToken) → Cut text ps [] → ss ≡ spelled_at 0 ps → ts ≡ map (placed_in text) ss → HasTokens text ts
has_tokens text ps ss ts cut e f = (ps, cut, f ∙ ap (map (placed_in text)) e)

-- a text has one row of tokens
pub one_row : (text : List ℕ) (ts us : List PlacedToken) → HasTokens text ts → HasTokens text us → ts ≡ us
one_row text ts us h k = h.2 ∙ ap (λ ps. map (placed_in text) (spelled_at 0 ps)) (cut_only text h.0 k.0 h.1 k.1) ∙ sym k.2

-- a front as it is taken, and what stands behind it
pub take_front : {A : Type 0} (xs ys : List A) → take (length xs) (xs ++ ys) ≡ xs
take_front [] ys = refl
take_front (x ∷ xs) ys = ap (λ zs. x ∷ zs) (take_front xs ys)

pub drop_front : {A : Type 0} (xs ys : List A) → drop (length xs) (xs ++ ys) ≡ ys
drop_front [] ys = refl
drop_front (x ∷ xs) ys = drop_front xs ys
