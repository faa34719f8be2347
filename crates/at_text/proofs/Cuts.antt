-- Cuts of a text, and the tokens among their pieces.
use Rattle.std.proofs.Common.{◌≡◌, ℕ, ◌+◌, List, [], ◌∷◌, ◌++◌, length, Option, refl, sym, ap, subst, ◌∙◌, append_assoc, append-nil, length-append, arith}
use Rattle.std.specs.List.{flat_map}
use Rattle.std.proofs.lemmas.Grind.{flat_map-append}
use Rattle.std.proofs.lemmas.List.Concat.{flat_map-cons}
use Rattle.at_text.specs.declared.token.TokenKind.{TokenKind}
use Rattle.at_text.specs.Pieces.{Piece, spell, IsPiece, kind_of, AreBefore, Cut, token_of, tokens_at, spelled_of, spelled_at}
use Rattle.at_text.proofs.Same.{same_piece}
use Rattle.at_text.proofs.Stuck.{Stuck}

-- before a place where no piece stands, a text is cut in one way
pub same_cut : (ps qs : List Piece) (x y : List ℕ) → Stuck x → Stuck y → AreBefore ps x → AreBefore qs y → flat_map spell ps ++ x ≡ flat_map spell qs ++ y → (ps ≡ qs) × (x ≡ y)
same_cut [] [] x y s t g h e = (refl, e)
same_cut [] (q ∷ qs) x y s t g h e = absurd (s q (flat_map spell qs ++ y) h.0 (e ∙ append_assoc (spell q) (flat_map spell qs) y))
same_cut (p ∷ ps) [] x y s t g h e = absurd (t p (flat_map spell ps ++ x) g.0 (sym e ∙ append_assoc (spell p) (flat_map spell ps) x))
same_cut (p ∷ ps) (q ∷ qs) x y s t g h e =
    let whole : spell p ++ (flat_map spell ps ++ x) ≡ spell q ++ (flat_map spell qs ++ y) = sym (append_assoc (spell p) (flat_map spell ps) x) ∙ e ∙ append_assoc (spell q) (flat_map spell qs) y in
    let a = same_piece p q (flat_map spell ps ++ x) (flat_map spell qs ++ y) g.0 h.0 whole in
    let r = same_cut ps qs x y s t g.1 h.1 a.1 in
    ((λ i. a.0 i ∷ r.0 i), r.1)

pub one_way : (text x y : List ℕ) (ps qs : List Piece) → Stuck x → Stuck y → Cut text ps x → Cut text qs y → (ps ≡ qs) × (x ≡ y)
one_way text x y ps qs s t c d = same_cut ps qs x y s t c.each d.each (sym c.whole ∙ d.whole)

-- a piece more
one_more : (ps : List Piece) (p : Piece) → flat_map spell (ps ++ p ∷ []) ≡ flat_map spell ps ++ spell p
one_more ps p = flat_map-append spell ps (p ∷ []) ∙ ap (λ l. flat_map spell ps ++ l) (flat_map-cons spell p [] ∙ append-nil (spell p))

before_push : (ps : List Piece) (p : Piece) (rest : List ℕ) → AreBefore ps (spell p ++ rest) → IsPiece p rest → AreBefore (ps ++ p ∷ []) rest
before_push [] p rest a is = (is, tt)
before_push (q ∷ ps) p rest a is =
    let e : flat_map spell ps ++ (spell p ++ rest) ≡ flat_map spell (ps ++ p ∷ []) ++ rest = sym (append_assoc (flat_map spell ps) (spell p) rest) ∙ ap (λ l. l ++ rest) (sym (one_more ps p)) in
    (subst (λ (l : List ℕ). IsPiece q l) e a.0, before_push ps p rest a.1 is)

pub cut_none : (text : List ℕ) → Cut text [] text
cut_none text = record { whole = refl; each = tt }

pub cut_more : (text rest after : List ℕ) (ps : List Piece) (p : Piece) → Cut text ps rest → rest ≡ spell p ++ after → IsPiece p after → Cut text (ps ++ p ∷ []) after
cut_more text rest after ps p c e is = record {
  whole = c.whole ∙ ap (λ l. flat_map spell ps ++ l) e ∙ sym (append_assoc (flat_map spell ps) (spell p) after) ∙ ap (λ l. l ++ after) (sym (one_more ps p));
  each = before_push ps p after (subst (λ (l : List ℕ). AreBefore ps l) e c.each) is;
}

token_moved : (k : Option TokenKind) (a b n : ℕ) → a ≡ b → token_of k a (a + n) ≡ token_of k b (b + n)
token_moved k a b n e = ap (λ x. token_of k x (x + n)) e

pub tokens_push : (start : ℕ) (ps : List Piece) (p : Piece)
    → tokens_at start (ps ++ p ∷ []) ≡ tokens_at start ps ++ token_of (kind_of p) (start + length (flat_map spell ps)) (start + length (flat_map spell ps) + length (spell p))
tokens_push start [] p = append-nil (token_of (kind_of p) start (start + length (spell p))) ∙ token_moved (kind_of p) start (start + 0) (length (spell p)) (omega arith)
tokens_push start (q ∷ ps) p =
    let n = start + length (spell q) in
    let same : n + length (flat_map spell ps) ≡ start + length (spell q ++ flat_map spell ps) = omega (arith, length-append (spell q) (flat_map spell ps)) in
    ap (λ l. token_of (kind_of q) start n ++ l)
    (tokens_push n ps p ∙ ap (λ l. tokens_at n ps ++ l) (token_moved (kind_of p) (n + length (flat_map spell ps))
    (start + length (spell q ++ flat_map spell ps)) (length (spell p)) same))
    ∙ sym (append_assoc (token_of (kind_of q) start n) (tokens_at n ps) _)

pub spelled_push : (start : ℕ) (ps : List Piece) (p : Piece) → spelled_at start (ps ++ p ∷ []) ≡ spelled_at start ps ++ spelled_of (kind_of p) (spell p) (start + length (flat_map spell ps))
spelled_push start [] p = append-nil (spelled_of (kind_of p) (spell p) start) ∙ ap (λ n. spelled_of (kind_of p) (spell p) n) (let e : start ≡ start + 0 = omega arith in e)
spelled_push start (q ∷ ps) p =
    let n = start + length (spell q) in
    let same : n + length (flat_map spell ps) ≡ start + length (spell q ++ flat_map spell ps) = omega (arith, length-append (spell q) (flat_map spell ps)) in
    ap (λ l. spelled_of (kind_of q) (spell q) start ++ l) (spelled_push n ps p ∙ ap (λ m. spelled_at n ps ++ spelled_of (kind_of p) (spell p) m) same)
    ∙ sym (append_assoc (spelled_of (kind_of q) (spell q) start) (spelled_at n ps) _)
