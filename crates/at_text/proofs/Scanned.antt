-- What the loops over pieces have read.
use Rattle.std.proofs.Common.{◌≡◌, ℕ, ◌+◌, ◌-◌, ◌≤◌, ◌<◌, List, [], ◌∷◌, ◌++◌, length, map, Bool, true, false, ◌⊎◌, inl, inr, Option, Some, None, refl, sym, ap, subst, ◌∙◌, append_assoc, append-nil, length-append, arith, IsUtf8, IsCharBoundary, All, true≢false, is_some, unwrap_or}
use Rattle.std.specs.List.{flat_map, list_all, AllByRecursion}
use Rattle.std.specs.Char.{is_ascii_digit}
use Rattle.std.specs.Str.{all_ascii_digits}
use Rattle.std.proofs.lemmas.List.{map-append, append_cancel_right}
use Rattle.std.proofs.lemmas.List.Elements.{All-push}
use Rattle.at_model.specs.Names.{is_word, continues_name}
use Rattle.std.proofs.lemmas.Str.{IsCharBoundary-at_seam, chars_from_encodes}
use Rattle.at_model.specs.Texts.{escaped, quoted}
use Rattle.at_text.specs.declared.token.TokenKind.{TokenKind}
use Rattle.at_text.specs.declared.token.TokenKind.TheVariants as kind
use Rattle.at_text.specs.declared.token.Token.{Token}
use Rattle.at_text.specs.declared.token.Lexeme.{Lexeme}
use Rattle.at_text.specs.declared.scan.ScanFault.{ScanFault}
use Rattle.at_text.specs.declared.scan.ScanFault.TheVariants.{Memory, Bad, OpenText, OpenComment}
use Rattle.at_text.specs.Pieces.{Piece, Blank, LineComment, BlockComment, Name, Number, Quoted, Sign, Cut, is_number, spell, IsPiece, kind_of, token_of, tokens_at, IsSpan, spelled, spelled_of, spelled_at, IsOfKind}
use Rattle.at_text.specs.Faults.{FaultsAt, StandsAt, BeginsNone, HasMisplacedAt, OpensText, is_misplaced}
use Rattle.at_text.specs.Front.{IsFound}
use Rattle.at_text.proofs.Fronts.{clash}
use Rattle.at_text.proofs.Stuck.{longer, shorter, stuck_at_end}
use Rattle.at_text.proofs.Cuts.{cut_none, cut_more, tokens_push, spelled_push, one_way}
use Rattle.at_text.proofs.Breaks.{broken_from, cut_unbroken, one_broken}

pub boundary_before : (text front after : List ℕ) → text ≡ front ++ after → IsUtf8 after → IsCharBoundary text (length text - length after)
boundary_before text front after e u =
    let n : length front ≡ length text - length after = omega (arith, ap length e, length-append front after) in
    subst (λ k. IsCharBoundary text k) n (IsCharBoundary-at_seam text front after e u)

pub bad_faults : (text rest tail : List ℕ) → IsUtf8 rest → (BeginsNone rest × (tail ≡ rest)) ⊎ ((body : List ℕ)
    × OpensText rest body tail × (is_misplaced tail ≡ true) × IsUtf8 tail) → (ps : List Piece) → Cut text ps rest
    → (StandsAt BeginsNone text (length text - length tail) ⊎ HasMisplacedAt text (length text - length tail)) × IsCharBoundary text (length text - length tail)
bad_faults text rest tail u (inl h) ps c =
    let front = flat_map spell ps in
    let same : length text - length tail ≡ length front = omega (arith, ap length c.whole, length-append front rest, ap length h.1) in
    (inl (ps, rest, c, same, h.0), boundary_before text front tail (c.whole ∙ ap (λ l. front ++ l) (sym h.1)) (subst IsUtf8 (sym h.1) u))
bad_faults text rest tail u (inr h) ps c =
    let front = flat_map spell ps in
    let within = 34 ∷ flat_map escaped h.0 in
    let whole : text ≡ (front ++ within) ++ tail = c.whole ∙ ap (λ l. front ++ l) h.1 ∙ sym (append_assoc front within tail) in
    let same : length text - length tail ≡ length front + (1 + length (flat_map escaped h.0)) = omega (arith, ap length whole, length-append (front ++ within) tail, length-append front within) in
    (inr (ps, rest, c, (h.0, tail, h.1, h.2, same)), boundary_before text (front ++ within) tail whole h.3)

-- want of memory is no fault of the text
abbrev is_memory : ScanFault → Bool
is_memory Memory = true
is_memory (Bad at) = false
is_memory (OpenText at) = false
is_memory (OpenComment at) = false

other_fault : (e : ScanFault) → is_memory e ≡ false → e ≡ Memory → ⊥
other_fault e f m = clash (is_memory e) (ap is_memory m) f

memory_or : {P : Type 0} (e : ScanFault) → ((e ≡ Memory → ⊥) → P) → (e ≡ Memory) ⊎ P
memory_or Memory h = inl refl
memory_or (Bad at) h = inr (h (other_fault (Bad at) refl))
memory_or (OpenText at) h = inr (h (other_fault (OpenText at) refl))
memory_or (OpenComment at) h = inr (h (other_fault (OpenComment at) refl))

pub fault_only : (text : List ℕ) (e : ScanFault) → FaultsAt text e → (ps : List Piece) → Cut text ps [] → e ≡ Memory
fault_only text e h ps c = elim (memory_or {P = ⊥} e (λ none. cut_unbroken text ps e c (broken_from text e none h))) [ inl m ↦ m | inr f ↦ absurd f ]

pub fault_same : (text : List ℕ) (e : ScanFault) → FaultsAt text e → (f : ScanFault) → (f ≡ Memory → ⊥) → FaultsAt text f → (e ≡ Memory) ⊎ (e ≡ f)
fault_same text e h f none g = memory_or {P = e ≡ f} e (λ other. one_broken text e f (broken_from text e other h) (broken_from text f none g))

pub within : (text rest : List ℕ) (ps : List Piece) → Cut text ps rest → length rest ≤ length text
within text rest ps c = omega (arith, ap length c.whole, length-append (flat_map spell ps) rest)

-- the cut that a loop has made, and the tokens among its pieces
pub record Scanned (text rest : List ℕ) (tokens : List Token) : Type 0 where
  pub pieces : List Piece
  pub cut : Cut text pieces rest
  pub are : tokens ≡ tokens_at 0 pieces
  pub spans : All (IsSpan text) tokens

-- the place behind a piece
piece_end : (text rest after : List ℕ) (ps : List Piece) (p : Piece) → Cut text ps rest → rest ≡ spell p ++ after → length text - length after ≡ 0 + length (flat_map spell ps) + length (spell p)
piece_end text rest after ps p c e = omega (arith, ap length c.whole, length-append (flat_map spell ps) rest, ap length e, length-append (spell p) after)

piece_start : (text rest : List ℕ) (ps : List Piece) → Cut text ps rest → length text - length rest ≡ 0 + length (flat_map spell ps)
piece_start text rest ps c = omega (arith, ap length c.whole, length-append (flat_map spell ps) rest)

scanned_are : (text rest after : List ℕ) (old new : List Token) (ps : List Piece) (p : Piece) (k : Option TokenKind) → Cut text ps rest → rest ≡ spell p ++ after → kind_of p ≡ k → old ≡ tokens_at 0 ps
    → new ≡ old ++ token_of k (length text - length rest) (length text - length after) → new ≡ tokens_at 0 (ps ++ p ∷ [])
scanned_are text rest after old new ps p k c e kind are pushed =
    pushed ∙ (λ i. are i ++ token_of (sym kind i) (piece_start text rest ps c i) (piece_end text rest after ps p c e i)) ∙ sym (tokens_push 0 ps p)

pub scanned_more : (text rest after : List ℕ) (old new : List Token) (x : Token) → Scanned text rest old → IsFound rest (Some x.kind) after → IsUtf8 rest
    → x.start ≡ length text - length rest → x.end ≡ length text - length after → new ≡ old ++ x ∷ [] → Scanned text after new
scanned_more text rest after old new x s f u at to pushed =
    let p = f.0 in
    let front = flat_map spell s.pieces in
    let one : new ≡ old ++ token_of (Some x.kind) (length text - length rest) (length text - length after) = pushed ∙ (λ i. old ++ token_of (Some x.kind) (at i) (to i)) in
    let first : IsCharBoundary text x.start = subst (λ k. IsCharBoundary text k) (sym at) (boundary_before text front rest s.cut.whole u) in
    let behind : text ≡ (front ++ spell p) ++ after = s.cut.whole ∙ ap (λ l. front ++ l) f.1 ∙ sym (append_assoc front (spell p) after) in
    let last : IsCharBoundary text x.end = subst (λ k. IsCharBoundary text k) (sym to) (boundary_before text (front ++ spell p) after behind f.4) in
    let some : x.start < x.end = omega (arith, at, to, piece_start text rest s.pieces s.cut, piece_end text rest after s.pieces p s.cut f.1, longer p after f.2) in
    record {
      pieces = s.pieces ++ p ∷ [];
      cut = cut_more text rest after s.pieces p s.cut f.1 f.2;
      are = scanned_are text rest after old new s.pieces p (Some x.kind) s.cut f.1 f.3 s.are one;
      spans = subst (λ (xs : List Token). All (IsSpan text) xs) (sym pushed) (All-push (IsSpan text) old x s.spans (some, first, last));
    }

pub scanned_blank : (text rest after : List ℕ) (old : List Token) → Scanned text rest old → IsFound rest None after → Scanned text after old
scanned_blank text rest after old s f = record {
  pieces = s.pieces ++ f.0 ∷ [];
  cut = cut_more text rest after s.pieces f.0 s.cut f.1 f.2;
  are = scanned_are text rest after old old s.pieces f.0 None s.cut f.1 f.3 s.are (sym (append-nil old));
  spans = s.spans;
}

no_bytes : (rest : List ℕ) → length rest ≡ 0 → rest ≡ []
no_bytes [] e = refl
no_bytes (b ∷ rest) e = absurd (omega (arith, e))

pub whole_cut : (text rest : List ℕ) (ps : List Piece) → Cut text ps rest → length rest ≡ 0 → Cut text ps []
whole_cut text rest ps c e = subst (λ (l : List ℕ). Cut text ps l) (no_bytes rest e) c

pub cut_only : (text : List ℕ) (ps qs : List Piece) → Cut text ps [] → Cut text qs [] → ps ≡ qs
cut_only text ps qs c d = (one_way text [] [] ps qs stuck_at_end stuck_at_end c d).0

pub cut_faultless : (text : List ℕ) (ps : List Piece) → Cut text ps [] → (e : ScanFault) → (e ≡ Memory → ⊥) → FaultsAt text e → ⊥
cut_faultless text ps c e none f = none (fault_only text e f ps c)

pub found_shorter : (rest after : List ℕ) (k : Option TokenKind) → IsFound rest k after → length after < length rest
found_shorter rest after k f = shorter f.0 rest after f.2 f.1

-- a token that a piece makes has its kind's form
list_all_from : (p : ℕ → Bool) (cs : List ℕ) → AllByRecursion (λ c. p c ≡ true) cs → list_all p cs ≡ true
list_all_from p [] h = refl
list_all_from p (c ∷ cs) h = rw (h.0, list_all_from p cs h.1) refl

digits_from : (cs : List ℕ) → AllByRecursion (λ c. is_ascii_digit c ≡ true) cs → all_ascii_digits cs ≡ true
digits_from [] h = refl
digits_from (c ∷ cs) h = rw (h.0, digits_from cs h.1) refl

some_kind : (k l : TokenKind) → Some k ≡ Some l → k ≡ l
some_kind k l e = ap (λ o. unwrap_or o k) e

form : (p : Piece) (after : List ℕ) (k : TokenKind) → IsPiece p after → kind_of p ≡ Some k → IsUtf8 (spell p) → IsOfKind k (spell p)
form (Blank c) after k is e u = absurd (true≢false (sym (ap is_some e)))
form (LineComment cs) after k is e u = absurd (true≢false (sym (ap is_some e)))
form (BlockComment body) after k is e u = absurd (true≢false (sym (ap is_some e)))
form (Name c cs) after k is e u =
    let word : is_word (c ∷ cs) ≡ true = rw (is.0, list_all_from continues_name cs is.1.0) refl in
    subst (λ l. IsOfKind l (spell (Name c cs))) (some_kind kind.Word k e) (ap is_word (sym (chars_from_encodes (c ∷ cs) (spell (Name c cs)) u refl)) ∙ word)
form (Number d ds) after k is e u =
    let number : is_number (d ∷ ds) ≡ true = rw (is.0, digits_from ds is.1.0) refl in
    subst (λ l. IsOfKind l (d ∷ ds)) (some_kind kind.Number k e) number
form (Quoted body) after k is e u = subst (λ l. IsOfKind l (quoted body)) (some_kind kind.Text k e) (body, is, refl)
form (Sign s) after k is e u = subst (λ l. IsOfKind l s) (some_kind kind.Sign k e) is.0.0

-- the cut that a loop has made, and its tokens with their texts
pub record Lexed (text rest : List ℕ) (lexemes : List Lexeme) : Type 0 where
  pub pieces : List Piece
  pub cut : Cut text pieces rest
  pub are : map spelled lexemes ≡ spelled_at 0 pieces
  pub kinds : All (λ x. IsOfKind x.kind x.text.now) lexemes
  pub starts : All (λ x. IsCharBoundary text x.start) lexemes

pub lexed_blank : (text rest after : List ℕ) (old : List Lexeme) → Lexed text rest old → IsFound rest None after → Lexed text after old
lexed_blank text rest after old s f = record {
  pieces = s.pieces ++ f.0 ∷ [];
  cut = cut_more text rest after s.pieces f.0 s.cut f.1 f.2;
  are = s.are ∙ sym (spelled_push 0 s.pieces f.0 ∙ ap (λ k. spelled_at 0 s.pieces ++ spelled_of k (spell f.0) (0 + length (flat_map spell s.pieces))) f.3 ∙ append-nil (spelled_at 0 s.pieces));
  kinds = s.kinds;
  starts = s.starts;
}

pub lexed_more : (text rest after : List ℕ) (old new : List Lexeme) (x : Lexeme) → Lexed text rest old → IsFound rest (Some x.kind) after → IsUtf8 rest
    → rest ≡ x.text.now ++ after → IsUtf8 x.text.now → x.start ≡ length text - length rest → new ≡ old ++ x ∷ [] → Lexed text after new
lexed_more text rest after old new x s f u e v at pushed =
    let p = f.0 in
    let front = flat_map spell s.pieces in
    let same : spell p ≡ x.text.now = append_cancel_right (spell p) x.text.now after (sym f.1 ∙ e) in
    let start : 0 + length front ≡ x.start = omega (arith, at, ap length s.cut.whole, length-append front rest) in
    let one : spelled_at 0 (s.pieces ++ p ∷ []) ≡ spelled_at 0 s.pieces ++ spelled x ∷ [] = spelled_push 0 s.pieces p ∙ (λ i. spelled_at 0 s.pieces ++ spelled_of (f.3 i) (same i) (start i)) in
    let here : IsCharBoundary text x.start = subst (λ k. IsCharBoundary text k) (sym at) (boundary_before text front rest s.cut.whole u) in
    record {
      pieces = s.pieces ++ p ∷ [];
      cut = cut_more text rest after s.pieces p s.cut f.1 f.2;
      are = ap (map spelled) pushed ∙ map-append spelled old (x ∷ []) ∙ ap (λ l. l ++ spelled x ∷ []) s.are ∙ sym one;
      kinds = subst (λ (xs : List Lexeme). All (λ y. IsOfKind y.kind y.text.now) xs) (sym pushed)
          (All-push (λ y. IsOfKind y.kind y.text.now) old x s.kinds
          (subst (IsOfKind x.kind) same (form p after x.kind f.2 f.3 (subst IsUtf8 (sym same) v))));
      starts = subst (λ (xs : List Lexeme). All (λ y. IsCharBoundary text y.start) xs) (sym pushed) (All-push (λ y. IsCharBoundary text y.start) old x s.starts here);
    }
