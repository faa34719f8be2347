-- What stands at the front of a text is one piece.
use Rattle.std.proofs.Common.{◌≡◌, ℕ, ◌≤◌, List, [], ◌∷◌, ◌++◌, length, true, false, ◌==◌, refl, sym, ap, ◌∙◌, append_assoc, eq-eqb, arith, encode_utf8, encode_utf8_all}
use Rattle.std.specs.Char.{is_ascii_digit}
use Rattle.std.specs.List.{flat_map, AllByRecursion}
use Rattle.std.proofs.lemmas.Str.{encode_same, encode_ascii}
use Rattle.at_model.specs.Names.{continues_name}
use Rattle.at_model.specs.Texts.{escaped, quoted}
use Rattle.at_text.specs.Pieces.{Piece, Blank, LineComment, BlockComment, Name, Number, Quoted, Sign, spell, IsPiece, IsLongestRun, IsLongestSign, HasNoEnd, is_within_line, opens_comment}
use Rattle.at_text.proofs.Fronts.{clash, head_same, tail_same, same_run}
use Rattle.at_text.proofs.Quotes.{same_body}
use Rattle.at_text.proofs.Openings.{family, family_same, digit_small}

-- the same piece, and the same rest
abbrev pub AreSame : Piece → Piece → List ℕ → List ℕ → Type 0
AreSame p q x y = (p ≡ q) × (x ≡ y)

pub apart : {A : Type 0} (m n : ℕ) → (m == n) ≡ false → m ≡ n → A
apart m n f e = absurd (clash (m == n) (eq-eqb m n e) f)

-- bytes of one length before the rest
same_front : (xs ys x y : List ℕ) → length xs ≡ length ys → xs ++ x ≡ ys ++ y → (xs ≡ ys) × (x ≡ y)
same_front [] [] x y n e = (refl, e)
same_front [] (d ∷ ys) x y n e = absurd (omega (arith, n))
same_front (c ∷ xs) [] x y n e = absurd (omega (arith, n))
same_front (c ∷ xs) (d ∷ ys) x y n e =
    let h = head_same c d (xs ++ x) (ys ++ y) e in
    let r = same_front xs ys x y (omega (arith, n)) (tail_same c d (xs ++ x) (ys ++ y) e) in
    ((λ i. h i ∷ r.0 i), r.1)

-- the end of a comment is its first
past_first : (b : ℕ) (bs : List ℕ) → HasNoEnd (b ∷ bs) → HasNoEnd bs
past_first b bs h before after e = h (b ∷ before) after (ap (λ l. b ∷ l) e)

ends_early : {A : Type 0} (d : ℕ) (ds x y : List ℕ) → HasNoEnd ((d ∷ ds) ++ 42 ∷ []) → 42 ∷ 47 ∷ x ≡ (d ∷ ds) ++ (42 ∷ 47 ∷ y) → A
ends_early d [] x y h e = apart 47 42 refl (head_same 47 42 x (47 ∷ y) (tail_same 42 d (47 ∷ x) (42 ∷ 47 ∷ y) e))
ends_early d (f ∷ ds) x y h e =
    let first = head_same 42 d (47 ∷ x) ((f ∷ ds) ++ (42 ∷ 47 ∷ y)) e in
    let second = head_same 47 f x (ds ++ (42 ∷ 47 ∷ y)) (tail_same 42 d (47 ∷ x) ((f ∷ ds) ++ (42 ∷ 47 ∷ y)) e) in
    absurd (h [] (ds ++ 42 ∷ []) (λ i. sym first i ∷ (sym second i ∷ (ds ++ 42 ∷ []))))

same_comment : (b d x y : List ℕ) → HasNoEnd (b ++ 42 ∷ []) → HasNoEnd (d ++ 42 ∷ []) → b ++ (42 ∷ 47 ∷ x) ≡ d ++ (42 ∷ 47 ∷ y) → (b ≡ d) × (x ≡ y)
same_comment [] [] x y g h e = (refl, tail_same 47 47 x y (tail_same 42 42 (47 ∷ x) (47 ∷ y) e))
same_comment [] (c ∷ d) x y g h e = ends_early c d x y h e
same_comment (a ∷ b) [] x y g h e = ends_early a b y x g (sym e)
same_comment (a ∷ b) (c ∷ d) x y g h e =
    let first = head_same a c (b ++ (42 ∷ 47 ∷ x)) (d ++ (42 ∷ 47 ∷ y)) e in
    let r = same_comment b d x y (past_first a (b ++ 42 ∷ []) g) (past_first c (d ++ 42 ∷ []) h) (tail_same a c (b ++ (42 ∷ 47 ∷ x)) (d ++ (42 ∷ 47 ∷ y)) e) in
    ((λ i. first i ∷ r.0 i), r.1)

same_sign : (s t x y : List ℕ) → IsLongestSign s (s ++ x) → IsLongestSign t (t ++ y) → s ++ x ≡ t ++ y → (s ≡ t) × (x ≡ y)
same_sign s t x y g h e =
    let a : length t ≤ length s = g.1 t y h.0 e in
    let b : length s ≤ length t = h.1 s x g.0 (sym e) in
    same_front s t x y (omega (arith, a, b)) e

-- digits are bytes
pub digits_encode : (ds : List ℕ) → AllByRecursion (λ c. is_ascii_digit c ≡ true) ds → encode_utf8_all ds ≡ ds
digits_encode [] h = refl
digits_encode (d ∷ ds) h = (λ i. encode_ascii d (digit_small d h.0) i ++ digits_encode ds h.1 i)

same_name : (c d : ℕ) (cs ds x y : List ℕ) → IsLongestRun continues_name cs x → IsLongestRun continues_name ds y
    → encode_utf8_all (c ∷ cs) ++ x ≡ encode_utf8_all (d ∷ ds) ++ y → AreSame (Name c cs) (Name d ds) x y
same_name c d cs ds x y g h e =
    let s = encode_same c d (encode_utf8_all cs ++ x) (encode_utf8_all ds ++ y) (sym (append_assoc (encode_utf8 c) (encode_utf8_all cs) x) ∙ e ∙ append_assoc (encode_utf8 d) (encode_utf8_all ds) y) in
    let r = same_run continues_name cs ds x y g h s.1 in
    ((λ i. Name (s.0 i) (r.0 i)), r.1)

same_number : (c d : ℕ) (cs ds x y : List ℕ) → IsLongestRun is_ascii_digit cs x → IsLongestRun is_ascii_digit ds y → c ∷ (cs ++ x) ≡ d ∷ (ds ++ y) → AreSame (Number c cs) (Number d ds) x y
same_number c d cs ds x y g h e =
    let first = head_same c d (cs ++ x) (ds ++ y) e in
    let rest = tail_same c d (cs ++ x) (ds ++ y) e in
    let r = same_run is_ascii_digit cs ds x y g h (ap (λ l. l ++ x) (digits_encode cs g.0) ∙ rest ∙ ap (λ l. l ++ y) (sym (digits_encode ds h.0))) in
    ((λ i. Number (first i) (r.0 i)), r.1)

same_quoted : (b d x y : List ℕ) → quoted b ++ x ≡ quoted d ++ y → AreSame (Quoted b) (Quoted d) x y
same_quoted b d x y e =
    let inner = tail_same 34 34 ((flat_map escaped b ++ 34 ∷ []) ++ x) ((flat_map escaped d ++ 34 ∷ []) ++ y) e in
    let r = same_body b d (34 ∷ x) (34 ∷ y) refl refl (sym (append_assoc (flat_map escaped b) (34 ∷ []) x) ∙ inner ∙ append_assoc (flat_map escaped d) (34 ∷ []) y) in
    ((λ i. Quoted (r.0 i)), tail_same 34 34 x y r.1)

pub behind_slash : (b c : ℕ) (bs cs : List ℕ) → 47 ∷ b ∷ bs ≡ 47 ∷ c ∷ cs → b ≡ c
behind_slash b c bs cs e = head_same b c bs cs (tail_same 47 47 (b ∷ bs) (c ∷ cs) e)

pub same_piece : (p q : Piece) (x y : List ℕ) → IsPiece p x → IsPiece q y → spell p ++ x ≡ spell q ++ y → AreSame p q x y
same_piece (Blank c) (Blank d) x y g h e = let s = encode_same c d x y e in ((λ i. Blank (s.0 i)), s.1)
same_piece (Blank c) q x y g h e = apart (family (Blank c)) (family q) refl (family_same (Blank c) q x y g h e)
same_piece (Name c cs) (Name d ds) x y g h e = same_name c d cs ds x y g.1 h.1 e
same_piece (Name c cs) q x y g h e = apart (family (Name c cs)) (family q) refl (family_same (Name c cs) q x y g h e)
same_piece (Number c cs) (Number d ds) x y g h e = same_number c d cs ds x y g.1 h.1 e
same_piece (Number c cs) q x y g h e = apart (family (Number c cs)) (family q) refl (family_same (Number c cs) q x y g h e)
same_piece (Quoted b) (Quoted d) x y g h e = same_quoted b d x y e
same_piece (Quoted b) q x y g h e = apart (family (Quoted b)) (family q) refl (family_same (Quoted b) q x y g h e)
same_piece (LineComment cs) (LineComment ds) x y g h e =
    let r = same_run is_within_line cs ds x y g h (tail_same 47 47 (encode_utf8_all cs ++ x) (encode_utf8_all ds ++ y)
    (tail_same 47 47 (47 ∷ (encode_utf8_all cs ++ x)) (47 ∷ (encode_utf8_all ds ++ y)) e)) in
    ((λ i. LineComment (r.0 i)), r.1)
same_piece (LineComment cs) (BlockComment d) x y g h e = apart 47 42 refl (behind_slash 47 42 (encode_utf8_all cs ++ x) ((d ++ 42 ∷ 47 ∷ []) ++ y) e)
same_piece (LineComment cs) (Sign t) x y g h e = absurd (clash (opens_comment (t ++ y)) (ap opens_comment (sym e)) h.1)
same_piece (LineComment cs) q x y g h e = apart (family (LineComment cs)) (family q) refl (family_same (LineComment cs) q x y g h e)
same_piece (BlockComment b) (BlockComment d) x y g h e =
    let inner = tail_same 42 42 ((b ++ 42 ∷ 47 ∷ []) ++ x) ((d ++ 42 ∷ 47 ∷ []) ++ y) (tail_same 47 47 (42 ∷ ((b ++ 42 ∷ 47 ∷ []) ++ x)) (42 ∷ ((d ++ 42 ∷ 47 ∷ []) ++ y)) e) in
    let r = same_comment b d x y g h (sym (append_assoc b (42 ∷ 47 ∷ []) x) ∙ inner ∙ append_assoc d (42 ∷ 47 ∷ []) y) in
    ((λ i. BlockComment (r.0 i)), r.1)
same_piece (BlockComment b) (LineComment ds) x y g h e = apart 42 47 refl (behind_slash 42 47 ((b ++ 42 ∷ 47 ∷ []) ++ x) (encode_utf8_all ds ++ y) e)
same_piece (BlockComment b) (Sign t) x y g h e = absurd (clash (opens_comment (t ++ y)) (ap opens_comment (sym e)) h.1)
same_piece (BlockComment b) q x y g h e = apart (family (BlockComment b)) (family q) refl (family_same (BlockComment b) q x y g h e)
same_piece (Sign s) (Sign t) x y g h e = let r = same_sign s t x y g.0 h.0 e in ((λ i. Sign (r.0 i)), r.1)
same_piece (Sign s) (LineComment ds) x y g h e = absurd (clash (opens_comment (s ++ x)) (ap opens_comment e) g.1)
same_piece (Sign s) (BlockComment d) x y g h e = absurd (clash (opens_comment (s ++ x)) (ap opens_comment e) g.1)
same_piece (Sign s) q x y g h e = apart (family (Sign s)) (family q) refl (family_same (Sign s) q x y g h e)
