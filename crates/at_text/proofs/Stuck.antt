-- Where no piece stands: at the end of a text, and at each fault.
use Rattle.std.proofs.Common.{◌≡◌, ℕ, ◌<◌, List, [], ◌∷◌, ◌++◌, length, Bool, true, false, not, ◌==◌, ◌||◌, ◌&&◌, None, refl, sym, ap, subst, ◌∙◌, append_assoc, eqb-true, lit<, length-append, arith, encode_utf8, encode_utf8_all}
use Rattle.std.specs.List.{flat_map}
use Rattle.std.proofs.lemmas.Bool.Decides.{nat_tests}
use Rattle.std.proofs.lemmas.Str.{encode_same, length-encode, len_utf8_bounds}
use Rattle.at_model.specs.Texts.{escaped}
use Rattle.at_model.proofs.Options.{both}
use Rattle.at_text.specs.Pieces.{Piece, Blank, LineComment, BlockComment, Name, Number, Quoted, Sign, spell, IsPiece, HasNoEnd, opens_comment, is_sign, signs}
use Rattle.at_text.specs.Faults.{leaves_open, makes_escape, is_misplaced, OpensText}
use Rattle.at_text.proofs.Fronts.{clash, not_false, tail_same}
use Rattle.at_text.proofs.Quotes.{unescaped, no_escape, same_body}
use Rattle.at_text.proofs.Openings.{family, family_at, opening, plain, slash, quote}
use Rattle.at_text.proofs.Same.{apart, behind_slash}

-- no piece stands at the front
abbrev pub Stuck : List ℕ → Type 0
Stuck rest = (p : Piece) (after : List ℕ) → IsPiece p after → rest ≡ spell p ++ after → ⊥

no_empty_sign : (s : List ℕ) → is_sign s ≡ true → 0 < length s
unfolding signs
no_empty_sign [] e = absurd (clash false e refl)
no_empty_sign (b ∷ bs) e = omega arith

pub longer : (p : Piece) (after : List ℕ) → IsPiece p after → 0 < length (spell p)
longer (Blank c) after is = omega (arith, length-encode c, len_utf8_bounds c)
longer (Name c cs) after is = omega (arith, length-append (encode_utf8 c) (encode_utf8_all cs), length-encode c, len_utf8_bounds c)
longer (Number d ds) after is = omega arith
longer (Quoted body) after is = omega arith
longer (LineComment cs) after is = omega arith
longer (BlockComment body) after is = omega arith
longer (Sign s) after is = no_empty_sign s is.0.0

pub shorter : (p : Piece) (rest after : List ℕ) → IsPiece p after → rest ≡ spell p ++ after → length after < length rest
shorter p rest after is e = omega (arith, ap length e, longer p after is, length-append (spell p) after)

pub stuck_at_end : Stuck []
stuck_at_end p after is e =
    let o = opening p after is in
    omega (arith, ap length (e ∙ o.split), length-append (encode_utf8 o.first) o.others, length-encode o.first, len_utf8_bounds o.first)

-- a piece that begins with this character is of its family
family_here : (b n : ℕ) (rest after : List ℕ) (p : Piece) → b < 128 → family_at b ≡ n → IsPiece p after → b ∷ rest ≡ spell p ++ after → n ≡ family p
family_here b n rest after p h f is e =
    let o = opening p after is in
    sym f ∙ ap family_at (encode_same b o.first rest o.others (sym (plain b rest h) ∙ e ∙ o.split)).0 ∙ o.of

pub stuck_in_comment : (body : List ℕ) → HasNoEnd body → Stuck (47 ∷ 42 ∷ body)
stuck_in_comment body none (LineComment cs) after is e = apart 42 47 refl (behind_slash 42 47 body (encode_utf8_all cs ++ after) e)
stuck_in_comment body none (BlockComment d) after is e =
    none d after (tail_same 42 42 body ((d ++ 42 ∷ 47 ∷ []) ++ after) (tail_same 47 47 (42 ∷ body) (42 ∷ ((d ++ 42 ∷ 47 ∷ []) ++ after)) e) ∙ append_assoc d (42 ∷ 47 ∷ []) after)
stuck_in_comment body none (Sign s) after is e = clash (opens_comment (s ++ after)) (ap opens_comment (sym e)) is.1
stuck_in_comment body none p after is e = apart 4 (family p) refl (family_here 47 4 (42 ∷ body) after p (lit< tt) slash is e)

either : {A : Type 0} (a b : Bool) → (a || b) ≡ true → (a ≡ true → A) → (b ≡ true → A) → A
either true b e left right = left refl
either false b e left right = right e

-- where a text between quotes doesn't go on, nothing is meant
pub open_means_none : (tail : List ℕ) → leaves_open tail ≡ true → unescaped tail ≡ None
open_means_none [] e = refl
open_means_none (b ∷ []) e = either (b == 10) (b == 92) e (λ f. subst (λ d. unescaped (d ∷ []) ≡ None)
    (sym (eqb-true b 10 f)) refl) (λ f. subst (λ d. unescaped (d ∷ []) ≡ None) (sym (eqb-true b 92 f)) refl)
open_means_none (b ∷ c ∷ bs) e = subst (λ d. unescaped (d ∷ c ∷ bs) ≡ None) (sym (eqb-true b 10 e)) refl

pub misplaced_means_none : (tail : List ℕ) → is_misplaced tail ≡ true → unescaped tail ≡ None
misplaced_means_none [] e = refl
misplaced_means_none (b ∷ []) e = subst (λ d. unescaped (d ∷ []) ≡ None) (sym (eqb-true b 9 e)) refl
misplaced_means_none (b ∷ c ∷ bs) e =
    either (b == 9) ((b == 92) && not (makes_escape c)) e
    (λ f. subst (λ d. unescaped (d ∷ c ∷ bs) ≡ None) (sym (eqb-true b 9 f)) refl)
    (λ f. let p = both (b == 92) (not (makes_escape c)) f in subst (λ d. unescaped (d ∷ c ∷ bs) ≡ None) (sym (eqb-true b 92 p.0)) (no_escape c bs (not_false (makes_escape c) p.1)))

-- a closing quote is neither
abbrev closes : List ℕ → Bool
closes [] = false
closes (b ∷ bs) = b == 34

open_not_closed : (tail : List ℕ) → leaves_open tail ≡ true → closes tail ≡ false
open_not_closed [] e = refl
open_not_closed (b ∷ []) e = grind (arith, nat_tests)
open_not_closed (b ∷ c ∷ bs) e = grind (arith, nat_tests)

misplaced_not_closed : (tail : List ℕ) → is_misplaced tail ≡ true → closes tail ≡ false
misplaced_not_closed [] e = refl
misplaced_not_closed (b ∷ []) e = grind (arith, nat_tests)
misplaced_not_closed (b ∷ c ∷ bs) e = grind (arith, nat_tests)

stuck_in_text : (rest body tail : List ℕ) → OpensText rest body tail → unescaped tail ≡ None → closes tail ≡ false → Stuck rest
stuck_in_text rest body tail opens none unclosed (Quoted d) after is e =
    let inner = tail_same 34 34 (flat_map escaped body ++ tail) ((flat_map escaped d ++ 34 ∷ []) ++ after) (sym opens ∙ e) in
    let r = same_body body d tail (34 ∷ after) none refl (inner ∙ append_assoc (flat_map escaped d) (34 ∷ []) after) in
    clash (closes tail) (ap closes r.1) unclosed
stuck_in_text rest body tail opens none unclosed p after is e = apart 3 (family p) refl (family_here 34 3 (flat_map escaped body ++ tail) after p (lit< tt) quote is (sym opens ∙ e))

pub stuck_in_open_text : (rest body tail : List ℕ) → OpensText rest body tail → leaves_open tail ≡ true → Stuck rest
stuck_in_open_text rest body tail opens e = stuck_in_text rest body tail opens (open_means_none tail e) (open_not_closed tail e)

pub stuck_at_misplaced : (rest body tail : List ℕ) → OpensText rest body tail → is_misplaced tail ≡ true → Stuck rest
stuck_at_misplaced rest body tail opens e = stuck_in_text rest body tail opens (misplaced_means_none tail e) (misplaced_not_closed tail e)

-- a text between quotes breaks off in one way
pub one_break : (tail : List ℕ) → leaves_open tail ≡ true → is_misplaced tail ≡ true → ⊥
one_break [] e f = clash false f refl
one_break (b ∷ []) e f = grind (arith, nat_tests)
one_break (b ∷ c ∷ bs) e f = grind (arith, nat_tests)
