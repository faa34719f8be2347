-- The piece that stands at the front of a text.
use Rattle.std.proofs.Common.{◌≡◌, ℕ, ◌≢◌, List, [], ◌∷◌, ◌++◌, length, Bool, true, false, ◌==◌, ◌||◌, ◌&&◌, inl, inr, Option, Some, None, Result, Ok, Err, MatchResult, refl, sym, ap, subst, ◌∙◌, append_assoc, lit<, eqb-true, length-append, arith, encode_utf8, encode_utf8_all, IsUtf8, Bor}
use Rattle.std.specs.Char.{is_ascii_digit}
use Rattle.std.specs.List.{flat_map}
use Rattle.std.proofs.lemmas.Str.{encode_ascii, encode_same, length-encode, len_utf8_bounds}
use Rattle.at_model.specs.Names.{starts_name, continues_name}
use Rattle.at_model.specs.Texts.{escaped}
use Rattle.at_text.specs.declared.token.TokenKind.{TokenKind}
use Rattle.at_text.specs.declared.token.TokenKind.TheVariants as kind
use Rattle.at_text.specs.declared.scan.front.Break.{Break}
use Rattle.at_text.specs.declared.scan.front.Break.TheVariants.{Bad, OpenText, OpenComment}
use Rattle.at_text.specs.Pieces.{Piece, Blank, LineComment, BlockComment, Name, Number, Quoted, Sign, spell, IsPiece, is_blank, is_within_line, opens_comment, begins, IsLongestSign}
use Rattle.at_text.specs.Front.{EndsRun, EndsComment, EndsSign, Means, IsFound, BreaksSign, BreaksPiece, BreaksQuoted, BeginsNoSign}
use Rattle.at_text.specs.Faults.{BeginsNone}
use Rattle.at_text.proofs.Fronts.{clash, neither}
use Rattle.at_text.proofs.Openings.{family, family_at, family_in, digit_small, plain}
use Rattle.at_text.proofs.Same.{digits_encode, apart}

pub found_blank : (c : ℕ) (text after : List ℕ) → is_blank c ≡ true → text ≡ encode_utf8 c ++ after → IsUtf8 after → IsFound text None after
found_blank c text after is e u = (Blank c, e, is, refl, u)

pub found_name : (c : ℕ) (text more after : List ℕ) → starts_name c ≡ true → text ≡ encode_utf8 c ++ more → EndsRun continues_name more after → IsUtf8 after → IsFound text (Some kind.Word) after
found_name c text more after is e r u = (Name c r.0, e ∙ ap (λ l. encode_utf8 c ++ l) r.1 ∙ sym (append_assoc (encode_utf8 c) (encode_utf8_all r.0) after), (is, r.2), refl, u)

pub found_number : (c : ℕ) (text more after : List ℕ) → is_ascii_digit c ≡ true → text ≡ encode_utf8 c ++ more
    → EndsRun is_ascii_digit more after → IsUtf8 after → IsFound text (Some kind.Number) after
found_number c text more after is e r u =
    (Number c r.0, e ∙ (λ i. encode_ascii c (digit_small c is) i ++ (r.1 ∙ ap (λ l. l ++ after) (digits_encode r.0 r.2.0)) i), (is, r.2), refl, u)

opened : (c : ℕ) (text more : List ℕ) → c ≡ 34 → text ≡ encode_utf8 c ++ more → text ≡ 34 ∷ more
opened c text more q e = e ∙ ap (λ d. encode_utf8 d ++ more) q ∙ ap (λ l. l ++ more) (encode_ascii 34 (lit< tt))

pub found_quoted : (c : ℕ) (text more after body : List ℕ) → c ≡ 34 → text ≡ encode_utf8 c ++ more → Means body more (34 ∷ after) → IsUtf8 after → IsFound text (Some kind.Text) after
found_quoted c text more after body q e m u =
    (Quoted body, opened c text more q e ∙ ap (λ l. 34 ∷ l) (m.0 ∙ sym (append_assoc (flat_map escaped body) (34 ∷ []) after)), m.1, refl, u)

pub found_line : (text line after : List ℕ) → text ≡ 47 ∷ 47 ∷ line → EndsRun is_within_line line after → IsUtf8 after → IsFound text None after
found_line text line after e r u = (LineComment r.0, e ∙ ap (λ l. 47 ∷ 47 ∷ l) r.1, r.2, refl, u)

pub found_comment : (text body after : List ℕ) → text ≡ 47 ∷ 42 ∷ body → EndsComment body after → IsFound text None after
found_comment text body after e m = (BlockComment m.0, e ∙ ap (λ l. 47 ∷ 42 ∷ l) (m.1 ∙ sym (append_assoc m.0 (42 ∷ 47 ∷ []) after)), m.2, refl, m.3)

-- neither comment opens
begins_two : (b c : ℕ) (text : List ℕ) → ((more : List ℕ) → text ≢ b ∷ c ∷ more) → begins (b ∷ c ∷ []) text ≡ false
begins_two b c [] none = refl
begins_two b c (x ∷ []) none = decide (b == x)
  where
    decide : (t : Bool) → (t && false) ≡ false
    decide true = refl
    decide false = refl
begins_two b c (x ∷ y ∷ more) none = decide (b == x) refl (c == y) refl
  where
    decide : (s : Bool) → (b == x) ≡ s → (t : Bool) → (c == y) ≡ t → (s && (t && true)) ≡ false
    decide true e true f = absurd (none more (λ i. sym (eqb-true b x e) i ∷ (sym (eqb-true c y f) i ∷ more)))
    decide true e false f = refl
    decide false e t f = refl

pub no_comment : (text : List ℕ) → ((more : List ℕ) → text ≢ 47 ∷ 47 ∷ more) → ((more : List ℕ) → text ≢ 47 ∷ 42 ∷ more) → opens_comment text ≡ false
no_comment text f g = (λ i. begins_two 47 47 text f i || begins_two 47 42 text g i)

pub found_sign : (text after : List ℕ) → ((more : List ℕ) → text ≢ 47 ∷ 47 ∷ more) → ((more : List ℕ) → text ≢ 47 ∷ 42 ∷ more) → EndsSign text after → IsFound text (Some kind.Sign) after
found_sign text after f g s = (Sign s.0, s.1, (subst (λ (l : List ℕ). IsLongestSign s.0 l) s.1 s.2, ap opens_comment (sym s.1) ∙ no_comment text f g), refl, s.3)

-- a character that opens none of the other pieces
pub other_family : (c : ℕ) → is_blank c ≡ false → starts_name c ≡ false → is_ascii_digit c ≡ false → (c == 34) ≡ false → family_at c ≡ 4
other_family c b s d q = rw (b, s, d, q) refl

no_piece : (c : ℕ) (text after : List ℕ) → family_at c ≡ 4 → text ≡ encode_utf8 c ++ after → opens_comment text ≡ false
    → BeginsNoSign text → (p : Piece) (rest : List ℕ) → IsPiece p rest → text ≡ spell p ++ rest → ⊥
no_piece c text after f e free none (LineComment cs) rest is g = clash (opens_comment text) (ap opens_comment g) free
no_piece c text after f e free none (BlockComment body) rest is g = clash (opens_comment text) (ap opens_comment g) free
no_piece c text after f e free none (Sign s) rest is g = none s rest is.0.0 g
no_piece c text after f e free none p rest is g = apart 4 (family p) refl (sym f ∙ family_in c text after p rest e is g)

begins_one : (b : ℕ) (text : List ℕ) → ((more : List ℕ) → text ≢ b ∷ more) → begins (b ∷ []) text ≡ false
begins_one b [] none = refl
begins_one b (x ∷ more) none = decide (b == x) refl
  where
    decide : (s : Bool) → (b == x) ≡ s → (s && true) ≡ false
    decide true e = absurd (none more (ap (λ y. y ∷ more) (sym (eqb-true b x e))))
    decide false e = refl

no_quote : (c : ℕ) (text after : List ℕ) → (c == 34) ≡ false → text ≡ encode_utf8 c ++ after → (more : List ℕ) → text ≢ 34 ∷ more
no_quote c text after q e more g = apart c 34 q (encode_same c 34 after more (sym e ∙ g ∙ plain 34 more (lit< tt))).0

breaks_none : (c : ℕ) (text after : List ℕ) → family_at c ≡ 4 → (c == 34) ≡ false → text ≡ encode_utf8 c ++ after → opens_comment text ≡ false → BeginsNoSign text → BeginsNone text
breaks_none c text after f q e free none = (
  omega (arith, ap length e, length-append (encode_utf8 c) after, length-encode c, len_utf8_bounds c),
  begins_one 34 text (no_quote c text after q e),
  (neither (begins (47 ∷ 47 ∷ []) text) (begins (47 ∷ 42 ∷ []) text) free).1,
  no_piece c text after f e free none,
)

pub breaks_else : (c : ℕ) (text after : List ℕ) (result : Result (Option TokenKind × Bor (List ℕ)) Break) → family_at c ≡ 4 → (c == 34) ≡ false → text ≡ encode_utf8 c ++ after
    → MatchResult result (λ found. IsFound text found.0 found.1.now) (BreaksSign text) → MatchResult result (λ found. IsFound text found.0 found.1.now) (BreaksPiece text)
breaks_else c text after (Ok found) f q e h = h
breaks_else c text after (Err (Bad tail)) f q e h = inl (breaks_none c text after f q e h.1 h.2, h.0)
breaks_else c text after (Err OpenText) f q e h = absurd h
breaks_else c text after (Err OpenComment) f q e h = h
