-- The spelling of a text between quotes, told by its bytes.
use Rattle.std.proofs.Common.{◌≡◌, ℕ, List, [], ◌∷◌, ◌++◌, Bool, true, false, cond, refl, sym, ap, subst, ◌∙◌, append_assoc}
use Rattle.std.specs.Prelude.{◌==◌, ◌&&◌, ◌||◌, not}
use Rattle.std.specs.List.{flat_map}
use Rattle.std.proofs.lemmas.Bool.{eqb-true}
use Rattle.std.proofs.lemmas.List.Concat.{flat_map-cons}
use Rattle.at_model.specs.Texts.{escaped, quoted}
use Rattle.at_model.proofs.Options.{both}
use Rattle.at_text.specs.Faults.{makes_escape}
use Rattle.at_jrag.specs.Table.{is_quoted, ends_quoted}

-- this text is left behind an opening quote, and then the closing one
pub record Spelled (bytes : List ℕ) : Type 0 where
  pub text : List ℕ
  pub is : bytes ≡ flat_map escaped text ++ 34 ∷ []

one_more : (b : ℕ) (front bytes : List ℕ) → escaped b ≡ front → Spelled bytes → Spelled (front ++ bytes)
one_more b front bytes e s = record {
  text = b ∷ s.text;
  is = (λ i. sym e i ++ s.is i) ∙ sym (append_assoc (escaped b) (flat_map escaped s.text) (34 ∷ [])) ∙ ap (λ l. l ++ 34 ∷ []) (sym (flat_map-cons escaped b s.text));
}

-- what stands behind a backslash
escape_of : (w x y z : Bool) (c : ℕ) (bytes : List ℕ) → c == 34 ≡ w → c == 92 ≡ x → c == 110 ≡ y → c == 116 ≡ z → w || x || y || z ≡ true → Spelled bytes → Spelled (92 ∷ c ∷ bytes)
escape_of true x y z c bytes q s n t h k = one_more 34 (92 ∷ c ∷ []) bytes (ap (λ v. 92 ∷ v ∷ []) (sym (eqb-true c 34 q))) k
escape_of false true y z c bytes q s n t h k = one_more 92 (92 ∷ c ∷ []) bytes (ap (λ v. 92 ∷ v ∷ []) (sym (eqb-true c 92 s))) k
escape_of false false true z c bytes q s n t h k = one_more 10 (92 ∷ c ∷ []) bytes (ap (λ v. 92 ∷ v ∷ []) (sym (eqb-true c 110 n))) k
escape_of false false false true c bytes q s n t h k = one_more 9 (92 ∷ c ∷ []) bytes (ap (λ v. 92 ∷ v ∷ []) (sym (eqb-true c 116 t))) k
escape_of false false false false c bytes q s n t h k = absurd cc

plain_of : (w y z : Bool) (b : ℕ) (bytes : List ℕ) → b == 34 ≡ w → b == 92 ≡ false → b == 10 ≡ y → b == 9 ≡ z → not (w || (y || z)) ≡ true → Spelled bytes → Spelled (b ∷ bytes)
plain_of true y z b bytes q s n t h k = absurd cc
plain_of false true z b bytes q s n t h k = absurd cc
plain_of false false true b bytes q s n t h k = absurd cc
plain_of false false false b bytes q s n t h k = one_more b (b ∷ []) bytes (simp (q, s, n, t)) k

body_at : (x : Bool) (b c : ℕ) (bs : List ℕ) → b == 92 ≡ x → cond x (makes_escape c && ends_quoted bs) (not ((b == 34) || ((b == 10) || (b == 9))) && ends_quoted (c ∷ bs)) ≡ true
    → (ends_quoted bs ≡ true → Spelled bs) → (ends_quoted (c ∷ bs) ≡ true → Spelled (c ∷ bs)) → Spelled (b ∷ c ∷ bs)
body_at true b c bs s e shorter other =
    let h = both (makes_escape c) (ends_quoted bs) e in
    subst (λ (v : ℕ). Spelled (v ∷ c ∷ bs)) (sym (eqb-true b 92 s)) (escape_of (c == 34) (c == 92) (c == 110) (c == 116) c bs refl refl refl refl h.0 (shorter h.1))
body_at false b c bs s e shorter other =
    let h = both (not ((b == 34) || ((b == 10) || (b == 9)))) (ends_quoted (c ∷ bs)) e in
    plain_of (b == 34) (b == 10) (b == 9) b (c ∷ bs) refl s refl refl h.0 (other h.1)

body : (bytes : List ℕ) → ends_quoted bytes ≡ true → Spelled bytes
body [] e = absurd cc
body (b ∷ []) e = record { text = []; is = ap (λ v. v ∷ []) (eqb-true b 34 e) }
body (b ∷ c ∷ bs) e = body_at (b == 92) b c bs refl e (λ h. body bs h) (λ h. body (c ∷ bs) h)

-- what is told to be such a spelling, is one
pub quoted_of : (bytes : List ℕ) → is_quoted bytes ≡ true → (text : List ℕ) × (bytes ≡ quoted text)
quoted_of [] e = absurd cc
quoted_of (b ∷ bs) e =
    let h = both (b == 34) (ends_quoted bs) e in
    let s = body bs h.1 in
    (s.text, (λ i. eqb-true b 34 h.0 i ∷ s.is i))

decide : (x : Bool) (bytes : List ℕ) → is_quoted bytes ≡ x → ((text : List ℕ) → bytes ≡ quoted text → ⊥) → x ≡ false
decide true bytes e none = let q = quoted_of bytes e in absurd (none q.0 q.1)
decide false bytes e none = refl

-- it is no text's spelling
pub no_text : (bytes : List ℕ) → ((text : List ℕ) → quoted text ≡ bytes → ⊥) → is_quoted bytes ≡ false
no_text bytes none = decide (is_quoted bytes) bytes refl (λ text e. none text (sym e))
