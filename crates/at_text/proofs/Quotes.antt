-- Texts between quotes: what is escaped is read back in one way.
use Rattle.std.proofs.Common.{◌≡◌, ℕ, List, [], ◌∷◌, ◌++◌, length, length-append, Bool, true, false, cond, ◌==◌, ◌&&◌, not, Option, Some, None, is_some, true≢false, refl, sym, ap, subst, ◌∙◌, append_assoc, append-nil, eqb-true, get_or, lit<, ◌<◌, ◌≢◌, suc, arith, encode_utf8, IsUtf8}
use Rattle.std.specs.List.{flat_map}
use Rattle.at_model.specs.Texts.{escaped}
use Rattle.at_model.proofs.Options.{both}
use Rattle.std.proofs.lemmas.Bool.Decides.{nat_tests}
use lib.Utf8.{scalar}
use Rattle.std.specs.Char.{IsScalar}
use Rattle.std.specs.Str.{all_scalars}
use Rattle.std.proofs.lemmas.Grind.{flat_map-append}
use Rattle.std.proofs.lemmas.Str.{IsUtf8-nil, IsUtf8-append, encode_ascii, IsUtf8-encode, inside_one, char_from_byte, cons_from_encodes, length-encode, len_utf8_bounds}
use Rattle.at_text.specs.Faults.{makes_escape, leaves_open, is_misplaced}
use Rattle.at_text.specs.Front.{MeansNone, Means, stands_for_itself}
use Rattle.at_text.proofs.Fronts.{clash, neither}

-- the byte that an escape means
abbrev meant : ℕ → List ℕ → Option (ℕ × List ℕ)
meant c bs = cond (c == 34) (Some (34, bs)) (cond (c == 92) (Some (92, bs)) (cond (c == 110) (Some (10, bs)) (cond (c == 116) (Some (9, bs)) None)))

abbrev after_backslash : List ℕ → Option (ℕ × List ℕ)
after_backslash [] = None
after_backslash (c ∷ bs) = meant c bs

-- the first byte that is meant within a text between quotes, and what follows it
abbrev pub unescaped : List ℕ → Option (ℕ × List ℕ)
unescaped [] = None
unescaped (b ∷ bs) = cond (b == 34) None (cond (b == 92) (after_backslash bs) (cond (b == 10) None (cond (b == 9) None (Some (b, bs)))))

-- equal to this number, or not
pub by_cases : (P : ℕ → Type 0) (n b : ℕ) → P n → ((b == n) ≡ false → P b) → P b
by_cases P n b same other = decide (b == n) refl
  where
    decide : (t : Bool) → (b == n) ≡ t → P b
    decide true e = subst P (sym (eqb-true b n e)) same
    decide false e = other e

pub unescaped-escaped : (b : ℕ) (bs : List ℕ) → unescaped (escaped b ++ bs) ≡ Some (b, bs)
unescaped-escaped b bs =
    let P : ℕ → Type 0 = λ d. unescaped (escaped d ++ bs) ≡ Some (d, bs) in
    by_cases P 34 b refl (λ e. by_cases P 92 b refl (λ f. by_cases P 10 b refl (λ g. by_cases P 9 b refl (λ h. rw (e, f, g, h) (rw (e, f, g, h) refl)))))

abbrev meaning : ℕ → List ℕ → Option (ℕ × List ℕ)
meaning b bs = Some (b, bs)

abbrev byte_of : Option (ℕ × List ℕ) → ℕ
byte_of None = 0
byte_of (Some p) = p.0

abbrev rest_of : Option (ℕ × List ℕ) → List ℕ
rest_of None = []
rest_of (Some p) = p.1

some_same : (b c : ℕ) (bs cs : List ℕ) → meaning b bs ≡ meaning c cs → (b ≡ c) × (bs ≡ cs)
some_same b c bs cs e = (ap byte_of e, ap rest_of e)

some_not_none : {A : Type 0} (b : ℕ) (bs : List ℕ) → meaning b bs ≡ None → A
some_not_none b bs e = absurd (true≢false (ap is_some e))

abbrev escapes : List ℕ → List ℕ
escapes body = flat_map escaped body

one_escape : (b : ℕ) (body rest : List ℕ) → unescaped (escapes (b ∷ body) ++ rest) ≡ meaning b (escapes body ++ rest)
one_escape b body rest = ap unescaped (append_assoc (escaped b) (escapes body) rest) ∙ unescaped-escaped b (escapes body ++ rest)

-- what stands before the place where nothing more is meant
pub same_body : (b d x y : List ℕ) → unescaped x ≡ None → unescaped y ≡ None → flat_map escaped b ++ x ≡ flat_map escaped d ++ y → (b ≡ d) × (x ≡ y)
same_body [] [] x y f g e = (refl, e)
same_body [] (c ∷ d) x y f g e = some_not_none c (escapes d ++ y) (sym (one_escape c d y) ∙ ap unescaped (sym e) ∙ f)
same_body (a ∷ b) [] x y f g e = some_not_none a (escapes b ++ x) (sym (one_escape a b x) ∙ ap unescaped e ∙ g)
same_body (a ∷ b) (c ∷ d) x y f g e =
    let s = some_same a c (escapes b ++ x) (escapes d ++ y) (sym (one_escape a b x) ∙ ap unescaped e ∙ one_escape c d y) in
    let r = same_body b d x y f g s.1 in
    ((λ i. s.0 i ∷ r.0 i), r.1)

pub none_meant : (text : List ℕ) → unescaped text ≡ None → MeansNone text
none_meant text e b rest f = some_not_none b rest (sym (unescaped-escaped b rest) ∙ ap unescaped (sym f) ∙ e)

-- a character that makes an escape is ASCII
escape_small : (c : ℕ) → makes_escape c ≡ true → c < 128
escape_small c e = grind (arith, nat_tests)

-- what an escape means
pub record Escape (c : ℕ) : Type 0 where
  pub byte : ℕ
  pub small : byte < 128
  pub is : IsScalar byte
  pub spelled : escaped byte ≡ 92 ∷ c ∷ []

abbrev Escapes : ℕ → Type 0
Escapes d = makes_escape d ≡ true → Escape d

pub escape_of : (c : ℕ) → makes_escape c ≡ true → Escape c
escape_of c e =
    by_cases Escapes 34 c (λ t. record { byte = 34; small = lit< tt; is = refl; spelled = refl })
    (λ f. by_cases Escapes 92 c (λ t. record { byte = 92; small = lit< tt; is = refl; spelled = refl })
    (λ g. by_cases Escapes 110 c (λ t. record { byte = 10; small = lit< tt; is = refl; spelled = refl })
    (λ h. by_cases Escapes 116 c (λ t. record { byte = 9; small = lit< tt; is = refl; spelled = refl })
    (λ k t. absurd (let z : makes_escape c ≡ false = rw (f, g, h, k) refl in clash (makes_escape c) t z))))) e

pub escape_means : (c : ℕ) (text rest : List ℕ) → makes_escape c ≡ true → text ≡ encode_utf8 92
    ++ (encode_utf8 c ++ rest) → IsUtf8 rest → (body : List ℕ) × Means body text rest × (length rest < length text)
escape_means c text rest t e u =
    let x = escape_of c t in
    let spelled : text ≡ 92 ∷ c ∷ rest = e ∙ (λ i. encode_ascii 92 (lit< tt) i ++ (encode_ascii c (escape_small c t) i ++ rest)) in (
      x.byte ∷ [],
      (
        spelled ∙ ap (λ l. l ++ rest) (sym (append-nil (escaped x.byte) ∙ x.spelled)),
        subst IsUtf8 (encode_ascii x.byte x.small) (IsUtf8-encode x.byte x.is),
        u,
      ),
      omega (arith, ap length spelled),
    )

pub no_escape : (c : ℕ) (bs : List ℕ) → makes_escape c ≡ false → unescaped (92 ∷ c ∷ bs) ≡ None
no_escape c bs e = grind (arith, nat_tests)

-- the first byte of a character that makes no escape makes none
pub escape_means_none : (c : ℕ) (text rest : List ℕ) → makes_escape c ≡ false → text ≡ encode_utf8 92 ++ (encode_utf8 c ++ rest) → MeansNone text
escape_means_none c text rest f e = none_meant text (ap unescaped (e ∙ ap (λ l. l ++ (encode_utf8 c ++ rest)) (encode_ascii 92 (lit< tt))) ∙ behind (encode_utf8 c ++ rest) refl)
  where
    behind : (more : List ℕ) → more ≡ encode_utf8 c ++ rest → unescaped (92 ∷ more) ≡ None
    behind [] g = refl
    behind (b ∷ bs) g = no_escape b bs (decide (makes_escape b) refl)
      where
        decide : (t : Bool) → makes_escape b ≡ t → makes_escape b ≡ false
        decide false h = h
        decide true h = absurd (clash (makes_escape b) h (ap makes_escape (sym (char_from_byte (b ∷ bs) rest c g (escape_small b h) (omega arith))) ∙ f))

abbrev Plain : ℕ → Type 0
Plain d = stands_for_itself d ≡ true → escaped d ≡ d ∷ []

-- a byte that stands for itself
pub plain_escape : (b : ℕ) → stands_for_itself b ≡ true → escaped b ≡ b ∷ []
plain_escape b e = by_cases Plain 34 b (λ t. absurd (clash false t refl)) (λ f.
    by_cases Plain 92 b (λ t. absurd (clash false t refl)) (λ g. by_cases Plain 10 b (λ t. absurd (clash false t refl))
    (λ h. by_cases Plain 9 b (λ t. absurd (clash false t refl)) (λ k t. rw (f, g, h, k) refl)))) e

pub plain_bytes : (bs : List ℕ) → ((k : ℕ) → k < length bs → stands_for_itself (get_or bs k 0) ≡ true) → flat_map escaped bs ≡ bs
plain_bytes [] h = refl
plain_bytes (b ∷ bs) h = (λ i. plain_escape b (h 0 (omega arith)) i ++ plain_bytes bs (λ k l. h (suc k) (omega (arith, l))) i)

special_small : (b : ℕ) → stands_for_itself b ≡ false → b < 128
special_small b e = grind (arith, nat_tests)

pub plain_character : (c : ℕ) → stands_for_itself c ≡ true → flat_map escaped (encode_utf8 c) ≡ encode_utf8 c
plain_character c e = plain_bytes (encode_utf8 c) (λ k l. decide k l (stands_for_itself (get_or (encode_utf8 c) k 0)) refl)
  where
    decide : (k : ℕ) → k < length (encode_utf8 c) → (t : Bool) → stands_for_itself (get_or (encode_utf8 c) k 0) ≡ t → stands_for_itself (get_or (encode_utf8 c) k 0) ≡ true
    decide k l true h = h
    decide k l false h = ap stands_for_itself (sym (inside_one c [] (encode_utf8 c) k (sym (append-nil (encode_utf8 c))) l (special_small (get_or (encode_utf8 c) k 0) h))) ∙ e

first_scalar : (c : ℕ) (text rest : List ℕ) → IsUtf8 text → text ≡ encode_utf8 c ++ rest → IsScalar c
first_scalar c text rest u e =
    let p = cons_from_encodes u.0 rest c (u.1.1 ∙ e) in
    (both (scalar c) (all_scalars p.0) (ap all_scalars (sym p.1) ∙ u.1.0)).0

pub plain_means : (c : ℕ) (text rest : List ℕ) → stands_for_itself c ≡ true → IsUtf8 text → text ≡ encode_utf8 c ++ rest
    → IsUtf8 rest → (body : List ℕ) × Means body text rest × (length rest < length text)
plain_means c text rest t u e v = (
  encode_utf8 c,
  (e ∙ ap (λ l. l ++ rest) (sym (plain_character c t)), IsUtf8-encode c (first_scalar c text rest u e), v),
  omega (arith, ap length e, length-append (encode_utf8 c) rest, length-encode c, len_utf8_bounds c),
)

-- what a loop over the characters between quotes has read
pub record Read (text rest : List ℕ) : Type 0 where
  pub body : List ℕ
  pub split : text ≡ flat_map escaped body ++ rest
  pub is : IsUtf8 body

pub read_more : (text rest after more : List ℕ) → Read text rest → Means more rest after → Read text after
read_more text rest after more r m = record {
  body = r.body ++ more;
  split = r.split ∙ ap (λ l. flat_map escaped r.body ++ l) m.0 ∙ sym (append_assoc (flat_map escaped r.body)
      (flat_map escaped more) after) ∙ ap (λ l. l ++ after) (sym (flat_map-append escaped r.body more));
  is = IsUtf8-append r.body more r.is m.1;
}

not_meant : (b : ℕ) (more : List ℕ) → MeansNone (b ∷ more) → stands_for_itself b ≡ false
not_meant b more none = decide (stands_for_itself b) refl
  where
    decide : (t : Bool) → stands_for_itself b ≡ t → stands_for_itself b ≡ false
    decide false h = h
    decide true h = absurd (none b more (ap (λ l. l ++ more) (sym (plain_escape b h))))

no_quote : (b : ℕ) (bs : List ℕ) → ((more : List ℕ) → b ∷ bs ≢ 34 ∷ more) → (b == 34) ≡ false
no_quote b bs none = decide (b == 34) refl
  where
    decide : (t : Bool) → (b == 34) ≡ t → (b == 34) ≡ false
    decide false h = h
    decide true h = absurd (none bs (ap (λ d. d ∷ bs) (eqb-true b 34 h)))

escape_follows : (c : ℕ) (bs : List ℕ) → MeansNone (92 ∷ c ∷ bs) → makes_escape c ≡ false
escape_follows c bs none = decide (makes_escape c) refl
  where
    decide : (t : Bool) → makes_escape c ≡ t → makes_escape c ≡ false
    decide false h = h
    decide true h = let x = escape_of c h in absurd (none x.byte bs (ap (λ l. l ++ bs) (sym x.spelled)))

abbrev IsNewline : ℕ → List ℕ → ℕ → Type 0
IsNewline c bs d = MeansNone (d ∷ c ∷ bs) → ((more : List ℕ) → d ∷ c ∷ bs ≢ 34 ∷ more) → is_misplaced (d ∷ c ∷ bs) ≡ false → (d == 10) ≡ true

-- where nothing is meant, no quote stands and nothing is misplaced, the text stays open
pub stays_open : (rest : List ℕ) → MeansNone rest → ((more : List ℕ) → rest ≢ 34 ∷ more) → is_misplaced rest ≡ false → leaves_open rest ≡ true
stays_open [] none unquoted placed = refl
stays_open (b ∷ []) none unquoted placed =
    let s = not_meant b [] none in
    let q = no_quote b [] unquoted in
    grind (arith, nat_tests)
stays_open (b ∷ c ∷ bs) none unquoted placed =
    by_cases (IsNewline c bs) 92 b
    (λ n u p. absurd (clash (not (makes_escape c)) (ap not (escape_follows c bs n)) p))
    (λ f n u p. let s = not_meant b (c ∷ bs) n in let q = no_quote b (c ∷ bs) u in let t : (b == 9) ≡ false =
    (neither (b == 9) ((b == 92) && not (makes_escape c)) p).0 in grind (arith, nat_tests)) none unquoted placed
