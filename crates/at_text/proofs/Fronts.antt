-- Characters at the front of a text.
use Rattle.std.proofs.Common.{◌≡◌, ℕ, ◌+◌, ◌<◌, List, [], ◌∷◌, ◌++◌, length, Bool, true, false, ◌||◌, not, true≢false, refl, sym, ap, subst, ◌∙◌, append_assoc, append-nil, drop, get_or, ◌==◌, eqb-true, Option, Some, None, MatchOption, ◌≢◌, length-append, arith, IsUtf8, IsCharBoundary}
use Rattle.std.specs.Str.{encode_utf8_all}
use Rattle.std.specs.Char.{encode_utf8}
use Rattle.std.specs.List.{AllByRecursion}
use Rattle.std.proofs.lemmas.Str.{encodes-append, encode_same, length-encode, len_utf8_bounds, IsUtf8-drop}
use Rattle.std.proofs.lemmas.List.{take-append-drop}
use Rattle.std.proofs.Math.Seq.{drop-append_seam}
use Rattle.std.specs.Str.Pattern.{FindsText, SplitsAroundMatch, FindsTextPrefix, StripsPrefix}
use denote.Ref.{Bor}
use Rattle.std.proofs.lemmas.Bool.Decides.{nat_tests}
use Rattle.at_text.specs.Front.{FitsNone}
use Rattle.at_text.specs.Pieces.{NotBefore, IsLongestRun, HasNoEnd}

-- a test doesn't answer twice
pub clash : (b : Bool) → b ≡ true → b ≡ false → ⊥
clash b t f = true≢false (sym t ∙ f)

pub not_false : (b : Bool) → not b ≡ true → b ≡ false
not_false true e = absurd (clash false e refl)
not_false false e = refl

pub neither : (a b : Bool) → (a || b) ≡ false → (a ≡ false) × (b ≡ false)
neither true b e = absurd (clash true refl e)
neither false b e = (refl, e)

pub head_same : (b c : ℕ) (bs cs : List ℕ) → b ∷ bs ≡ c ∷ cs → b ≡ c
head_same b c bs cs e = cc

pub tail_same : (b c : ℕ) (bs cs : List ℕ) → b ∷ bs ≡ c ∷ cs → bs ≡ cs
tail_same b c bs cs e = cc

-- the longest run is one
pub same_run : (p : ℕ → Bool) (cs ds x y : List ℕ) → IsLongestRun p cs x → IsLongestRun p ds y → encode_utf8_all cs ++ x ≡ encode_utf8_all ds ++ y → (cs ≡ ds) × (x ≡ y)
same_run p [] [] x y g h e = (refl, e)
same_run p [] (d ∷ ds) x y g h e = absurd (clash (p d) h.0.0 (g.1 d (encode_utf8_all ds ++ y) (e ∙ append_assoc (encode_utf8 d) (encode_utf8_all ds) y)))
same_run p (c ∷ cs) [] x y g h e = absurd (clash (p c) g.0.0 (h.1 c (encode_utf8_all cs ++ x) (sym e ∙ append_assoc (encode_utf8 c) (encode_utf8_all cs) x)))
same_run p (c ∷ cs) (d ∷ ds) x y g h e =
    let s = encode_same c d (encode_utf8_all cs ++ x) (encode_utf8_all ds ++ y) (sym (append_assoc (encode_utf8 c) (encode_utf8_all cs) x) ∙ e ∙ append_assoc (encode_utf8 d) (encode_utf8_all ds) y) in
    let r = same_run p cs ds x y (g.0.1, g.1) (h.0.1, h.1) s.1 in
    ((λ i. s.0 i ∷ r.0 i), r.1)

-- what a loop over characters has passed: each passes the test
pub record Passed (p : ℕ → Bool) (text rest : List ℕ) : Type 0 where
  pub front : List ℕ
  pub split : text ≡ encode_utf8_all front ++ rest
  pub each : AllByRecursion (λ c. p c ≡ true) front

all_push : (P : ℕ → Type 0) (cs : List ℕ) (c : ℕ) → AllByRecursion P cs → P c → AllByRecursion P (cs ++ c ∷ [])
all_push P [] c h q = (q, tt)
all_push P (x ∷ xs) c h q = (h.0, all_push P xs c h.1 q)

pub one_passed : (p : ℕ → Bool) (c : ℕ) (text rest after : List ℕ) → rest ≡ encode_utf8 c ++ after → p c ≡ true → Passed p text rest → Passed p text after
one_passed p c text rest after e t h = record {
  front = h.front ++ c ∷ [];
  split = h.split ∙ ap (λ l. encode_utf8_all h.front ++ l) e
      ∙ sym (append_assoc (encode_utf8_all h.front) (encode_utf8 c) after) ∙ ap (λ l. l ++ after)
      (sym (encodes-append h.front (c ∷ []) ∙ ap (λ l. encode_utf8_all h.front ++ l) (append-nil (encode_utf8 c))));
  each = all_push (λ d. p d ≡ true) h.front c h.each t;
}

pub stops_at : (p : ℕ → Bool) (c : ℕ) (rest after : List ℕ) → rest ≡ encode_utf8 c ++ after → p c ≡ false → NotBefore p rest
stops_at p c rest after e t d other f = ap p (sym (encode_same c d after other (sym e ∙ f)).0) ∙ t

pub stops_at_end : (p : ℕ → Bool) (rest : List ℕ) → length rest ≡ 0 → NotBefore p rest
stops_at_end p rest e d other f = absurd (omega (arith, ap length f, length-append (encode_utf8 d) other, length-encode d, len_utf8_bounds d))

-- the search for the end of a comment finds none
pub no_end : (text : List ℕ) → FindsText (42 ∷ 47 ∷ []) text None → HasNoEnd text
no_end text h before after e = h (length before) (omega (arith, ap length e, length-append before (42 ∷ 47 ∷ after))) after (ap (drop (length before)) e ∙ drop-append_seam before (42 ∷ 47 ∷ after))

-- it finds the first
pub comment_ended : (text front back : List ℕ) → SplitsAroundMatch (FindsText (42 ∷ 47 ∷ [])) text front back
    → IsUtf8 text → (body : List ℕ) × (text ≡ body ++ 42 ∷ 47 ∷ back) × HasNoEnd (body ++ 42 ∷ []) × IsUtf8 back
comment_ended text front back h u =
    let i = h.0 in
    let lacks = h.2.0 in
    let at = h.2.1 in
    let whole : text ≡ front ++ 42 ∷ 47 ∷ back = sym (take-append-drop i text) ∙ (λ j. sym h.3 j ++ (at.split ∙ ap (λ l. 42 ∷ 47 ∷ l) (sym h.4)) j) in
    let first : HasNoEnd (front ++ 42 ∷ []) = λ before after e.
    let far : text ≡ before ++ (42 ∷ 47 ∷ (after ++ 47 ∷ back)) =
    whole ∙ sym (append_assoc front (42 ∷ []) (47 ∷ back)) ∙ ap (λ l. l ++ 47 ∷ back) e ∙ append_assoc before (42 ∷ 47 ∷ after) (47 ∷ back) in
    let less : length before < i = omega (arith, ap length e, length-append front (42 ∷ []), length-append before (42 ∷ 47 ∷ after), h.6) in
    lacks (length before) less (after ++ 47 ∷ back) (ap (drop (length before)) far ∙ drop-append_seam before (42 ∷ 47 ∷ (after ++ 47 ∷ back))) in
    (front, whole, first, subst IsUtf8 (sym h.4) (IsUtf8-drop text h.1 u (subst (λ n. IsCharBoundary text n) (sym at.ends) at.after)))

-- what follows a front that the text begins with
pub front_stripped : (text front : List ℕ) (result : Option (Bor (List ℕ))) → MatchOption result (FindsTextPrefix front text None) (λ x. StripsPrefix (FindsTextPrefix front) text x.now) → IsUtf8 text
    → MatchOption result ((rest : List ℕ) → text ≢ front ++ rest) (λ after. (text ≡ front ++ after.now) × IsUtf8 after.now)
front_stripped text front None h u = h
front_stripped text front (Some after) h u =
    let m = h.1 in
    (m.1 ∙ ap (λ l. front ++ l) (sym h.2), subst IsUtf8 (sym h.2) (IsUtf8-drop text h.0 u (subst (λ n. IsCharBoundary text n) (sym m.0) m.2)))

pub fits_one_less : (fronts : List (List ℕ)) (n : ℕ) (text : List ℕ) → FitsNone fronts n text → ((rest : List ℕ) → text ≢ get_or fronts n [] ++ rest) → FitsNone fronts (n + 1) text
fits_one_less fronts n text old here k rest h e = decide (k == n) refl
  where
    decide : (b : Bool) → (k == n) ≡ b → ⊥
    decide true t = here rest (e ∙ ap (λ i. get_or fronts i [] ++ rest) (eqb-true k n t))
    decide false t = old k rest (let d : k ≡ n → ⊥ = grind (arith, nat_tests) in omega (arith, h, d)) e
