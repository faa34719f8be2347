-- The session that can be read from the bytes of a line.
use Rattle.std.proofs.Common.{◌≡◌, ◌≢◌, ℕ, suc, ◌+◌, ◌<◌, Bool, true, false, ◌==◌, List, [], ◌∷◌, ◌++◌, take, Option, Some, None, MatchOption, refl, ap, sym, ◌∙◌, subst, arith}
use Rattle.std.specs.Prelude.{IsUtf8}
use Rattle.std.specs.List.{before_first}
use Rattle.std.specs.Fmt.{decimal}
use Rattle.std.proofs.lemmas.Bool.Decides.{nat_tests}
use Rattle.std.proofs.lemmas.Fmt.{IsAscii-decimal}
use Rattle.std.proofs.lemmas.Str.{IsUtf8-from_ascii}
use Rattle.at_model.specs.Lines.{max_sessions, BeginsWith, IsSessionOf, IsSpaceOrEnd}
use Rattle.at_protocol.specs.Words.{HasNoSpace}
use Rattle.at_protocol.proofs.Spaces.{one_front, has_no_nil, has_no_cons, no_space_decimal}

abbrev front : List ℕ → List ℕ
front bytes = before_first (λ b. b == 32) bytes

-- the word stands at the front, and a space or the end behind it
pub record IsFirstWord (bytes word : List ℕ) : Type 0 where
  pub rest : List ℕ
  pub split : bytes ≡ word ++ rest
  pub behind : IsSpaceOrEnd rest
  pub one : HasNoSpace word

take_more : (k b : ℕ) (bs : List ℕ) → take (1 + k) (b ∷ bs) ≡ b ∷ take k bs
take_more k b bs = let e : 1 + k ≡ suc k = omega arith in rw e refl

first_word : (bytes : List ℕ) → IsFirstWord bytes (front bytes)
first_word [] = record { rest = []; split = refl; behind = tt; one = has_no_nil 32 }
first_word (b ∷ bs) = decide (b == 32) refl (first_word bs)
  where
    decide : (r : Bool) → (b == 32) ≡ r → IsFirstWord bs (front bs) → IsFirstWord (b ∷ bs) (front (b ∷ bs))
    decide true e more = let is : b ≡ 32 = grind (arith, nat_tests) in rw e (record { rest = b ∷ bs; split = refl; behind = is; one = has_no_nil 32 })
    decide false e more = rw (e, take_more) (record { rest = more.rest; split = ap (λ y. b ∷ y) more.split; behind = more.behind; one = has_no_cons 32 b (front bs) (grind (arith, nat_tests)) more.one })

the_word : (bytes word : List ℕ) (session : ℕ) → word ≡ front bytes → BeginsWith bytes session → word ≡ decimal session
the_word bytes word session is b =
    let w = first_word bytes in
    is ∙ (one_front (front bytes) (decimal session) w.rest b.rest (sym w.split ∙ b.front) w.one (no_space_decimal session (omega (arith, b.exists))) w.behind b.behind).0

pub session_read : (bytes word : List ℕ) (r : Option ℕ) → word ≡ front bytes → MatchOption r ((session : ℕ) → session < max_sessions → word ≢ decimal session) (λ session. (session < max_sessions) × (word ≡ decimal session)) → IsSessionOf bytes r
session_read bytes word None is none = λ session b. none session b.exists (the_word bytes word session is b)
session_read bytes word (Some session) is h =
    let w = first_word bytes in
    record { exists = h.0; rest = w.rest; front = w.split ∙ ap (λ y. y ++ w.rest) (sym is ∙ h.1); behind = w.behind }

pub no_session : (bytes word : List ℕ) → word ≡ front bytes → (IsUtf8 word → ⊥) → IsSessionOf bytes None
no_session bytes word is no_text = λ session b. no_text (subst IsUtf8 (sym (the_word bytes word session is b)) (IsUtf8-from_ascii _ (IsAscii-decimal session (omega (arith, b.exists)))))

-- the text before the first space is the first word
pub word_first : (bytes text word rest : List ℕ) → text ≡ bytes → text ≡ word ++ 32 ∷ rest → HasNoSpace word → word ≡ front bytes
word_first bytes text word rest same split one =
    let w = first_word bytes in
    sym (one_front (front bytes) word w.rest (32 ∷ rest) (sym w.split ∙ sym same ∙ split) w.one one w.behind refl).0
