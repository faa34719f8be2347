-- What one reading of words says of another.
use Rattle.std.proofs.Common.{◌≡◌, ℕ, List, ◌∷◌, ◌++◌, Option, Some, None, MatchOption, MatchResult, refl, sym, ◌∙◌, subst}
use Rattle.std.specs.Prelude.{ok_or, ⊤}
use Rattle.at_text.specs.declared.fault.Failure.{Failure}
use Rattle.at_text.specs.declared.fault.Failure.TheVariants.{For, Memory}
use Rattle.at_protocol.specs.declared.line.words.Misfit.{Misfit}
use Rattle.at_protocol.specs.declared.line.words.Misfit.TheVariants.{Form}
use Rattle.at_protocol.specs.Words.{HasNoSpace, FailsOn, IsFirst}
use Rattle.at_protocol.proofs.Spaces.{two_words, space_inside}

-- a whole is not read where a part is not
pub fails_with : {B D : Type 0} (IsRead : B → Type 0) (IsWhole : D → Type 0) (fault : Failure Misfit) → ((d : D) → IsWhole d → (b : B) × IsRead b) → FailsOn IsRead fault → FailsOn IsWhole fault
fails_with IsRead IsWhole (For m) part none = λ d h. let p = part d h in none p.0 p.1
fails_with IsRead IsWhole Memory part none = tt

pub from_option : {A : Type 0} (o : Option A) (P : Type 0) (Q : A → Type 0) → MatchOption o P Q → MatchResult (ok_or o (For Form)) Q (λ fault. (fault ≡ For Form) × P)
from_option None P Q h = (refl, h)
from_option (Some a) P Q h = h

-- the text is that of some value
abbrev pub Is : {B : Type 0} → (List ℕ → B → Type 0) → List ℕ → Type 0
Is {B} IsText text = (b : B) × IsText text b

-- a word, a space, and a rest of this kind
abbrev pub Then : {B : Type 0} → (List ℕ → B → Type 0) → (List ℕ → Type 0) → List ℕ → Type 0
Then {B} IsText IsRest text = (first : B × List ℕ) × IsFirst IsText text first × IsRest first.1

-- there is nothing of this kind, or memory ran out
abbrev pub Fails : Type 0 → Failure Misfit → Type 0
Fails X (For m) = X → ⊥
Fails X Memory = ⊤

pub fails_is : {B : Type 0} (IsText : List ℕ → B → Type 0) (text : List ℕ) (fault : Failure Misfit) → FailsOn (IsText text) fault → Fails (Is IsText text) fault
fails_is IsText text (For m) none = λ h. none h.0 h.1
fails_is IsText text Memory none = tt

pub fails_first : {B : Type 0} (IsText : List ℕ → B → Type 0) (IsRest : List ℕ → Type 0) (text : List ℕ) (fault : Failure Misfit) → FailsOn (IsFirst IsText text) fault → Fails (Then IsText IsRest text) fault
fails_first IsText IsRest text (For m) none = λ h. none h.0 h.1
fails_first IsText IsRest text Memory none = tt

-- what stands behind the first word
pub same_rest : {B C : Type 0} (IsText : List ℕ → B → Type 0) (IsOther : List ℕ → C → Type 0) (text : List ℕ) (a : B × List ℕ) (b : C × List ℕ) → IsFirst IsText text a → IsFirst IsOther text b → a.1 ≡ b.1
same_rest IsText IsOther text a b h k = (two_words h.word k.word a.1 b.1 (sym h.split ∙ k.split) h.one k.one).1

pub fails_rest : {B : Type 0} (IsText : List ℕ → B → Type 0) (IsRest : List ℕ → Type 0) (text : List ℕ) (first : B × List ℕ) (fault : Failure Misfit) → IsFirst IsText text first → Fails (IsRest first.1) fault → Fails (Then IsText IsRest text) fault
fails_rest IsText IsRest text first (For m) h none = λ k. none (subst IsRest (sym (same_rest IsText IsText text first k.0 h k.1)) k.2)
fails_rest IsText IsRest text first Memory h none = tt

pub fails_whole : {D : Type 0} (X : Type 0) (IsWhole : D → Type 0) (fault : Failure Misfit) → ((d : D) → IsWhole d → X) → Fails X fault → FailsOn IsWhole fault
fails_whole X IsWhole (For m) part none = λ d h. none (part d h)
fails_whole X IsWhole Memory part none = tt

-- the first word of a text that was cut
pub no_first : {B : Type 0} (IsText : List ℕ → B → Type 0) (text : List ℕ) (first : B × List ℕ) → HasNoSpace text → IsFirst IsText text first → ⊥
no_first IsText text first none h = space_inside h.word first.1 text (sym h.split) h.one none

pub first_is : {B : Type 0} (IsText : List ℕ → B → Type 0) (text word rest : List ℕ) (b : B) → text ≡ word ++ 32 ∷ rest → HasNoSpace word → IsText word b → IsFirst IsText text (b, rest)
first_is IsText text word rest b split one h = record { word = word; is_text = h; one = one; split = split }

pub first_fails : {B : Type 0} (IsText : List ℕ → B → Type 0) (text word rest : List ℕ) (fault : Failure Misfit) → text ≡ word ++ 32 ∷ rest → HasNoSpace word → FailsOn (IsText word) fault → FailsOn (IsFirst IsText text) fault
first_fails {B} IsText text word rest fault split one none = fails_with (IsText word) (IsFirst IsText text) fault part none
  where
    part : (first : B × List ℕ) → IsFirst IsText text first → (b : B) × IsText word b
    part first h = let words = two_words h.word word first.1 rest (sym h.split ∙ split) h.one one in (first.0, subst (λ w. IsText w first.0) words.0 h.is_text)
