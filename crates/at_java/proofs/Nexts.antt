-- What is read by the token that is next.
use Rattle.std.proofs.Common.{◌≡◌, ℕ, List, [], ◌∷◌, Bool, true, false, cond, refl, sym, ap, ◌∙◌}
use Rattle.std.specs.Str.{bytes_eq}
use Rattle.std.proofs.lemmas.Slice.Eq.{bytes_eq-Decides}
use Rattle.at_text.specs.Rows.{Row, sign, word, is_sign, is_word, next_is}
use Rattle.at_text.specs.declared.place.Place.{Place}
use Rattle.at_text.specs.declared.fault.Failure.{Failure}
use Rattle.at_text.specs.declared.fault.Failure.TheVariants.{For}
use Rattle.at_java.specs.declared.reader.Breach.{Breach}
use Rattle.at_java.specs.declared.reader.Breach.TheVariants.{Here, At}
use Rattle.at_java.specs.Read.{Read, Fault, got, fails, then_read, Fails}
use Rattle.at_java.specs.Next.{after_word, after_sign, or_fails}
use Rattle.at_java.proofs.Then.{fails_as}

same_bytes : (text : List ℕ) → bytes_eq text text ≡ true
same_bytes text = (bytes_eq-Decides text text).1 refl

pub cond_true : {A : Type 0} (b : Bool) (x y : A) → b ≡ true → cond b x y ≡ x
cond_true b x y h = ap (λ c. cond c x y) h

pub cond_false : {A : Type 0} (b : Bool) (x y : A) → b ≡ false → cond b x y ≡ y
cond_false b x y h = ap (λ c. cond c x y) h

-- ---- words

pub word_next : {A : Type 0} (text : List ℕ) (row : Row) (at : Place) (rest : Row) (next : Place → Row → Read A) (other : Read A)
    → row ≡ word text at ∷ rest → after_word text row next other ≡ next at rest
word_next text row at rest next other r =
    ap (λ x. after_word text x next other) r ∙ cond_true (bytes_eq text text) (next at rest) other (same_bytes text)

pub word_not : {A : Type 0} (text : List ℕ) (row : Row) (next : Place → Row → Read A) (other : Read A)
    → next_is (is_word text) row ≡ false → after_word text row next other ≡ other
word_not text [] next other h = refl
word_not text (t ∷ ts) next other h = cond_false (is_word text t) (next t.at ts) other h

-- ---- signs

pub sign_next : {A : Type 0} (text : List ℕ) (row : Row) (at : Place) (rest : Row) (next : Place → Row → Read A) (other : Read A)
    → row ≡ sign text at ∷ rest → after_sign text row next other ≡ next at rest
sign_next text row at rest next other r =
    ap (λ x. after_sign text x next other) r ∙ cond_true (bytes_eq text text) (next at rest) other (same_bytes text)

pub sign_not : {A : Type 0} (text : List ℕ) (row : Row) (next : Place → Row → Read A) (other : Read A)
    → next_is (is_sign text) row ≡ false → after_sign text row next other ≡ other
sign_not text [] next other h = refl
sign_not text (t ∷ ts) next other h = cond_false (is_sign text t) (next t.at ts) other h

-- ---- what is read where it isn't next: a part, and what is behind it

pub behind_no_word : {A B : Type 0} (text : List ℕ) (row same : Row) (next : Place → Row → Read B) (first : Row → Read A) (after : A → Row → Read B) (a : A) (mid : Row)
    → next_is (is_word text) row ≡ false → same ≡ row → first same ≡ got a mid → after_word text row next (then_read (first row) after) ≡ after a mid
behind_no_word text row same next first after a mid n s r =
    word_not text row next (then_read (first row) after) n ∙ ap (λ x. then_read (first x) after) (sym s) ∙ ap (λ q. then_read q after) r

pub behind_no_sign : {A B : Type 0} (text : List ℕ) (row same : Row) (next : Place → Row → Read B) (first : Row → Read A) (after : A → Row → Read B) (a : A) (mid : Row)
    → next_is (is_sign text) row ≡ false → same ≡ row → first same ≡ got a mid → after_sign text row next (then_read (first row) after) ≡ after a mid
behind_no_sign text row same next first after a mid n s r =
    sign_not text row next (then_read (first row) after) n ∙ ap (λ x. then_read (first x) after) (sym s) ∙ ap (λ q. then_read q after) r

-- ---- another fault in its place

pub or_got : {A : Type 0} (f : Fault) (read : Read A) (a : A) (rest : Row) → read ≡ got a rest → or_fails f read ≡ got a rest
or_got f read a rest r = ap (or_fails f) r

pub or_failed : {A : Type 0} (f : Fault) (read : Read A) (g : Fault) → read ≡ fails g → or_fails f read ≡ fails f
or_failed f read g r = ap (or_fails f) r

pub or_breached : {A : Type 0} (f : Fault) (read : Read A) (breach : Breach) (rest : Row) → Fails (For breach) rest read → or_fails f read ≡ fails f
or_breached f read (Here code) rest h = ap (or_fails f) h
or_breached f read (At code at) rest h = ap (or_fails f) h

-- what is read behind a part that was read, where that fails
pub then_on : {A B : Type 0} (e : Failure Breach) (end : Row) (read : Read A) (a : A) (rest : Row) (next : A → Row → Read B)
    → read ≡ got a rest → Fails e end (next a rest) → Fails e end (then_read read next)
then_on e end read a rest next r f = fails_as e end (then_read read next) (next a rest) (ap (λ q. then_read q next) r) f
