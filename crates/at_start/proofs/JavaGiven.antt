-- What holds of all that is read.
use Rattle.std.proofs.Common.{◌≡◌, List, [], ◌∷◌, Bool, true, false, Option, None, Some, cond, refl}
use Rattle.std.specs.Prelude.{⊤, ℕ}
use Rattle.at_text.specs.declared.place.Place.{Place}
use Rattle.at_text.specs.Rows.{Row, is_sign, is_word}
use Rattle.at_java.specs.Read.{Read, Fault, got, fails, then_read, map_read}
use Rattle.at_java.specs.Next.{after_word, after_sign, or_fails}
use Rattle.at_java.specs.Operands.{if_next}

-- what was read is such; of a fault nothing is said
abbrev pub Gives : {A : Type 0} → (A → Type 0) → Read A → Type 0
Gives P (got a rest) = P a
Gives P (fails f) = ⊤

-- nothing is said
abbrev pub Any : {A : Type 0} → A → Type 0
Any a = ⊤

pub gives_any : {A : Type 0} (read : Read A) → Gives Any read
gives_any (got a rest) = tt
gives_any (fails f) = tt

pub gives_then : {A B : Type 0} (P : A → Type 0) (Q : B → Type 0) (read : Read A) (next : A → Row → Read B) → Gives P read
    → ((a : A) (rest : Row) → P a → Gives Q (next a rest)) → Gives Q (then_read read next)
gives_then P Q (got a rest) next p each = each a rest p
gives_then P Q (fails f) next p each = tt

-- whatever was read before
pub gives_behind : {A B : Type 0} (Q : B → Type 0) (read : Read A) (next : A → Row → Read B)
    → ((a : A) (rest : Row) → Gives Q (next a rest)) → Gives Q (then_read read next)
gives_behind Q (got a rest) next each = each a rest
gives_behind Q (fails f) next each = tt

pub gives_map : {A B : Type 0} (P : A → Type 0) (Q : B → Type 0) (f : A → B) (read : Read A) → Gives P read → ((a : A) → P a → Q (f a))
    → Gives Q (map_read f read)
gives_map P Q f (got a rest) p each = each a p
gives_map P Q f (fails x) p each = tt

pub gives_either : {A : Type 0} (P : A → Type 0) (b : Bool) (x y : Read A) → (b ≡ true → Gives P x) → Gives P y → Gives P (cond b x y)
gives_either P true x y p q = p refl
gives_either P false x y p q = q

pub gives_word : {A : Type 0} (P : A → Type 0) (text : List ℕ) (row : Row) (next : Place → Row → Read A) (other : Read A)
    → ((at : Place) (rest : Row) → Gives P (next at rest)) → Gives P other → Gives P (after_word text row next other)
gives_word P text [] next other p q = q
gives_word P text (t ∷ ts) next other p q = gives_either P (is_word text t) (next t.at ts) other (λ _. p t.at ts) q

pub gives_sign : {A : Type 0} (P : A → Type 0) (text : List ℕ) (row : Row) (next : Place → Row → Read A) (other : Read A)
    → ((at : Place) (rest : Row) → Gives P (next at rest)) → Gives P other → Gives P (after_sign text row next other)
gives_sign P text [] next other p q = q
gives_sign P text (t ∷ ts) next other p q = gives_either P (is_sign text t) (next t.at ts) other (λ _. p t.at ts) q

pub gives_next : {A B : Type 0} (P : B → Type 0) (o : Option (A × Row)) (found : A → Row → Read B) (other : Read B)
    → ((a : A) (rest : Row) → Gives P (found a rest)) → Gives P other → Gives P (if_next o found other)
gives_next P None found other p q = q
gives_next P (Some x) found other p q = p x.0 x.1

pub gives_or : {A : Type 0} (P : A → Type 0) (fault : Fault) (read : Read A) → Gives P read → Gives P (or_fails fault read)
gives_or P fault (got a rest) p = p
gives_or P fault (fails f) p = tt
