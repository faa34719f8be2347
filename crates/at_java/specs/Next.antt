-- What is read by the token that is next.
use Rattle.std.specs.Prelude.{ℕ, List, [], ◌∷◌, cond}
use Rattle.at_text.specs.Symbols.{is_word_kind}
use Rattle.at_text.specs.Rows.{Row, is_sign, is_word, next_is}
use Rattle.at_text.specs.declared.place.Place.{Place}
use Rattle.at_java.specs.Read.{Read, Fault, got, fails}
use Rattle.at_java.specs.declared.JavaCode.{JavaCode}
use Rattle.at_java.specs.declared.JavaCode.TheVariants.{Syntax, LeftOut}

-- where the word is next, what is read behind it; else the other
abbrev pub after_word : {A : Type 0} → List ℕ → Row → (Place → Row → Read A) → Read A → Read A
after_word text [] next other = other
after_word text (t ∷ ts) next other = cond (is_word text t) (next t.at ts) other

-- where the sign is next, likewise
abbrev pub after_sign : {A : Type 0} → List ℕ → Row → (Place → Row → Read A) → Read A → Read A
after_sign text [] next other = other
after_sign text (t ∷ ts) next other = cond (is_sign text t) (next t.at ts) other

-- what is left behind the word, if it is next
abbrev pub behind_word : List ℕ → Row → Row
behind_word text [] = []
behind_word text (t ∷ ts) = cond (is_word text t) ts (t ∷ ts)

-- where none of the forms begins that are read: a word begins another one
abbrev pub other_code : Row → JavaCode
other_code row = cond (next_is (λ t. is_word_kind t.kind) row) LeftOut Syntax

-- this fault in place of any other
abbrev pub or_fails : {A : Type 0} → Fault → Read A → Read A
or_fails fault (got a rest) = got a rest
or_fails fault (fails f) = fails fault
