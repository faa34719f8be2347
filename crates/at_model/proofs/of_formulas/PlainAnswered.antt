-- Rules without circular attributes, as a test; and their answers, which are those of their equations.
use Rattle.std.proofs.Common.{◌≡◌, ℕ, zero, suc, Bool, true, false, List, [], ◌∷◌, map, Option, Some, None, refl, sym, subst}
use Rattle.std.specs.List.{slice_get}
use Rattle.std.specs.Prelude.{◌&&◌}
use Rattle.at_model.specs.Paths.{Node, node_eq}
use Rattle.at_model.specs.Run.{Instance, Contents}
use Rattle.at_model.specs.Rules.{Rules, Attribute, start_of}
use Rattle.at_model.specs.Meaning.{Answer, equations}
use Rattle.at_model.specs.Meaning as meaning
use Rattle.at_model.specs.of_fixpoints.Circles.{Answers}
use Rattle.at_model.specs.of_fixpoints.Evaluations.{forms}
use Rattle.at_model.proofs.Options.{both}
use Rattle.at_model.proofs.of_formulas.PlainRules.{rules_plain}
use Rattle.at_model.proofs.of_formulas.PlainAnswers.{answers_on}

abbrev pub has_none : Option Bool → Bool
has_none None = true
has_none (Some b) = false

-- no attribute of the list starts from a value
abbrev pub all_plain : List Attribute → Bool
all_plain [] = true
all_plain (a ∷ as') = has_none a.start && all_plain as'

none_there : (o : Option Bool) → has_none o ≡ true → o ≡ None
none_there None e = refl
none_there (Some b) e = absurd cc

plain_at : (as' : List Attribute) (n : ℕ) → all_plain as' ≡ true → elim (slice_get as' n) as (λ _. Option Bool) [ None ↦ None | Some a ↦ a.start ] ≡ None
plain_at [] n e = refl
plain_at (a ∷ as') zero e = none_there a.start (both (has_none a.start) (all_plain as') e).0
plain_at (a ∷ as') (suc n) e = plain_at as' n (both (has_none a.start) (all_plain as') e).1

pub plain_starts : (rules : Rules) → all_plain rules.attributes ≡ true → (attribute : ℕ) → start_of rules attribute ≡ None
plain_starts rules e attribute = plain_at rules.attributes attribute e

-- so it is where each attribute comes from something, with no start
pub mapped_plain : {A : Type 0} (f : A → Attribute) → ((a : A) → (f a).start ≡ None) → (as' : List A) (n : ℕ) →
    elim (slice_get (map f as') n) as (λ _. Option Bool) [ None ↦ None | Some a ↦ a.start ] ≡ None
mapped_plain f none [] n = refl
mapped_plain f none (a ∷ as') zero = none a
mapped_plain f none (a ∷ as') (suc n) = mapped_plain f none as' n

-- an answer by the equations is one
pub answered : (rules : Rules) → ((attribute : ℕ) → start_of rules attribute ≡ None) → (look : Contents Node) (q : Instance Node) (a : Answer Node) →
    meaning.Answers look (equations rules) q a → Answers look (forms rules) q a
answered rules none look q a h = subst (λ z. Answers look z q a) (sym (rules_plain rules node_eq none)) (answers_on look (equations rules) q a h)
