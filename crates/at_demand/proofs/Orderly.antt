-- A question stays orderly while it goes on.
use Rattle.std.proofs.Common.{◌≡◌, ℕ, Bool, true, ◌<◌, OnOk, Ok, Err, List, [], ◌∷◌, ◌++◌, length, Option, Some, None, inl, inr, refl, sym, ◌∙◌, subst, arith}
use Rattle.std.specs.Prelude.{IsSome, Result, is_some}
use Rattle.std.proofs.lemmas.List.Elements.{Contains-append_cases, Contains-push_cases}
use Rattle.std.specs.Option.{option_map}
use Rattle.std.specs.Map.{lookup}
use Rattle.at_model.specs.Run.{Value, Instance}
use Rattle.at_body.specs.Same.{same_instance}
use Rattle.at_body.specs.Values.{value_view}
use Rattle.at_cache.specs.Kept.{Entries, AreKept}
use Rattle.at_demand.specs.declared.evaluation.Find.{Find}
use Rattle.at_evaluate.specs.Valued.{kept_values, AreValued, IsKept}
use Rattle.at_demand.specs.Known.{found_values, known_in}

kept_more : (entries : Entries) (ks : List (Instance ℕ)) (i : Instance ℕ) → AreValued entries ks → IsKept entries i → AreValued entries (ks ++ i ∷ [])
kept_more entries ks i all some u h = elim (Contains-push_cases ks i u h) [ inl before ↦ all u before | inr same ↦ subst (IsKept entries) same some ]

-- what is kept of one list and of another is kept of both
pub kept_append : (entries : Entries) (ks ls : List (Instance ℕ)) → AreKept entries ks → AreKept entries ls → AreKept entries (ks ++ ls)
kept_append entries ks ls all more u h = elim (Contains-append_cases ks ls u h) [ inl a ↦ all u a | inr b ↦ more u b ]

pub added_kept : {E : Type 0} (entries : Entries) (r : Result (Unit {0}) E) (ks ls new : List (Instance ℕ)) → OnOk r (new ≡ ks ++ ls) → AreKept entries ks → AreKept entries ls → OnOk r (AreKept entries new)
added_kept entries (Ok u) ks ls new e all more = subst (AreKept entries) (sym e) (kept_append entries ks ls all more)
added_kept entries (Err x) ks ls new e all more = tt

-- an instance with an entry is used
pub used_kept : {E : Type 0} (entries : Entries) (r : Result (Unit {0}) E) (said : Bool) (ks new : List (Instance ℕ)) (i : Instance ℕ) → said ≡ is_some (entries i) → said ≡ true → OnOk r (new ≡ ks ++ i ∷ []) → AreKept entries ks → OnOk r (AreKept entries new)
used_kept entries (Ok v) said ks new i is on e all = subst (AreKept entries) (sym e) (λ u h. elim (Contains-push_cases ks i u h) [ inl before ↦ all u before | inr same ↦ subst (λ x. IsSome (entries x)) same (sym is ∙ on) ])
used_kept entries (Err x) said ks new i is on e all = tt

pub none_there : {X : Type 0} (es : List X) → (0 < length es → ⊥) → es ≡ []
none_there [] h = refl
none_there (e ∷ es) h = absurd (h (omega arith))

-- what isn't known is neither kept nor found
pub neither : (entries : Entries) (found : List (Instance ℕ × Find)) (j : Instance ℕ) → known_in entries found j ≡ None → (kept_values entries j ≡ None) × (lookup (same_instance j) found ≡ None)
neither entries found j e = by (kept_values entries j) refl e
  where
    no_find : (o : Option Find) → ◌≡◌ {A = Option (Value ℕ)} (option_map (λ (f : Find). value_view f.value) o) None → o ≡ None
    no_find None e = refl
    no_find (Some f) e = absurd cc

    by : (o : Option (Value ℕ)) → kept_values entries j ≡ o → ◌≡◌ {A = Option (Value ℕ)} (elim o [ Some v ↦ Some v | None ↦ found_values found j ]) None → (kept_values entries j ≡ None) × (lookup (same_instance j) found ≡ None)
    by None is e = (is, no_find (lookup (same_instance j) found) e)
    by (Some v) is e = absurd cc
