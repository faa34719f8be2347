-- What is known of an instance once it is recalled.
use Rattle.std.proofs.Common.{◌≡◌, ℕ, List, [], ◌∷◌, ◌++◌, Option, Some, None, inl, inr, refl, sym, ap, ◌∙◌, subst, length, arith}
use Rattle.std.specs.Map.{lookup}
use Rattle.std.specs.Option.{option_map}
use Rattle.std.proofs.lemmas.List.Elements.{Contains-push_cases}
use Rattle.at_model.specs.Run.{Value, Instance}
use Rattle.at_body.specs.Same.{same_instance}
use Rattle.at_body.specs.Values.{value_view}
use Rattle.at_cache.specs.Kept.{Entries}
use Rattle.at_demand.specs.declared.evaluation.Find.{Find}
use Rattle.at_evaluate.specs.Valued.{kept_values, AreValued, IsKept}
use Rattle.at_demand.specs.Known.{found_values, known_in}
use Rattle.at_evaluate.proofs.Entered.{is_there}

module _ (entries : Entries) (found : List (Instance ℕ × Find)) (i : Instance ℕ) where
  abbrev or_found : Option (Value ℕ) → Option (Value ℕ)
  or_found o = elim o [ Some v ↦ Some v | None ↦ found_values found i ]

  -- the value that is kept
  pub known_kept : (v w : Value ℕ) → Some w ≡ kept_values entries i → v ≡ w → known_in entries found i ≡ Some v
  known_kept v w kept same = ap or_found (sym kept) ∙ ap Some (sym same)

  -- the value that was found, where none is kept
  pub known_found : (v : Value ℕ) (f : Find) → None ≡ kept_values entries i → Some f ≡ lookup (same_instance i) found → v ≡ value_view f.value → known_in entries found i ≡ Some v
  known_found v f none there same = ap or_found (sym none) ∙ ap (option_map (λ (x : Find). value_view x.value)) (sym there) ∙ ap Some (sym same)

  -- no value, where none is kept and none was found
  pub unknown : None ≡ kept_values entries i → None ≡ lookup (same_instance i) found → known_in entries found i ≡ None
  unknown none gone = ap or_found (sym none) ∙ ap (option_map (λ (x : Find). value_view x.value)) (sym gone)

-- none was found where nothing was
pub none_found : (found : List (Instance ℕ × Find)) (i : Instance ℕ) → length found ≡ 0 → ◌≡◌ {A = Option Find} None (lookup (same_instance i) found)
none_found [] i e = refl
none_found (f ∷ fs) i e = absurd (omega (arith, e))

-- one more instance with a kept value
pub kept_push : (entries : Entries) (old new : List (Instance ℕ)) (i : Instance ℕ) (v : Value ℕ) → AreValued entries old → new ≡ old ++ i ∷ [] → Some v ≡ kept_values entries i → AreValued entries new
kept_push entries old new i v all is kept =
    subst (AreValued entries) (sym is) (λ u h. elim (Contains-push_cases old i u h) [ inl before ↦ all u before | inr same ↦ subst (IsKept entries) same (is_there (kept_values entries i) v (sym kept)) ])
