-- What came to be kept between two tries was found before, or levels under way had seen it, or its equation had ended.
use Rattle.std.proofs.Common.{◌≡◌, ◌⊎◌, ℕ, zero, suc, Bool, true, false, true≢false, if◌then◌else◌, List, [], ◌∷◌, Some, inl, inr, refl, sym, ap}
use Rattle.std.specs.Prelude.{IsSome}
use Rattle.std.specs.Map.{lookup}
use Rattle.std.specs.Option.{option_map}
use Rattle.at_model.specs.Rules.{Rules}
use Rattle.at_model.specs.Run.{Instance}
use Rattle.at_store.specs.Shown.{Shown}
use Rattle.at_body.specs.Same.{same_instance}
use Rattle.at_body.specs.Values.{value_view}
use Rattle.at_body.proofs.SamenessLemmas.{same_true}
use Rattle.at_cache.specs.Kept.{Entries}
use Rattle.at_cache.specs.Traced.{Memories}
use Rattle.at_demand.specs.declared.evaluation.Find.{Find}
use Rattle.at_demand.specs.declared.question.Question.{Question}
use Rattle.at_demand.specs.Known.{IsFound, found_values}
use Rattle.at_evaluate.specs.Valued.{IsKept, kept_values}
use Rattle.at_demand.specs.Searches.{GainsBetween, WasSeenBy}
use Rattle.at_evaluate.proofs.Entered.{entered}
use Rattle.at_demand.proofs.of_levels.LevelOver.{known_as_found}
use Rattle.at_demand.proofs.of_levels.Resolving.{either_known}

-- where there is a value of it, it was found
pub value_found : (found : List (Instance ℕ × Find)) (i : Instance ℕ) → IsSome (found_values found i) → IsFound found i
value_found [] i some = absurd (true≢false (sym some))
value_found ((j, f) ∷ fs) i some = by (same_instance i j) refl some (value_found fs i)
  where
    by : (b : Bool) → same_instance i j ≡ b → IsSome (option_map (λ (g : Find). value_view g.value) (if b then Some f else lookup (same_instance i) fs)) →
        (IsSome (found_values fs i) → IsFound fs i) → IsFound ((j, f) ∷ fs) i
    by true is s on = (zero, f, ap (λ k. Some (k, f)) (sym (same_true i j is)))
    by false is s on = let (p, g, at) = on s in (suc p, g, at)

module _ {Whole : Type 0} (rules : Rules) (s : Shown) (before after : Entries) (former latter : Memories) (earlier later : ℕ) (old new : Question)
    (g : GainsBetween rules s before after former latter earlier later old new Whole) where
  pub others_before : (i : Instance ℕ) → IsSome (after i) → IsSome (before i) ⊎ (IsKept after i ⊎ (IsFound old.found.entries i ⊎ WasSeenBy old i))
  others_before i some = elim (g.others i some) [
    | inl b ↦ inl b
    | inr d ↦ elim d [
      | inl k ↦ inr (inl k)
      | inr f ↦ elim (g.came i (known_as_found after new.found.entries i f)) [
        | inl k ↦ elim (either_known (kept_values before i) (found_values old.found.entries i) k) [
          | inl a ↦ inl (entered before i a)
          | inr a ↦ inr (inr (inl (value_found old.found.entries i a)))
        ]
        | inr z ↦ inr (inr (inr z))
      ]
    ]
  ]
