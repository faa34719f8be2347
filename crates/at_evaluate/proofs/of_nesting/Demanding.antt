-- Along demands alone.
use Rattle.std.proofs.Common.{◌≡◌, ℕ, Bool, true, false, List, Option, None, Some, inl, refl, ap, ◌∙◌, subst, if◌then◌else◌}
use Rattle.at_model.specs.Run.{Contents, Instance, Known, Location, Value}
use Rattle.at_model.specs.of_fixpoints.Formulas.{Forms}
use Rattle.at_model.specs.of_fixpoints.Resting.{Leads}
use Rattle.at_model.specs.of_fixpoints.Resting as led
use Rattle.at_body.specs.Same.{same_instance}
use Rattle.at_cache.specs.Kept.{Entries, KeepsAll, Puts, value_at}
use Rattle.at_evaluate.specs.Valued.{kept_values}
use Rattle.at_evaluate.specs.Led.{AddsDemanded, DemandsOn, stays, goes}
use Rattle.at_evaluate.proofs.Entered.{is_there, not_none}
use Rattle.at_evaluate.proofs.Sameness.{same_true}

module _ {N : Type 0} (look : Contents N) (forms : Forms N) where
  pub demands_then : (i j k : Instance N) → DemandsOn look forms i j → DemandsOn look forms j k → DemandsOn look forms i k
  demands_then _ j k (stays _) d = d
  demands_then _ j k (goes i m _ r more) d = goes i m k r (demands_then m j k more d)

  -- where demands lead to it, it is led to
  pub demands_lead : (i j : Instance N) → DemandsOn look forms i j → Leads look forms i j
  demands_lead _ j (stays _) = led.stays j
  demands_lead _ j (goes i m _ r more) = led.goes i m j (inl r) (demands_lead m j more)

  -- nothing comes
  pub demanded_none : (i : Instance N) (known : Known N) → AddsDemanded look forms i known known
  demanded_none i known j absent some = absurd (not_none (known j) some absent)

  -- first some come, and then others
  pub demanded_then : (i : Instance N) (old mid new : Known N) → AddsDemanded look forms i old mid →
      AddsDemanded look forms i mid new → AddsDemanded look forms i old new
  demanded_then i old mid new a b j absent some = by (mid j) refl
    where
      by : (o : Option (Value N)) → mid j ≡ o → DemandsOn look forms i j
      by None e = b j e some
      by (Some v) e = a j absent (is_there (mid j) v e)

  -- what comes for one comes for one from which demands lead to it
  pub demanded_up : (i j : Instance N) (old new : Known N) → DemandsOn look forms i j → AddsDemanded look forms j old new →
      AddsDemanded look forms i old new
  demanded_up i j old new d a k absent some = demands_then i j k d (a k absent some)

-- what is put for an instance is demanded by it
module _ (look : Contents ℕ) (forms : Forms ℕ) where
  pub demanded_same : (i : Instance ℕ) (old new : Entries) → KeepsAll old new →
      AddsDemanded look forms i (kept_values old) (kept_values new)
  demanded_same i old new same j absent some = absurd (not_none (kept_values new j) some (ap value_at (same j) ∙ absent))

  pub demanded_put : (old new : Entries) (i : Instance ℕ) (o : Option (Value ℕ)) (ls : List (Location ℕ))
      (us : List (Instance ℕ)) → Puts old i o ls us new →
      AddsDemanded look forms i (kept_values old) (kept_values new)
  demanded_put old new i o ls us h j absent some = by (same_instance i j) refl
    where
      by : (b : Bool) → same_instance i j ≡ b → DemandsOn look forms i j
      by true at = subst (λ (x : Instance ℕ). DemandsOn look forms i x) (same_true i j at) (stays i)
      by false at =
          let there = h.adds j ∙ ap (λ (b : Bool). if b then Some h.entry else old j) at in
          absurd (not_none (kept_values new j) some (ap value_at there ∙ absent))
