-- A fault's place is an instance that the question leads to, and the fault is that of its own evaluation.
use Rattle.std.proofs.Common.{◌≡◌, ℕ, Option, Some, None, ap}
use Rattle.at_model.specs.Run.{Value, FaultKind, Instance, Contents, Run, Gives, Fails, Looks, Demands, Known, Faulted, tried, ◌>>=◌}
use Rattle.at_model.specs.Meaning.{Outcome, Finds, Faults, value_in, Equations, outcome_at, Holds, Leads, Right}
use Rattle.at_model.specs.of_fixpoints.Formulas as formula
use Rattle.at_model.specs.of_fixpoints.Failing.{FailsItself}
use Rattle.at_model.specs.of_fixpoints.Sets.{plain_forms}
use Rattle.at_model.proofs.of_formulas.PlainForms.{holds_back, holds_on_all}
use Rattle.at_model.proofs.of_formulas.PlainAnswers.{leads_off}
use Rattle.at_model.proofs.of_formulas.FaultsPlaced.{ValueAt, placed}

found : {N : Type 0} (p : Option (Outcome N)) (v : Value N) → value_in p ≡ Some v → p ≡ Some (Finds v)
found None v e = absurd cc
found (Some (Finds w)) v e = let same : w ≡ v = cc in ap (λ x. Some (Finds x)) same
found (Some (Faults f i)) v e = absurd cc

-- the values by demands that are nested less deep hold
pub below_right : {N : Type 0} (look : Contents N) (equation : Equations N) (n : ℕ) →
    Right look equation (λ j. value_in (outcome_at look equation n j))
below_right look equation n j v e = (n, found (outcome_at look equation n j) v e)

-- the evaluation of the instance fails by itself, over values that hold
abbrev pub FailsOverValues : {N : Type 0} → Contents N → Equations N → Instance N → FaultKind → Type 0
FailsOverValues {N} look equation i f =
    (known : Known N) × Right look equation known × (tried look known (equation i) ≡ Faulted f)

module _ {N : Type 0} (look : Contents N) (equation : Equations N) (i : Instance N) (f : FaultKind) where
  -- a try over the values of that depth fails where the evaluation does
  tried_at : (n : ℕ) (r : Run N (Value N)) →
      FailsItself look (ValueAt look (plain_forms equation) n) (r >>= λ v. Gives (formula.Known v)) f →
      tried look (λ j. value_in (outcome_at look equation n j)) r ≡ Faulted f
  tried_at n (Gives a) x = absurd x
  tried_at n (Fails g) x = ap Faulted x
  tried_at n (Looks l k) x = tried_at n (k (look l)) x
  tried_at n (Demands j k) (v, h, x) = rw (holds_back look equation n j (Finds v) h, tried) (tried_at n (k v) x)

  pub fault_place : (q : Instance N) → Holds look equation q (Faults f i) →
      Leads look equation q i × FailsOverValues look equation i f
  fault_place q h =
      let place = placed look (plain_forms equation) i f q (holds_on_all look equation q (Faults f i) h) in
      let n = place.1.0 in (
        leads_off look equation q i place.0,
        (
          (λ j. value_in (outcome_at look equation n j)),
          below_right look equation n,
          tried_at n (equation i)
              place.1.1,
        ),
      )
