-- What a trial that waits has met, and how many equations have ended whose values aren't known.
use Rattle.std.proofs.Common.{◌≡◌, ◌+◌, ◌<◌, ◌≤◌, ℕ, List, [], ◌∷◌, Option, Some, None, inl, inr, refl, sym, ap, ◌∙◌, arith}
use Rattle.std.specs.Prelude.{IsSome}
use Rattle.at_model.specs.Meaning.{Among}
use Rattle.at_model.specs.Rules.{Rules}
use Rattle.at_model.specs.Run.{Value, Instance, Contents, Known, Demands}
use Rattle.at_model.specs.TypedRuns.{ClassAt}
use Rattle.at_model.specs.of_fixpoints.Fixpoints.{HasValue}
use Rattle.at_model.proofs.of_formulas.PlainRules.{plain}
use Rattle.at_body.specs.Forms.{told}
use Rattle.at_body.specs.Rest.{resumed}
use Rattle.at_cache.specs.Kept.{Entries}
use Rattle.at_demand.specs.declared.evaluation.Find.{Find}
use Rattle.at_demand.specs.declared.trying.Trying.{Trying}
use Rattle.at_demand.specs.declared.trying.Trying.TheVariants as trying
use Rattle.at_demand.specs.Attempts.{IsGoing}
use Rattle.at_demand.specs.Covering.{IsTold}
use Rattle.at_demand.specs.Forming.{waits_for}
use Rattle.at_evaluate.specs.Valued.{meaning}
use Rattle.at_demand.specs.Turns.{HasMet, IsMet}
use Rattle.at_evaluate.proofs.Entered.{is_there, not_none, there}
use Rattle.at_demand.proofs.Passing.{past_more}
use Rattle.at_demand.proofs.of_levels.FailedMet.{met_demanded}
use Rattle.at_demand.proofs.of_levels.Plain.{past_formula}

-- it has met all that stands before what it waits for
pub waits_met : (rules : Rules) (at : ClassAt ℕ) (look : Contents ℕ) (entries : Entries) (found : List (Instance ℕ × Find)) (i : Instance ℕ) (t : Trying)
    (j : Instance ℕ) → IsGoing rules at look entries found i (waits_for t j) → HasMet rules look entries found i j
waits_met rules at look entries found i (trying.Value f) j (none, h) =
    let (js, past) = h.passed in (
      js,
      f.value.trial.reads,
      (λ v. plain (resumed rules.classes f.value.trial v)),
      past_more look (IsTold rules look found f.value.demanded) (λ (k : Instance ℕ) (v : Value ℕ). HasValue look (meaning rules) k v × IsMet entries found k)
          (λ k v t. (t.0, met_demanded entries found f.value.demanded h.kept k t.1)) ((meaning rules).formula i)
          (Demands j (λ v. plain (resumed rules.classes f.value.trial v))) js f.value.trial.reads
          (past_formula rules look i none (IsTold rules look found f.value.demanded) (Demands j (resumed rules.classes f.value.trial)) js f.value.trial.reads past),
    )
waits_met rules at look entries found i (trying.Formula b) j (some, h) =
    let (js, past) = h.passed in (
      js,
      b.value.forming.trial.reads,
      told rules b.value.forming,
      past_more look (IsTold rules look found b.value.demanded) (λ (k : Instance ℕ) (v : Value ℕ). HasValue look (meaning rules) k v × IsMet entries found k)
          (λ k v t. (t.0, met_demanded entries found b.value.demanded h.kept k t.1)) ((meaning rules).formula i)
          (Demands j (told rules b.value.forming)) js b.value.forming.trial.reads past,
    )

-- how many of these aren't known
abbrev pub one_unknown : Option (Value ℕ) → ℕ
one_unknown None = 1
one_unknown (Some v) = 0

abbrev pub unknown_of : Known ℕ → List (Instance ℕ) → ℕ
unknown_of known [] = 0
unknown_of known (k ∷ ks) = one_unknown (known k) + unknown_of known ks

module _ (before after : Known ℕ) (still : (i : Instance ℕ) → IsSome (before i) → IsSome (after i)) where
  no_more : (i : Instance ℕ) → one_unknown (after i) ≤ one_unknown (before i)
  no_more i = by (before i) refl (after i) refl
    where
      by : (o : Option (Value ℕ)) → before i ≡ o → (p : Option (Value ℕ)) → after i ≡ p → one_unknown p ≤ one_unknown o
      by None e None f = omega arith
      by None e (Some w) f = omega arith
      by (Some v) e None f = absurd (not_none (after i) (still i (is_there (before i) v e)) f)
      by (Some v) e (Some w) f = omega arith

  all_no_more : (ks : List (Instance ℕ)) → unknown_of after ks ≤ unknown_of before ks
  all_no_more [] = omega arith
  all_no_more (k ∷ ks) = let one = no_more k in let more = all_no_more ks in omega (arith, one, more)

  pub fewer_unknown : (i : Instance ℕ) → before i ≡ None → IsSome (after i) → (ks : List (Instance ℕ)) → Among i ks →
      unknown_of after ks < unknown_of before ks
  fewer_unknown i none some [] h = absurd h
  fewer_unknown i none some (k ∷ ks) (inl e) = by (there (after i) some)
    where
      by : ((v : Value ℕ) × (after i ≡ Some v)) → unknown_of after (k ∷ ks) < unknown_of before (k ∷ ks)
      by (v, g) =
          let more = all_no_more ks in
          let now : one_unknown (after k) ≡ 0 = ap (λ z. one_unknown (after z)) (sym e) ∙ ap (λ o. one_unknown o) g in
          let was : one_unknown (before k) ≡ 1 = ap (λ z. one_unknown (before z)) (sym e) ∙ ap (λ o. one_unknown o) none in
          omega (arith, more, now, was)
  fewer_unknown i none some (k ∷ ks) (inr h) = let one = no_more k in let more = fewer_unknown i none some ks h in omega (arith, one, more)
