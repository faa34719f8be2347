-- Instances that start from a value can be solved; where they start from none, each of them is known, or has a fault.
use Rattle.std.proofs.Common.{◌≡◌, ◌⊎◌, ℕ, Bool, List, Option, Some, None, inl, inr, refl, ap, ◌∙◌}
use Rattle.std.specs.Prelude.{IsSome}
use Rattle.std.specs.Map.{lookup}
use Rattle.at_model.specs.Meaning.{Among}
use Rattle.at_model.specs.Rules.{Rules, start_of}
use Rattle.at_model.specs.Run.{Instance, Value}
use Rattle.at_model.specs.of_fixpoints.Fixpoints.{Made, Spoilt, stays}
use Rattle.at_store.specs.Shown.{Shown}
use Rattle.at_body.specs.Same.{same_instance}
use Rattle.at_body.specs.Values.{fault_view}
use Rattle.at_cache.specs.Kept.{Entries}
use Rattle.at_search.specs.Recorded.{Recorded, end_of}
use Rattle.at_search.specs.Solved.{HasFault, IsStopped}
use Rattle.at_search.specs.declared.ended.Ended.{Ended}
use Rattle.at_search.specs.declared.ended.Ending.{Ending}
use Rattle.at_search.specs.declared.ended.Ending.TheVariants as ending
use Rattle.at_demand.proofs.of_searches.Circling.{one_recorded}
use Rattle.at_demand.specs.declared.question.Question.{Question}
use Rattle.at_demand.specs.Groups.{AreKnownOrStopped, CanBeSolved, CanSolve, IsKnownOrSpoilt, start_in}
use Rattle.at_demand.specs.Levels.{known_to}
use Rattle.at_evaluate.proofs.Entered.{is_there, not_none}
use Rattle.at_demand.proofs.of_levels.Resolving.{key_entry}
use Rattle.at_model.specs.of_fixpoints.Formulas.{Formula}

module _ (rules : Rules) (s : Shown) (entries : Entries) (q : Question) (insts : List (Instance ℕ)) (can : CanBeSolved rules s entries q insts) where
  pub with_start : (b : Bool) → start_in rules insts ≡ Some b → CanSolve rules s entries q insts
  with_start b starts = record {
    answerable = can.answerable;
    facts = can.facts;
    finds = can.finds;
    took = can.took;
    circular = λ i a. is_there (start_of rules i.attribute) b (can.alike i a ∙ starts);
    alike = can.alike;
    recorded = can.recorded;
  }

  faulty : start_in rules insts ≡ None → (i : Instance ℕ) → Among i insts → (x : Ended) → lookup
      (same_instance i) q.ended.entries ≡ Some x →
      (e : Ending) → x.ending ≡ e → HasFault q.ended.entries i
  faulty none i a x at (ending.Formed f) is =
      absurd (not_none (start_of rules i.attribute) (can.facts.circular i f (x, at, is)) (can.alike i a ∙ none))
  faulty none i a x at (ending.Spoilt d) is = (fault_view d.kind, d.at, (x, at, ap end_of is))

  pub all_stopped : start_in rules insts ≡ None → AreKnownOrStopped entries entries q q insts
  all_stopped none i a = by (known_to entries q i) refl
    where
      formless : (f : Formula ℕ) → Recorded q.ended.entries i (Made f) → ⊥
      formless f r =
          let (x, at) = key_entry q.ended.entries i (can.recorded i a) in
          let (k, to, y) = faulty none i a x at x.ending refl in
          let same : Made f ≡ Spoilt k to = one_recorded q.ended.entries i (Made f) (Spoilt k to) r y in absurd cc

      by : (o : Option (Value ℕ)) → known_to entries q i ≡ o → IsSome (known_to entries q i) ⊎ IsStopped
          (known_to entries q) q.ended.entries insts i
      by (Some v) e = inl (is_there (known_to entries q i) v e)
      by None e = inr (record { by = i; among = a; unknown = e; led = stays i; why = inl formless })

  pub all_spoilt : start_in rules insts ≡ None → (i : Instance ℕ) → Among i insts → IsKnownOrSpoilt entries entries q q i
  all_spoilt none i a = by (known_to entries q i) refl
    where
      by : (o : Option (Value ℕ)) → known_to entries q i ≡ o → IsKnownOrSpoilt entries entries q q i
      by (Some v) e = inl (is_there (known_to entries q i) v e)
      by None e =
          let (x, at) = key_entry q.ended.entries i (can.recorded i a) in
          inr (record { to = i; led = stays i; unknown = e; why = inl (faulty none i a x at x.ending refl) })
