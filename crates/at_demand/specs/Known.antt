-- What is known of values while a question is answered: what is kept, and what was found.
use Rattle.std.specs.Prelude.{◌≡◌, ◌⊎◌, ℕ, List, slice_get, Some, None}
use Rattle.std.specs.Option.{option_map}
use Rattle.std.specs.Map.{lookup}
use Rattle.at_model.specs.Run.{Value, Instance, Known}
use Rattle.at_model.specs.Rules.{Rules}
use Rattle.at_model.specs.Meaning.{Answer, Outcomes, Circle, Finds, Faults}
use Rattle.at_body.specs.Same.{same_instance}
use Rattle.at_body.specs.Values.{value_view, fault_view}
use Rattle.at_cache.specs.Kept.{Entries}
use Rattle.at_demand.specs.declared.evaluation.Find.{Find}
use Rattle.at_demand.specs.declared.evaluation.Recalled.{Recalled}
use Rattle.at_demand.specs.declared.evaluation.Recalled.TheVariants as recalled
use Rattle.at_demand.specs.declared.answer.Answer.{Answer as AnswerCode}
use Rattle.at_demand.specs.declared.answer.Answer.TheVariants as code
use Rattle.at_evaluate.specs.Valued.{kept_values, AreValued, KeepsEntries}
use Rattle.at_store.specs.Shown.{Shown}
use Rattle.at_evaluate.specs.Right.{IsThere, IsValued}

-- the values that were found
abbrev pub found_values : List (Instance ℕ × Find) → Known ℕ
found_values found i = option_map (λ f. value_view f.value) (lookup (same_instance i) found)

-- the value that is kept, or else the one that was found
abbrev pub known_in : Entries → List (Instance ℕ × Find) → Known ℕ
known_in entries found i = elim (kept_values entries i) [ Some v ↦ Some v | None ↦ found_values found i ]

-- the value that is known, or the instance, where none is
abbrev pub IsRecalled : Known ℕ → Instance ℕ → Recalled → Type 0
IsRecalled known i (recalled.Value v) = known i ≡ Some (value_view v)
IsRecalled known i (recalled.Unknown j) = (j ≡ i) × (known i ≡ None)

-- `new` has what `old` has, and may have the value of i beside it
pub record MayAdd (old new : Entries) (i : Instance ℕ) (v : Value ℕ) : Type 0 where
  pub stays : KeepsEntries old new
  pub values : (j : Instance ℕ) → (kept_values new j ≡ kept_values old j) ⊎ ((i ≡ j) × (kept_values new j ≡ Some v))

-- the instance was found so
abbrev pub FoundAs : List (Instance ℕ × Find) → Instance ℕ → Find → Type 0
FoundAs found i f = (p : ℕ) × (slice_get found p ≡ Some (i, f))

-- the instance was found
abbrev pub IsFound : List (Instance ℕ × Find) → Instance ℕ → Type 0
IsFound found i = (p : ℕ) × (f : Find) × (slice_get found p ≡ Some (i, f))

-- what those that found a value took of what is kept is kept
abbrev pub FoundKept : Entries → List (Instance ℕ × Find) → Type 0
FoundKept entries found = (i : Instance ℕ) (f : Find) → lookup (same_instance i) found ≡ Some f → AreValued entries f.demanded.kept.items

-- an answer stands for one of the model
abbrev pub answer_view : AnswerCode → Answer ℕ
answer_view (code.Value v) = Outcomes (Finds (value_view v))
answer_view (code.Fault kind at) = Outcomes (Faults (fault_view kind) at)
answer_view (code.Circular at) = Circle at

-- what was found is of the tree, and has a value
abbrev pub AreThere : Rules → Shown → List (Instance ℕ × Find) → Type 0
AreThere rules s found = (i : Instance ℕ) → IsFound found i → IsThere s i × IsValued rules s i
