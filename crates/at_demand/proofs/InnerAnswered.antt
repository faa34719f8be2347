-- What a question is answered where an evaluation in one go came to its value, and where it gave up.
use Rattle.std.proofs.Common.{◌≡◌, ℕ, ◌<◌, ◌^◌, [], Option, None, Some, Ok, Err, refl}
use Rattle.std.specs.Prelude.{IfOk, Result}
use Rattle.std.proofs.lemmas.Result.{IfOk-weaker}
use Rattle.at_model.specs.Run.{Contents, Instance, Value}
use Rattle.at_model.specs.Rules.{Rules}
use Rattle.at_model.specs.of_fixpoints.Circles.{Answers}
use Rattle.at_model.specs.of_fixpoints.Met.{IsMet}
use Rattle.at_evaluate.specs.Meant.{AreCircularWell, AreRightValues}
use Rattle.at_store.specs.Shown.{Shown, contents}
use Rattle.at_cache.specs.Kept.{Entries}
use Rattle.at_demand.specs.declared.answer.Answer.{Answer}
use Rattle.at_body.specs.Values.{value_view}
use Rattle.at_body.specs.declared.value.Value.{Value as ValueCode}
use Rattle.at_demand.specs.declared.answer.Answer.TheVariants as answer
use Rattle.at_evaluate.specs.Valued.{meaning, kept_values, ArePlain}
use Rattle.at_demand.specs.Known.{answer_view}
use Rattle.at_evaluate.specs.Sparing.{AddsWorthy, AreSpare}
use Rattle.at_demand.specs.Answered.{AddsMet, HasAnswered, HasWorthyFor}
use Rattle.at_evaluate.specs.Inner.{Gains}
use Rattle.at_evaluate.proofs.Counting.{counts_more}
use Rattle.at_demand.proofs.Working.{work_is}
use Rattle.at_evaluate.proofs.Entered.{is_there, not_none}
use Rattle.at_demand.proofs.Gaining.{asked_kept}
use Rattle.at_evaluate.proofs.of_nesting.InnerGains.{gains_none, known_none, worthy_then}

-- an answer that is right, for which all that is worthy is kept
abbrev IsKeptFor : Rules → Shown → Instance ℕ → Entries → Answer → Type 0
IsKeptFor rules s i entries a =
    Answers (contents s) (meaning rules) i (answer_view a) × HasWorthyFor rules (contents s) i (answer_view a) entries

-- nothing came
pub met_none : (rules : Rules) (look : Contents ℕ) (i : Instance ℕ) (entries : Entries) → AddsMet rules look i entries entries
met_none rules look i entries c j circle none kept = absurd (not_none (kept_values entries j) kept none)

-- what came was met, and so was what came then
pub met_then : (rules : Rules) (look : Contents ℕ) (i : Instance ℕ) (first next last : Entries) → AddsMet rules look i first next →
    AddsMet rules look i next last → AddsMet rules look i first last
met_then rules look i first next last a b c j circle none kept = by (kept_values next j) refl
  where
    by : (o : Option (Value ℕ)) → kept_values next j ≡ o → IsMet look (meaning rules) i j
    by None is = b c j circle is kept
    by (Some v) is = a c j circle none (is_there (kept_values next j) v is)

module _ {E : Type 0} (rules : Rules) (s : Shown) (i : Instance ℕ) (r : Result Answer E) where
  kept_for : (x : Result Answer E) (entries : Entries) → IfOk x (λ a. Answers (contents s) (meaning rules) i (answer_view a)) →
      IfOk x (λ a. HasWorthyFor rules (contents s) i (answer_view a) entries) → IfOk x (IsKeptFor rules s i entries)
  kept_for (Ok a) entries answers all = (answers, all)
  kept_for (Err e) entries answers all = tt

  -- by what came, where it is right and all that is worthy is kept
  pub answered_by : (old new : Entries) (w x : ℕ) → Gains rules s i old new [] [] w x →
      IfOk r (λ a. Answers (contents s) (meaning rules) i (answer_view a)) →
      (AreSpare rules (contents s) old → IfOk r (λ a. HasWorthyFor rules (contents s) i (answer_view a) new)) →
      (AreSpare rules (contents s) old → AddsMet rules (contents s) i old new) →
      HasAnswered rules s old new w x i r
  answered_by old new w x g answers all met = record {
    answers = answers;
    worthy = g.worthy;
    met = met;
    spare = λ whole. g.spare;
    all = all;
    counts = g.counts;
    work = λ spare. IfOk-weaker r _ _ (λ a h. work_is rules (contents s) i (answer_view a) old new w x g.counts g.worthy (met spare) h.0 h.1)
        (kept_for r new answers (all spare));
    right = g.stays;
    plain = g.known.plain;
  }

  -- behind what came while an evaluation in one go gave up
  pub answered_after : (old mid new : Entries) (w x y : ℕ) → Gains rules s i old mid [] [] w x →
      (AreSpare rules (contents s) old → AddsMet rules (contents s) i old mid) →
      HasAnswered rules s mid new x y i r → HasAnswered rules s old new w y i r
  answered_after old mid new w x y g met h =
      let worthy : AddsWorthy rules (contents s) i old new = worthy_then rules (contents s) i old mid new g.worthy
      h.worthy in
      let counts = counts_more old mid new w x y g.counts h.counts in
      let all_met : AreSpare rules (contents s) old → AddsMet rules (contents s) i old new =
      λ spare. met_then rules (contents s) i old mid new (met spare) (h.met (g.spare spare)) in
      record {
        answers = h.answers;
        worthy = worthy;
        met = all_met;
        spare = λ whole spare. h.spare whole (g.spare spare);
        all = λ spare. h.all (g.spare spare);
        counts = counts;
        work = λ spare. IfOk-weaker r _ _ (λ a h. work_is rules (contents s) i (answer_view a) old new w y counts worthy (all_met spare) h.0 h.1)
            (kept_for r new h.answers (h.all (g.spare spare)));
        right = λ there right. h.right there (g.stays there right);
        plain = h.plain;
      }

-- a kept value is the answer, and nothing comes
pub answered_kept : {E : Type 0} (rules : Rules) (s : Shown) (i : Instance ℕ) (entries : Entries) (w :
    ℕ) (v : ValueCode) → w < 2 ^ 64 → AreCircularWell rules →
    AreRightValues (contents s) (meaning rules) (kept_values entries) →
    ArePlain rules entries →
    kept_values entries i ≡ Some (value_view v) → HasAnswered {E = E} rules s entries entries w w i (Ok
    (answer.Value v))
answered_kept {E} rules s i entries w v few circular right plain is =
    answered_by rules s i (Ok (answer.Value v)) entries entries w w (gains_none rules s i entries [] w few
    (known_none rules (contents s) entries circular right plain)) (right i (value_view v) is)
    (λ spare. asked_kept rules (contents s) i entries (is_there (kept_values entries i) (value_view v) is) spare.deep)
    (λ spare. met_none rules (contents s) i entries)
