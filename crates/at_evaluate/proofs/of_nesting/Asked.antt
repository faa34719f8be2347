-- What an instance is told where its evaluation in one go has come to its value, and what came to what is kept for it.
use Rattle.std.proofs.Common.{◌≡◌, ℕ, false, List, [], ◌++◌, drop, length, take, ◌+◌, Option, None, Some, Result, Ok, Err, IfOk, OnOk, refl, ap, sym, ◌∙◌, subst}
use Rattle.std.proofs.Math.Seq.{take-append_seam, drop-append_seam}
use Rattle.std.proofs.lemmas.List.{length-append}
use Rattle.at_model.specs.Run.{Value, Instance, Location}
use Rattle.at_model.specs.Rules.{Rules, is_lazy, start_of}
use Rattle.at_model.specs.Nested.{IsGround}
use Rattle.at_model.specs.of_fixpoints.Fixpoints.{HasValue}
use Rattle.at_model.specs.of_fixpoints.Resting.{stays}
use Rattle.at_model.proofs.of_nesting.Nesting.{evaluates_value, reaches_own, waits_apart}
use Rattle.at_store.specs.Shown.{Shown, IsIdle, contents}
use Rattle.at_body.specs.Values.{value_view}
use Rattle.at_body.specs.declared.value.Value.{Value as ValueCode}
use Rattle.at_evaluate.specs.declared.direct.Level.{Level}
use Rattle.at_evaluate.specs.Valued.{equations, meaning, kept_values}
use Rattle.at_evaluate.specs.Inner.{Gains, HasTold, IsEvaluated, is_inner}
use Rattle.at_evaluate.specs.InParts.{HasCome, HasGained, Held, IsUnkept, values_in}
use Rattle.at_evaluate.specs.Traces.{StayJustified}
use Rattle.at_evaluate.proofs.Entered.{is_there}
use Rattle.at_evaluate.proofs.LeadingOn.{leads_on}
use Rattle.at_evaluate.proofs.There.{led_there}
use Rattle.at_evaluate.proofs.of_nesting.InnerGains.{leads_next, told_inner}
use Rattle.at_evaluate.proofs.of_nesting.Remembered.{ground_by}

module _ (rules : Rules) (s : Shown) where
  -- what came for the evaluation of an instance came for the instance
  pub gains_evaluated : IsIdle s → (i : Instance ℕ) (old new : Held) → start_of rules i.attribute ≡ None →
      HasGained rules s (equations rules i) old new →
      Gains rules s i old.entries new.entries old.found new.found old.work new.work
  gains_evaluated idle i old new own h = record {
    worthy = record {
      stays = h.keeps;
      worthy = λ j none some. let (m, d, w) = h.worthy j none some in record {
        reached = leads_on (contents s) (meaning rules) i m j (leads_next rules (contents s) i m own d) w.reached;
        lazy = w.lazy;
        value = w.value;
        has = w.has;
      };
    };
    known = h.right.known;
    still = h.still;
    stays = λ there all. h.stays (λ m d. led_there rules s idle i m there (leads_next rules (contents s) i m own d)) all;
    spare = h.spare;
    counts = h.counts;
  }

  -- and so did what can be kept again
  pub traced_evaluated : IsIdle s → (i : Instance ℕ) (old new : Held) → start_of rules i.attribute ≡ None →
      HasGained rules s (equations rules i) old new → StayJustified rules s i old.memories new.memories
  traced_evaluated idle i old new own h = record {
    justified = h.right.justified;
    there = λ there all. h.there (λ m d. led_there rules s idle i m there (leads_next rules (contents s) i m own d)) all;
  }

  -- no value of an instance that comes to one itself came for its evaluation: nothing that this demands leads to the instance
  pub unkept_evaluated : (i : Instance ℕ) (v : Value ℕ) (old new : Held) (before after : Level) →
      start_of rules i.attribute ≡ None → HasGained rules s (equations rules i) old new →
      HasCome rules (contents s) new before after (equations rules i) v → IsUnkept old i → IsUnkept new i
  unkept_evaluated i v old new before after own g come none = by (kept_values new.entries i) refl
    where
      ground : IsGround (contents s) (equations rules) (meaning rules) (values_in new) (is_inner rules)
      ground = ground_by rules (contents s) new.entries new.found g.right.known

      has : HasValue (contents s) (meaning rules) i v
      has = evaluates_value (contents s) (equations rules) (meaning rules) (values_in new) (is_inner rules) ground
          come.depth i v come.looks come.takes own come.evaluates

      by : (o : Option (Value ℕ)) → kept_values new.entries i ≡ o → kept_values new.entries i ≡ None
      by None is = is
      by (Some w) is =
          let (m, demanded, worth) = g.worthy i none (is_there (kept_values new.entries i) w is) in
          absurd (waits_apart (contents s) (meaning rules) i m m v (reaches_own (contents s) (equations rules)
          (meaning rules) (values_in new) (is_inner rules) ground i m own demanded) (stays m) worth.reached has)

  pub unkept_result : {E : Type 0} (r : Result ValueCode E) (i : Instance ℕ) (old new : Held) (before after : Level) →
      start_of rules i.attribute ≡ None → HasGained rules s (equations rules i) old new →
      IfOk r (λ v. HasCome rules (contents s) new before after (equations rules i) (value_view v)) →
      OnOk r (IsUnkept old i → IsUnkept new i)
  unkept_result (Ok v) i old new before after own g come =
      unkept_evaluated i (value_view v) old new before after own g come
  unkept_result (Err e) i old new before after own g come = tt

  module _ (h : Held) (old new : Level) (i : Instance ℕ) (v : Value ℕ)
      (come : HasCome rules (contents s) h old new (equations rules i) v) where
    -- where it is an inner one, the one that asks is told its value
    pub inner_told : is_lazy rules i.attribute ≡ false → HasTold rules (contents s) (values_in h) old new i v
    inner_told lazy = told_inner rules (contents s) (values_in h) old new i v come.looks come.takes lazy
        (come.depth, come.evaluates) come.reads come.uses

    evaluated : (ls : List (Location ℕ)) (us : List (Instance ℕ)) → come.looks ≡ ls → come.takes ≡ us →
        IsEvaluated rules (contents s) (values_in h) i v ls us
    evaluated ls us e d = subst (λ (xs : List (Location ℕ)). IsEvaluated rules (contents s) (values_in h) i v xs us) e
        (subst (λ (xs : List (Instance ℕ)). IsEvaluated rules (contents s) (values_in h) i v come.looks xs) d
        (come.depth, come.evaluates))

    -- its level has nothing else, where that was empty
    pub evaluated_in : old.reads ≡ [] → old.uses.items ≡ [] →
        IsEvaluated rules (contents s) (values_in h) i v new.reads new.uses.items
    evaluated_in e d = evaluated new.reads new.uses.items
        (sym (come.reads ∙ ap (λ (xs : List (Location ℕ)). xs ++ come.looks) e))
        (sym (come.uses ∙ ap (λ (xs : List (Instance ℕ)). xs ++ come.takes) d))

    -- or it stands behind what that had
    pub evaluated_behind : IsEvaluated rules (contents s) (values_in h) i v (drop (length old.reads) new.reads)
        (drop (length old.uses.items) new.uses.items)
    evaluated_behind = evaluated (drop (length old.reads) new.reads) (drop (length old.uses.items) new.uses.items)
        (sym (ap (drop (length old.reads)) come.reads ∙ drop-append_seam old.reads come.looks))
        (sym (ap (drop (length old.uses.items)) come.uses ∙ drop-append_seam old.uses.items come.takes))

    -- which stands in front
    pub reads_before : take (length old.reads) new.reads ≡ old.reads
    reads_before = ap (take (length old.reads)) come.reads ∙ take-append_seam old.reads come.looks

    pub uses_before : take (length old.uses.items) new.uses.items ≡ old.uses.items
    uses_before = ap (take (length old.uses.items)) come.uses ∙ take-append_seam old.uses.items come.takes

    pub reads_longer : length new.reads ≡ length old.reads + length come.looks
    reads_longer = ap length come.reads ∙ length-append old.reads come.looks

    pub uses_longer : length new.uses.items ≡ length old.uses.items + length come.takes
    uses_longer = ap length come.uses ∙ length-append old.uses.items come.takes

-- a level with the same in it is told the same
pub told_alike : (rules : Rules) (s : Shown) (h : Held) (old mid new : Level) (i : Instance ℕ) (v : Value ℕ) →
    mid.reads ≡ old.reads → mid.uses.items ≡ old.uses.items →
    HasTold rules (contents s) (values_in h) mid new i v → HasTold rules (contents s) (values_in h) old new i v
told_alike rules s h old mid new i v reads uses t = record {
  looks = t.looks;
  takes = t.takes;
  given = t.given;
  reads = t.reads ∙ ap (λ (xs : List (Location ℕ)). xs ++ t.looks) reads;
  uses = t.uses ∙ ap (λ (xs : List (Instance ℕ)). xs ++ t.takes) uses;
}
