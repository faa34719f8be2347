-- What turns of a question come to for an open one.
use Rattle.std.proofs.Common.{◌≡◌, ℕ, ◌+◌, Option, Some, None, arith, refl, sym, true≢false}
use Rattle.std.specs.Prelude.{IfNone, IsSome, Result, Ok, Err}
use Rattle.std.specs.Option.{option_map}
use Rattle.at_model.specs.Rules.{Rules}
use Rattle.at_model.specs.of_fixpoints.Searching.{Search}
use Rattle.at_store.specs.Shown.{Shown, contents}
use Rattle.at_cache.specs.Kept.{Entries}
use Rattle.at_cache.specs.Traced.{Memories}
use Rattle.at_demand.specs.Answered.{HasTurnedOften, most_turns}
use Rattle.at_demand.specs.Known.{answer_view}
use Rattle.at_evaluate.specs.Valued.{meaning}
use Rattle.at_demand.specs.Levels.{StandsFor, asked_by}
use Rattle.at_demand.specs.Sound.{AreSound}
use Rattle.at_demand.specs.Turns.{HasGivenBy, IsStanding}
use Rattle.at_demand.specs.declared.answer.Answer.{Answer as AnswerCode}
use Rattle.at_demand.specs.declared.question.Question.{Question}
use Rattle.at_engine.specs.Turning.{AreTurns, BreaksOffIn, CountsTurns, IsWithin}

none_now : (o : Option AnswerCode) (P : Type 0) → (o ≡ None → P) → IfNone (option_map answer_view o) P
none_now None P h = h refl
none_now (Some a) P h = tt

count_now : (o : Option AnswerCode) (P : Type 0) → IfNone o P → IfNone (option_map answer_view o) P
count_now None P h = h
count_now (Some a) P h = tt

within_most : (limit : Option ℕ) → IsWithin limit (most_turns limit)
within_most None = tt
within_most (Some n) = omega arith

-- Turns of a question, in the words of an open one.
module _ (E : Type 0) (rules : Rules) (s : Shown) (limit : Option ℕ) (before after : Entries)
    (work later : ℕ) (m : Memories) (old new : Question) (standing : IsStanding rules s before old) (sound : AreSound rules s before) where
  abbrev Turned : Result (ℕ × Option AnswerCode) E → Type 0
  Turned r = HasTurnedOften rules s m before after work later limit old new r

  stood : (u : Search ℕ) × StandsFor rules s before old u
  stood = standing.levels sound

  of_answer : (l : Option ℕ) (g : ℕ) (o : Option AnswerCode) (u v : Search ℕ) → (l ≡ None → IsSome o)
      → HasGivenBy (contents s) (meaning rules) (most_turns l) g u v (option_map answer_view o) → CountsTurns l g g (option_map answer_view o)
  of_answer None g None u v ended given = absurd (true≢false (sym (ended refl)))
  of_answer None g (Some a) u v ended given = tt
  of_answer (Some n) g None u v ended given = (refl, given.0)
  of_answer (Some n) g (Some a) u v ended (front, mid, kept, is, within, silent, turned) = (refl, within)

  turns_so : (g : ℕ × Option AnswerCode) → Turned (Ok g)
      → AreTurns rules s m g.0 before (Some old) (asked_by old) after new (option_map answer_view g.1)
  turns_so g h = record {
    stood = stood;
    searched = λ u is. let (v, given, each, stands) = h.given u is in (v, each, none_now g.1 (StandsFor rules s after new v) stands);
    plainly = λ none. (h.plainly none).each;
    counted = count_now g.1 (new.turns ≡ old.turns + g.0) h.counted;
  }

  pub counted : (g : ℕ × Option AnswerCode) → Turned (Ok g) → (given : ℕ) × CountsTurns limit given g.0 (option_map answer_view g.1)
      × AreTurns rules s m given before (Some old) (asked_by old) after new (option_map answer_view g.1)
  counted g h =
      let (u, is) = stood in
      let (v, given, each, stands) = h.given u is in
      (g.0, of_answer limit g.0 g.1 u v h.ended given, turns_so g h)

  pub broken : (e : E) → Turned (Err e) → BreaksOffIn rules s m limit before (Some old) (asked_by old) after
  broken e h = (
    most_turns limit,
    within_most limit,
    record { stood = stood; searched = λ u is. h.broke u is; plainly = λ none. (h.plainly none).broke },
  )
