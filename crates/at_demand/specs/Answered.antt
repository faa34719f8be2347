-- What a question is answered, and what becomes of what is kept.
use Rattle.std.specs.Prelude.{◌≡◌, ◌+◌, ◌^◌, ℕ, Bool, false, [], Option, Some, None, IfNone, IfOk, IfSome, IsSome, OnErr, Result}
use Rattle.std.specs.Option.{option_map}
use Rattle.at_model.specs.Run.{Contents, Instance, Location}
use Rattle.at_model.specs.Rules.{Rules}
use Rattle.at_model.specs.Meaning.{Answer, Circle, Outcomes}
use Rattle.at_model.specs.of_fixpoints.Circles.{Answers, Circular}
use Rattle.at_model.specs.of_fixpoints.Met.{IsMet}
use Rattle.at_model.specs.of_fixpoints.Searching.{Search}
use Rattle.at_rules.specs.Circular.{HasNoneCircular}
use Rattle.at_evaluate.specs.Meant.{AreRightValues}
use Rattle.at_store.specs.Shown.{Shown, contents}
use Rattle.at_cache.specs.Kept.{Entries, LeavesUntouched, LosesTouched}
use Rattle.at_cache.specs.Traced.{FlushesTraces, Memories, SparesAtEdit, StayTraced}
use Rattle.at_demand.specs.declared.answer.Answer.{Answer as AnswerCode}
use Rattle.at_demand.specs.declared.question.Question.{Question}
use Rattle.at_demand.specs.declared.trials.Trials.{Trials}
use Rattle.at_demand.specs.State.{State, is_over, lets_go}
use Rattle.at_demand.specs.Went.{IsAsked, Went}
use Rattle.at_evaluate.specs.Valued.{equations, meaning, kept_values, ArePlain, IsKept}
use Rattle.at_demand.specs.Known.{answer_view}
use Rattle.at_evaluate.specs.Right.{AreRight, IsThere}
use Rattle.at_evaluate.specs.Sparing.{AddsWorthy, AreSpare, Counts, HasWorthy, IsWorthy}
use Rattle.at_demand.specs.Worth.{IsWork}
use Rattle.at_demand.specs.KeptTrials.{FitAfter}
use Rattle.at_evaluate.specs.Traces.{StayJustified}
use Rattle.at_demand.specs.Groups.{KeepsGroups}
use Rattle.at_demand.specs.Levels.{StandsFor, asked_by}
use Rattle.at_demand.specs.Turns.{
  AreTurns,
  AreTurnsOfChain,
  BreaksOff,
  BreaksOffChain,
  GainsInChain,
  GainsInTurn,
  HasGiven,
  HasGivenBy,
  HasTurnedBy,
  IsSparingTurns,
  IsStanding,
  under_way,
}

-- all that is worthy of the question, and that its search has met, is kept
abbrev pub HasWorthyMet : Rules → Contents ℕ → Instance ℕ → Entries → Type 0
HasWorthyMet rules look q entries = (i : Instance ℕ) → IsWorthy rules look q i → IsMet look (meaning rules) q i → IsKept entries i

-- All that is worthy of the question is kept for the answer. Where that is a circle, it is so of what its search has met before; and of all, where no
-- attribute is circular.
abbrev pub HasWorthyFor : Rules → Contents ℕ → Instance ℕ → Answer ℕ → Entries → Type 0
HasWorthyFor rules look q (Outcomes o) entries = HasWorthy rules look q entries
HasWorthyFor rules look q (Circle j) entries = (HasNoneCircular rules → HasWorthy rules look q entries) × HasWorthyMet rules look q entries

-- so it is where the question isn't answered; where no attribute is circular, it is so then, too
abbrev pub IsOfUse : Rules → Option AnswerCode → Type 0 → Type 0
IsOfUse rules None P = P
IsOfUse rules (Some a) P = HasNoneCircular rules → P

-- what a turn of the question lets come to what is kept: no more than one of the search for which it stands may, or of its chain
pub record GainsBy (rules : Rules) (s : Shown) (before after : Entries) (q : Question) : Type 0 where
  pub plainly : HasNoneCircular rules → GainsInChain rules before after (under_way q)
  pub searched : (u : Search ℕ) → StandsFor rules s before q u → GainsInTurn rules before after u

-- how many turns may be given at most: without a limit one more than can be counted
abbrev pub most_turns : (limit : Option ℕ) → ℕ
most_turns None = 2 ^ 64
most_turns (Some limit) = limit

-- where no attribute is circular, turns of the question's chain were given
pub record HasGivenPlainly {E : Type 0} (rules : Rules) (s : Shown) (m : Memories) (before after : Entries) (limit : ℕ) (old new : Question)
    (r : Result (ℕ × Option AnswerCode) E) : Type 0 where
  pub given : IfOk r (λ g. HasGiven (contents s) (equations rules) limit g.0 (under_way old) (under_way new) (option_map answer_view g.1))
  pub each : IfOk r (λ g. AreTurnsOfChain rules s m g.0 before (under_way old) after (under_way new) (option_map answer_view g.1))
  pub broke : OnErr r (BreaksOffChain rules s m limit before (under_way old) after)

-- of what came to be kept all was met by the search for the question, where a circle answers that
abbrev pub AddsMet : Rules → Contents ℕ → Instance ℕ → (before after : Entries) → Type 0
AddsMet rules look q before after = (c i : Instance ℕ) → Circular look (meaning rules) q c → kept_values before i ≡ None → IsKept after i
    → IsMet look (meaning rules) q i

-- The instance has its answer. What is kept stays right, and spare where groups are kept whole; it has all that is worth keeping, and no
-- more than was met, and the work counts that.
pub record HasAnswered {E : Type 0} (rules : Rules) (s : Shown) (before after : Entries) (earlier later : ℕ) (i : Instance ℕ)
    (r : Result AnswerCode E) : Type 0 where
  pub answers : IfOk r (λ a. Answers (contents s) (meaning rules) i (answer_view a))
  pub worthy : AddsWorthy rules (contents s) i before after
  pub met : AreSpare rules (contents s) before → AddsMet rules (contents s) i before after
  pub spare : KeepsGroups rules r → AreSpare rules (contents s) before → AreSpare rules (contents s) after
  pub all : AreSpare rules (contents s) before → IfOk r (λ a. HasWorthyFor rules (contents s) i (answer_view a) after)
  pub counts : Counts before after earlier later
  pub work : AreSpare rules (contents s) before → IfOk r (λ a. IsWork rules (contents s) i before earlier later)
  pub right : IsThere s i → AreRight rules s before → AreRight rules s after
  pub plain : ArePlain rules after

-- A turn of the question lets at most its last instance, and what levels under way have seen, come to what is kept, and entries without a
-- value of what it had found. That stays right, and spare where groups are kept whole; the work counts the value.
pub record GainsAtMost (rules : Rules) (s : Shown) (before after : Entries) (earlier later : ℕ) (q : Question) (Whole : Type 0)
    : Type 0 where
  pub right : AreRightValues (contents s) (meaning rules) (kept_values after)
  pub stays : IsThere s (asked_by q) → AreRight rules s before → AreRight rules s after
  pub plain : ArePlain rules after
  pub last : GainsBy rules s before after q
  pub worthy : AddsWorthy rules (contents s) (asked_by q) before after
  pub spare : Whole → AreSpare rules (contents s) before → IsSparingTurns rules (contents s) before q → AreSpare rules (contents s) after
  pub counts : Counts before after earlier later

-- It was given a turn so; where that doesn't answer it, that is counted, it stands, and its trials are those of its chain.
pub record HasTurnedWith {E : Type 0} (rules : Rules) (s : Shown) (before after : Entries) (earlier later : ℕ)
    (old new : Question) (t : Trials) (r : Result (Option AnswerCode) E) : Type 0 where
  pub turned : HasTurnedBy rules s before after old new r
  pub counted : IfOk r (λ o. IfNone o (new.turns ≡ old.turns + 1))
  pub standing : IfOk r (λ o. IsOfUse rules o (IsStanding rules s after new))
  pub fit : IfOk r (FitAfter rules s after new t)
  pub all : AreSpare rules (contents s) before → IsSparingTurns rules (contents s) before old
      → IfOk r (λ o. IfSome o (λ a. HasWorthyFor rules (contents s) (asked_by old) (answer_view a) after))
  pub sparing : AreSpare rules (contents s) before → IsSparingTurns rules (contents s) before old
      → IfOk r (λ o. IsOfUse rules o (IsSparingTurns rules (contents s) after new))
  pub gains : GainsAtMost rules s before after earlier later old (KeepsGroups rules r)

-- one turn is counted, and all else stays
abbrev pub IsCounted : (old new : Question) → Type 0
IsCounted old new = (new.turns ≡ old.turns + 1) × (new ≡ record old { turns = new.turns })

-- so it was, where the turn isn't counted yet: counted, it stands, where it isn't answered
pub record HasTurnedOn {E : Type 0} (rules : Rules) (s : Shown) (before after : Entries) (earlier later : ℕ)
    (old new : Question) (t : Trials) (r : Result (Option AnswerCode) E) : Type 0 where
  pub counted : IfOk r (λ o. IfNone o ((q : Question) → IsCounted new q → HasTurnedWith rules s before after earlier later old q t r))
  pub answered : IfOk r (λ o. IfSome o (λ a. HasTurnedWith rules s before after earlier later old new t r))
  pub gains : GainsAtMost rules s before after earlier later old (KeepsGroups rules r)

-- It was given as many turns as it may be, which are counted, or fewer where one of them answered it, as one does without a limit; so it is then,
-- too. What these memories have may be kept again before each of them, where they say that turns do.
pub record HasTurnedOften {E : Type 0} (rules : Rules) (s : Shown) (m : Memories) (before after : Entries) (earlier later : ℕ) (limit : Option ℕ)
    (old new : Question) (r : Result (ℕ × Option AnswerCode) E) : Type 0 where
  pub plainly : HasNoneCircular rules → HasGivenPlainly rules s m before after (most_turns limit) old new r
  pub given : (u : Search ℕ) → StandsFor rules s before old u → IfOk r (λ g. (v : Search ℕ)
      × HasGivenBy (contents s) (meaning rules) (most_turns limit) g.0 u v (option_map answer_view g.1)
      × AreTurns rules s m g.0 before u after v (option_map answer_view g.1) × (g.1 ≡ None → StandsFor rules s after new v))
  pub ended : limit ≡ None → IfOk r (λ g. IsSome g.1)
  pub broke : (u : Search ℕ) → StandsFor rules s before old u → OnErr r (BreaksOff rules s m (most_turns limit) before u after)
  pub counted : IfOk r (λ g. IfNone g.1 (new.turns ≡ old.turns + g.0))
  pub same : IfOk r (λ g. IfNone g.1 (asked_by new ≡ asked_by old))
  pub all : AreSpare rules (contents s) before → IsSparingTurns rules (contents s) before old
      → IfOk r (λ g. IfSome g.1 (λ a. HasWorthyFor rules (contents s) (asked_by old) (answer_view a) after))
  pub answers : IfOk r (λ g. IfSome g.1 (λ a. Answers (contents s) (meaning rules) (asked_by old) (answer_view a)))
  pub standing : IfOk r (λ g. IsOfUse rules g.1 (IsStanding rules s after new))
  pub right : AreRightValues (contents s) (meaning rules) (kept_values after)
  pub worthy : AddsWorthy rules (contents s) (asked_by old) before after
  pub stays : IsThere s (asked_by old) → AreRight rules s before → AreRight rules s after
  pub plain : ArePlain rules after
  pub spare : KeepsGroups rules r → AreSpare rules (contents s) before → IsSparingTurns rules (contents s) before old
      → AreSpare rules (contents s) after
  pub sparing : AreSpare rules (contents s) before → IsSparingTurns rules (contents s) before old
      → IfOk r (λ g. IsOfUse rules g.1 (IsSparingTurns rules (contents s) after new))
  pub counts : Counts before after earlier later

-- The instance has its answer; what can be kept again is right still, and of the tree. Unless turns were given, just what had a reason was made;
-- else that was made by steps, some of which are turns.
pub record IsAnswered {E : Type 0} (rules : Rules) (s : Shown) (old new : State) (i : Instance ℕ) (r : Result AnswerCode E) (turned : Bool)
    : Type 0 where
  pub answered : HasAnswered rules s old.entries new.entries old.work new.work i r
  pub traces : StayJustified rules s i old.memories new.memories
  pub makes : turned ≡ false → IsAsked old new
  pub went : Went old [] new

-- turns come to that, and trace nothing; what they put, they put as turns do
pub record TracesNothing (Turns : Type 0) (old new : State) : Type 0 where
  pub turned : Turns
  pub traces : StayTraced old.memories new.memories
  pub went : Went old [] new

-- An edit leaves all that it doesn't touch, and loses the rest alone, unless more was in memory than a bound allows. It takes traces for which
-- what it touches was looked at, and others where more was in memory than that, or much more than is kept. The work stays as it was, and
-- nothing is made.
pub record Forgets (says : Location ℕ → Bool → Type 0) (most : Option ℕ) (old new : State) : Type 0 where
  pub leaves : LeavesUntouched says old.entries new.entries
  pub loses : is_over most old.memories.count ≡ false → LosesTouched says old.entries new.entries
  pub traces : FlushesTraces says old.memories new.memories
  pub spares : SparesAtEdit says (lets_go most old.memories) old.memories new.memories
  pub work : new.work ≡ old.work
  pub made : new.made ≡ old.made
