-- A try of the last one that goes on: what it has told since it began.
use Rattle.std.proofs.Common.{◌≡◌, ◌⊎◌, ◌∙◌, ℕ, List, ◌∷◌, Some, None, subst, sym}
use Rattle.std.specs.Map.{keys_of}
use Rattle.at_model.specs.Meaning.{Among, Finds, Outcome}
use Rattle.at_model.specs.Rules.{Rules}
use Rattle.at_model.specs.Run.{Value, Instance}
use Rattle.at_model.specs.of_fixpoints.Searching.{Adds, Search, under}
use Rattle.at_rules.specs.Circular.{HasNoneCircular}
use Rattle.at_store.specs.Shown.{Shown, contents}
use Rattle.at_cache.specs.Kept.{Entries}
use Rattle.at_cache.specs.Traced.{Memories}
use Rattle.at_demand.specs.declared.question.Question.{Question}
use Rattle.at_demand.specs.declared.trials.Trials.{Trials}
use Rattle.at_demand.specs.declared.trying.Going.{Going}
use Rattle.at_demand.specs.Attempts.{IsGoing}
use Rattle.at_demand.specs.KeptTrials.{FitAt, IsNotedRight}
use Rattle.at_evaluate.specs.Valued.{kept_values, meaning}
use Rattle.at_demand.specs.Levels.{StandsFor, all_levels, asked_by, known_to}
use Rattle.at_demand.specs.Answerable.{CanTurnWith}
use Rattle.at_demand.specs.Searches.{GainsBetween, StaysOn, WasSeenBy}
use Rattle.at_demand.specs.Turns.{IsSparingTurns}
use Rattle.at_body.specs.Typed.{class_shown}

abbrev with_outcome : Outcome ℕ → Instance ℕ → Instance ℕ × Outcome ℕ
with_outcome o i = (i, o)

abbrev pub with_told : Search ℕ → List (Instance ℕ × Outcome ℕ) → Search ℕ
with_told u told = record { last = u.last; below = u.below; ended = u.ended; told = told }

-- A try of the last one goes on, so far: what came to be known meanwhile had been seen, or had ended, and is told to the search. Where no attribute
-- is circular nothing came.
pub record IsTrying (rules : Rules) (s : Shown) (before after : Entries) (former latter : Memories) (earlier later : ℕ)
    (old new : Question) (t : Trials) (g : Going) : Type 0 where
  pub turns : CanTurnWith rules s after new t
  pub unkept : kept_values after new.inst ≡ None
  pub unknown : known_to after new new.inst ≡ None
  pub none : t.awaited ≡ None
  pub going : IsGoing rules (class_shown s) (contents s) after new.found.entries new.inst g
  pub gains : GainsBetween rules s before after former latter earlier later old new (Unit {0})
  pub stays : StaysOn old new
  pub sparing : IsSparingTurns rules (contents s) before old → IsSparingTurns rules (contents s) after new
  pub asked : asked_by new ≡ asked_by old
  pub levels : (i : Instance ℕ) → Among i (under (all_levels new)) → WasSeenBy old i
  pub ended : (i : Instance ℕ) → Among i (keys_of new.ended.entries) → WasSeenBy old i
  pub came : (u : Search ℕ) → StandsFor rules s before old u → (told : List (Instance ℕ × Outcome ℕ))
      × StandsFor rules s after new (with_told u told)
      × Adds (contents s) (meaning rules) (under (u.last ∷ u.below)) u.told told
      × ((i : Instance ℕ) (v : Value ℕ) → known_to after new i ≡ Some v → (kept_values before i ≡ Some v) ⊎ Among (with_outcome (Finds v) i) told)
  pub plainly : HasNoneCircular rules → (new ≡ old) × (after ≡ before)

-- It goes on so with trials that stand alike, where what is noted there is right.
pub trying_with : (rules : Rules) (s : Shown) (before after : Entries) (former latter : Memories)
    (earlier later : ℕ)
    (old new : Question) (t u : Trials) (g : Going) → IsTrying rules s before after former latter earlier later
    old new t g →
    u.frames.items ≡ t.frames.items → u.awaited ≡ t.awaited → IsNotedRight rules (contents s) u.noted.entries →
    IsTrying rules s before after former latter earlier later old new u g
trying_with rules s before after former latter earlier later old new t u g c frames awaited noted =
    let turns = c.turns in
    let fit = turns.fit in
    record {
      turns = record {
        turns = turns.turns;
        fit = record {
          chain = subst (λ o. FitAt rules s after new u.frames.items o) (sym awaited)
              (subst (λ fs. FitAt rules s after new fs t.awaited) (sym frames) fit.chain);
          noted = noted;
        };
      };
      unkept = c.unkept;
      unknown = c.unknown;
      none = awaited ∙ c.none;
      going = c.going;
      gains = c.gains;
      stays = c.stays;
      sparing = c.sparing;
      asked = c.asked;
      levels = c.levels;
      ended = c.ended;
      came = c.came;
      plainly = c.plainly;
    }
