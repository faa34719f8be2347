-- Turns that the engine gives: what each of them tries, what they tell, and what comes to what is kept.
use Rattle.std.specs.Prelude.{◌≡◌, ℕ, ◌<◌, Bool, true, false, List, [], ◌∷◌, ◌++◌, Option, Some, None}
use Rattle.std.specs.Option.{option_map}
use Rattle.at_model.specs.Machine.{Given, text_of}
use Rattle.at_model.specs.Replies.{Reply}
use Rattle.at_cache.specs.Kept.{Entries}
use Rattle.at_cache.specs.Traced.{Memories}
use Rattle.at_demand.specs.declared.question.Question.{Question}
use Rattle.at_engine.specs.Engines.{rules_of, state_of}
use Rattle.at_engine.specs.Keeping.{IsSpare, KeepsWhole}
use Rattle.at_engine.specs.Making.{WentOn}
use Rattle.at_engine.specs.Turning.{AnswersIn, CountsTurns, StaysOpen}
use Rattle.at_engine.specs.declared.engine.Engine.{Engine}
use Rattle.at_engine.specs.declared.engine.turning.Spent.{Spent}
use Rattle.at_engine.specs.declared.posts.Posted.{Posted}

-- what is there, as a list
abbrev pub listed : {A : Type 0} → Option A → List A
listed None = []
listed (Some a) = a ∷ []

-- What the turns of the question have tried, by what they tell: it stays open and has come so far; or it is told so.
abbrev pub HasTried : {K : Type 0} → (entries : K → Entries) → (memories : K → Memories) → (limit : Option ℕ)
    → (old new : Engine K) → Posted → (others : List Posted) → (given : ℕ) → Option (Bool × Reply) → Type 0
HasTried entries memories limit old new p others given None =
    (now : Option Question) × StaysOpen entries memories old new.demand p given now
    × (new.posts.items.items ≡ record p { question = now } ∷ others)
HasTried entries memories limit old new p others given (Some told) =
    AnswersIn entries memories limit old new.demand p given told

-- an answer was told for want of memory
abbrev pub is_memory : Option Bool → Bool
is_memory None = false
is_memory (Some wants) = wants

-- Turns were given to the open question with the least number: as many as may be, or up to the one that had an answer, which is
-- appended. Each tried one equation. What was kept spare is so still, where what belongs together is kept together; and nothing but
-- questions and turns led to what can be kept again.
pub record Spends {K : Type 0} (entries : K → Entries) (memories : K → Memories) (limit : Option ℕ) (old new : Engine K)
    (before after : List ℕ) (spent : Spent) : Type 0 where
  pub first : Posted
  pub others : List Posted
  pub least : old.posts.items.items ≡ first ∷ others
  pub told : Option (Bool × Reply)
  pub given : ℕ
  pub some : 0 < given
  pub counts : CountsTurns limit given spent.turns told
  pub turns : Given (rules_of old) given (state_of old) (listed told) (state_of new)
  pub appended : after ≡ before ++ text_of (listed told)
  pub named : option_map (λ (x : Bool × Reply). x.0) told ≡ spent.told
  pub tried : HasTried entries memories limit old new first others given told
  pub spare : KeepsWhole (rules_of old) (is_memory spent.told) → IsSpare entries old → IsSpare entries new
  pub went : WentOn entries memories [] old new

-- so it was; or no question is open, and nothing changes
pub data HasGiven {K : Type 0} (entries : K → Entries) (memories : K → Memories) (limit : Option ℕ) (old new : Engine K)
    (before after : List ℕ) (spent : Spent) : Type 0 where
  none_open : (state_of old).posted ≡ [] → new ≡ old → after ≡ before → spent.told ≡ None
      → HasGiven entries memories limit old new before after spent
  gives : Spends entries memories limit old new before after spent
      → HasGiven entries memories limit old new before after spent

-- one turn was given so, where a question is open
abbrev pub HasTurned : {K : Type 0} → (entries : K → Entries) → (memories : K → Memories) → (old new : Engine K)
    → (before after : List ℕ) → Bool → Type 0
HasTurned entries memories old new before after true =
    (spent : Spent) × Spends entries memories (Some 1) old new before after spent
HasTurned entries memories old new before after false = ((state_of old).posted ≡ []) × (new ≡ old) × (after ≡ before)
