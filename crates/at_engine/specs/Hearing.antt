-- What a line is told, and what turns are given for it where it waits for an open question.
use Rattle.std.specs.Prelude.{◌≡◌, ◌⊎◌, ℕ, Bool, true, List, Some, None, IfOk, OnErr, option_map}
use Rattle.at_model.specs.Lines.{Line}
use Rattle.at_model.specs.Machine.{Serves, Waits, numbered, verdict, without}
use Rattle.at_model.specs.Replies.{Reply}
use Rattle.at_protocol.specs.ReplyView.{posting_view}
use Rattle.at_store.specs.Shown.{path}
use Rattle.at_cache.specs.Kept.{Entries}
use Rattle.at_cache.specs.Traced.{Memories}
use Rattle.at_engine.specs.Engines.{rules_of, state_of}
use Rattle.at_engine.specs.Following.{IsAtOnce}
use Rattle.at_engine.specs.KeptOver.{HasVerdict}
use Rattle.at_engine.specs.Posted.{posted_view}
use Rattle.at_engine.specs.Telling.{Meets}
use Rattle.at_engine.specs.Turning.{AnswersIn, HasEnded, StandsAt}
use Rattle.at_engine.specs.declared.engine.Engine.{Engine}
use Rattle.at_engine.specs.declared.engine.saying.Told.{Told}
use Rattle.at_engine.specs.declared.posts.Posted.{Posted}

-- The question is open no longer: all turns that it needs were given to it, by which it is told so, or memory ran out.
pub record IsClosed {K : Type 0} (entries : K → Entries) (memories : K → Memories) (old new : Engine K)
    (p : Posted) (told : Told) : Type 0 where
  pub there : numbered (state_of old) p.number ≡ Some (posted_view (path old.store) p)
  pub gone : state_of new ≡ without p.number (state_of old)
  pub session : told.session ≡ Some p.session
  pub done : option_map posting_view told.done ≡ Some (record { number = p.number; version = old.version })
  pub ended : HasEnded entries memories old new.demand p told.form

-- The line is told so: at once, or by the turns of the question for which it waits.
pub data Hears {K : Type 0} (entries : K → Entries) (memories : K → Memories) (old new : Engine K) (l : Line)
    (told : Told) : Type 0 where
  at_once : told.session ≡ Some l.session → told.done ≡ None → IfOk told.form (λ f. Meets (rules_of old) (state_of old) l f (state_of new))
      → OnErr told.form (state_of new ≡ state_of old) → IsAtOnce (verdict (rules_of old) (state_of old) l)
      → Hears entries memories old new l told
  by_turns : (position : ℕ) (p : Posted) → StandsAt old.posts.items.items position p → verdict (rules_of old) (state_of old) l ≡ Waits p.number
      → IsClosed entries memories old new p told → Hears entries memories old new l told

-- All turns that the open question of that number needs were given to it: each tried one equation, and by them it is told so.
pub record AwaitsAnswer {K : Type 0} (entries : K → Entries) (memories : K → Memories) (old new : Engine K)
    (number : ℕ) (told : Bool × Reply) : Type 0 where
  pub position : ℕ
  pub question : Posted
  pub there : StandsAt old.posts.items.items position question
  pub numbered' : question.number ≡ number
  pub given : ℕ
  pub answers : AnswersIn entries memories None old new.demand question given told

-- One step of the machine. Where the bytes wait for an open question, all turns are given to it that it needs; or memory ran out before
-- that, and nothing has changed.
pub record IsStep {K : Type 0} (entries : K → Entries) (memories : K → Memories) (line : List ℕ) (old new : Engine K)
    (told : Bool × Reply) : Type 0 where
  pub serves : Serves (rules_of old) (state_of old) line (state_of new) told
  pub waits : (number : ℕ) → HasVerdict (rules_of old) (state_of old) line (Waits number)
      → ((told.0 ≡ true) × (new ≡ old)) ⊎ AwaitsAnswer entries memories old new number told
