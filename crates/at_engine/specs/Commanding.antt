-- What an engine does for a verdict, and for a command.
use Rattle.std.specs.Prelude.{◌≡◌, ℕ, Result, IfOk, OnErr}
use Rattle.at_model.specs.Lines.{Command, IsCommand}
use Rattle.at_model.specs.Machine.{Verdict, obeyed}
use Rattle.at_protocol.specs.declared.reply.Form.{Form}
use Rattle.at_cache.specs.Kept.{Entries}
use Rattle.at_cache.specs.Traced.{Memories}
use Rattle.at_engine.specs.Engines.{rules_of, settings_of, state_of, IsHeld, IsSound, Knows}
use Rattle.at_engine.specs.Following.{Follows, IsAtOnce}
use Rattle.at_engine.specs.Keeping.{IsSpare, Spares}
use Rattle.at_engine.specs.Making.{WentFor}
use Rattle.at_engine.specs.declared.engine.Engine.{Engine}

-- it is held still, what it remembers is there still, and its rules and settings are as they were
pub record Continues {K : Type 0} (entries : K → Entries) (memories : K → Memories) (old new : Engine K) : Type 0 where
  pub rules : rules_of new ≡ rules_of old
  pub settings : settings_of new ≡ settings_of old
  pub sound : IsHeld entries memories new
  pub known : Knows old → Knows new

-- What is told follows from the verdict, and so does the state; where memory ran out, that is as it was. What was kept spare is
-- so still, and it is what the verdict leaves and adds; and nothing but questions, turns and the edit of the verdict, where it was made, led to
-- what can be kept again.
pub record Fulfils {K E : Type 0} (entries : K → Entries) (memories : K → Memories)
    (old : Engine K) (v : Verdict) (result : Result Form E) (new : Engine K) : Type 0 where
  pub obeys : IfOk result (λ f. Follows (rules_of old) (state_of old) v f (state_of new))
  pub err : OnErr result (state_of new ≡ state_of old)
  pub spares : IsSpare entries old → Spares entries v result old new
  pub stays : Continues entries memories old new
  pub went : WentFor entries memories (λ w. v ≡ w) old new

-- so it is of the session's command
abbrev pub Commands : {K E : Type 0} → (entries : K → Entries) (memories : K → Memories)
    → Engine K → (session : ℕ) → Command → Result Form E → Engine K → Type 0
Commands entries memories old session c result new =
    Fulfils entries memories old (obeyed (rules_of old) (state_of old) session c) result new

-- the session's command can be obeyed at once by an engine that is sound
pub record CanObey {K : Type 0} (entries : K → Entries) (memories : K → Memories)
    (e : Engine K) (session : ℕ) (c : Command) : Type 0 where
  pub sound : IsSound entries memories e
  pub is_command : IsCommand c
  pub at_once : IsAtOnce (obeyed (rules_of e) (state_of e) session c)
