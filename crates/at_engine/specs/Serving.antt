-- What one call of the engine does.
use Rattle.std.specs.Prelude.{◌≡◌, ℕ, ◌+◌, ◌≤◌, ◌<◌, Bool, List, [], ◌∷◌, ◌++◌, Result, Vec, vec_capacity, vec_len, IfOk, OnErr}
use Rattle.std.specs.Global.{Global}
use Rattle.at_model.specs.Replies.{Reply, reply_text}
use Rattle.at_cache.specs.Kept.{Entries}
use Rattle.at_cache.specs.Traced.{Memories}
use Rattle.at_engine.specs.Engines.{rules_of, settings_of, state_of, IsSound}
use Rattle.at_engine.specs.Hearing.{IsStep}
use Rattle.at_engine.specs.Keeping.{IsSpare, KeepsServed, KeepsWhole}
use Rattle.at_engine.specs.KeptOver.{HasVerdict}
use Rattle.at_engine.specs.Making.{WentFor}
use Rattle.at_engine.specs.declared.engine.Engine.{Engine}

-- A call that appends to `out` has done that; or room for 64 bytes was refused, and nothing has changed. The engine is sound, and its
-- rules and settings are as they were.
pub record Calls {K T E : Type 0} (entries : K → Entries) (memories : K → Memories)
    (old new : Engine K) (out next : Vec ℕ Global)
    (Done : T → Type 0) (result : Result T E) : Type 0 where
  pub done : IfOk result Done
  pub same : OnErr result (new ≡ old)
  pub full : OnErr result (vec_capacity out < vec_len out + 64)
  pub err : OnErr result (next.items ≡ out.items)
  pub room : vec_capacity out ≤ vec_capacity next
  pub rules : rules_of new ≡ rules_of old
  pub settings : settings_of new ≡ settings_of old
  pub sound : IsSound entries memories new

-- A line that isn't empty was served, and its reply, which may be `memory`, is appended. Where what is kept was spare, it is so still,
-- where what belongs together is kept together; and just what the line leaves and adds is kept. Nothing but questions, turns and the edit of the
-- line, where it was made, led to what can be kept again.
pub record IsServed {K : Type 0} (entries : K → Entries) (memories : K → Memories) (line : List ℕ) (old new : Engine K)
    (before after : List ℕ) (wants : Bool) : Type 0 where
  pub served : (reply : Reply) × IsStep entries memories line old new (wants, reply) × (after ≡ before ++ reply_text reply)
  pub spare : KeepsWhole (rules_of old) wants → IsSpare entries old → IsSpare entries new
  pub keeps : IsSpare entries old → KeepsServed entries wants line old new
  pub went : WentFor entries memories (HasVerdict (rules_of old) (state_of old) line) old new

-- so it was; but an empty line changes and appends nothing
abbrev pub TakesLine : {K : Type 0} → (entries : K → Entries) → (memories : K → Memories) → (line : List ℕ)
    → (old new : Engine K) → (before after : List ℕ) → Type 0
TakesLine entries memories [] old new before after = (new ≡ old) × (after ≡ before)
TakesLine entries memories (b ∷ bs) old new before after =
    (wants : Bool) × IsServed entries memories (b ∷ bs) old new before after wants
