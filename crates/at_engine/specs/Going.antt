-- What each function of the loop over lines promises: what it has done, and what it leaves as it was.
use Rattle.std.specs.Prelude.{◌≡◌, ◌⊎◌, ℕ, ◌+◌, ◌*◌, ◌^◌, ◌<◌, ◌≤◌, Bool, false, List, [], ◌∷◌, Option, Result, Ok, filter, is_err, vec_len, IfSome, OnOk}
use Rattle.at_model.specs.Lines.{is_filled}
use Rattle.at_model.specs.Machine.{State}
use Rattle.at_model.specs.Rules.{Rules}
use Rattle.at_rules.specs.Circular.{HasNoneCircular}
use Rattle.at_cache.specs.Kept.{Entries}
use Rattle.at_cache.specs.Traced.{Memories}
use Rattle.at_engine.specs.Ends.{Remembers, SendsOn}
use Rattle.at_engine.specs.Engines.{rules_of, slice_of, settings_of, state_of, IsSound}
use Rattle.at_engine.specs.Keeping.{IsSpare, KeepsLine}
use Rattle.at_engine.specs.KeepingRuns.{KeepsAll, KeepsBytes}
use Rattle.at_engine.specs.KeptOver.{NonePosts}
use Rattle.at_engine.specs.Loop.{kept, IsOpen}
use Rattle.at_engine.specs.Stepping.{GoesBy}
use Rattle.at_engine.specs.Taking.{countable, Drains, Finishes, ServedOrHalts, TakesOrStops}
use Rattle.at_engine.specs.declared.engine.Engine.{Engine}
use Rattle.at_engine.specs.declared.stream.desk.Desk.{Desk}
use Rattle.at_engine.specs.declared.stream.desk.RunFault.{RunFault}

-- the engine is sound, and so many lines more can be counted
pub record CanServe {K : Type 0} (entries : K → Entries) (memories : K → Memories)
    (e : Engine K) (desk : Desk) (lines : ℕ) : Type 0 where
  pub sound : IsSound entries memories e
  pub few : countable desk (state_of e) + 3 * lines < 2 ^ 128

-- and the line that was read isn't empty
pub record CanServeLine {K : Type 0} (entries : K → Entries) (memories : K → Memories)
    (e : Engine K) (desk : Desk) : Type 0 where
  pub ready : CanServe entries memories e desk 1
  pub line : 0 < vec_len desk.line

-- turns can be given: the engine is sound, and there are some to give
pub record CanGive {K : Type 0} (entries : K → Entries) (memories : K → Memories)
    (e : Engine K) (desk : Desk) (limit : Option ℕ) : Type 0 where
  pub ready : CanServe entries memories e desk 0
  pub some : IfSome limit (λ n. 0 < n)

-- nothing was answered `memory`, or no attribute is circular
abbrev pub KeepWhole : Rules → (desk next : Desk) → Type 0
KeepWhole rules desk next = HasNoneCircular rules ⊎ (next.memory ≡ desk.memory)

-- It is known of the writer whether a call failed, and where none did, all that was written is sent on. The engine has gone through
-- nothing but lines and turns, each of which tried one equation. It is sound, its rules and settings are as they were, what was kept
-- spare is so still, where what belongs together is kept together, and no more than so many lines were counted.
pub record Goes {K W T : Type 0} (entries : K → Entries) (memories : K → Memories)
    (failure : W → Option Bool) (waiting : W → Bool) (old new : Engine K) (desk next : Desk)
    (writer later : W) (lines : ℕ) (result : Result T RunFault) : Type 0 where
  pub failed : Remembers (failure writer) (failure later) (is_err result)
  pub by : GoesBy entries memories old new
  pub sent : SendsOn result (waiting writer) (waiting later)
  pub spare : KeepWhole (rules_of old) desk next → IsSpare entries old → IsSpare entries new
  pub wanted : desk.memory ≤ next.memory
  pub rules : rules_of new ≡ rules_of old
  pub settings : settings_of new ≡ settings_of old
  pub grows : countable next (state_of new) ≤ countable desk (state_of old) + 3 * lines
  pub sound : IsSound entries memories new

-- turns were given so; where no question is open, the engine is as it was
pub record Works {K W T : Type 0} (entries : K → Entries) (memories : K → Memories)
    (contents : W → Option (List ℕ)) (failure : W → Option Bool) (waiting : W → Bool)
    (old new : Engine K) (desk next : Desk) (writer later : W) (Done : State → State → Desk → Desk → Option (List ℕ) → Option (List ℕ) → Type 0)
    (result : Result T RunFault) : Type 0 where
  pub done : Done (state_of old) (state_of new) desk next (contents writer) (contents later)
  pub none : (state_of old).posted ≡ [] → new ≡ old
  pub line : next.line.items ≡ desk.line.items
  pub goes : Goes entries memories failure waiting old new desk next writer later 0 result

-- nothing is said of what waits, since that is said apart
abbrev pub unsaid : {W : Type 0} → W → Bool
unsaid w = false

-- the line that was read was served, and turns were given behind it
pub record ServesLine {K W : Type 0} (entries : K → Entries) (memories : K → Memories)
    (contents : W → Option (List ℕ)) (failure : W → Option Bool)
    (old new : Engine K) (desk next : Desk) (writer later : W) (result : Result (Unit {0}) RunFault) : Type 0 where
  pub served : ServedOrHalts result (rules_of old) (slice_of old) (state_of old) desk.line.items (state_of new) desk next (contents writer) (contents later)
  pub keeps : IsSpare entries old → OnOk result ((state_of old).posted ≡ [] → NonePosts (desk.line.items ∷ []) → next.memory ≡ desk.memory
      → KeepsLine entries desk.line.items old new)
  pub line : next.line.items ≡ desk.line.items
  pub goes : Goes entries memories failure unsaid old new desk next writer later 1 result

-- The engine went on by single lines, and nothing waits in the writer behind any of them; or turns were given to all that is open.
pub data SendsEach {K W : Type 0} (entries : K → Entries) (memories : K → Memories)
    (contents : W → Option (List ℕ)) (failure : W → Option Bool) (waiting : W → Bool) (old : Engine K) (writer : W) : Engine K → W → Type 0 where
  sends_nothing : SendsEach entries memories contents failure waiting old writer old writer
  sends_reply : (mid new : Engine K) (between later : W) (desk next : Desk) (done : Unit {0})
      → SendsEach entries memories contents failure waiting old writer mid between
      → ServesLine entries memories contents failure mid new desk next between later (Ok done) → waiting later ≡ false
      → SendsEach entries memories contents failure waiting old writer new later
  sends_answers : (mid new : Engine K) (between later : W) (desk next : Desk) (done : Unit {0})
      → SendsEach entries memories contents failure waiting old writer mid between
      → Works entries memories contents failure waiting mid new desk next between later (Drains (Ok done) (rules_of mid)) (Ok done)
      → SendsEach entries memories contents failure waiting old writer new later

-- The bytes were taken, no more than so many lines. Where none was answered `memory`, just what they leave and add is kept.
pub record TakesBytes {K W : Type 0} (entries : K → Entries) (memories : K → Memories)
    (contents : W → Option (List ℕ)) (failure : W → Option Bool)
    (bytes : List ℕ) (lines : ℕ) (old new : Engine K) (desk next : Desk) (writer later : W) (result : Result (Unit {0}) RunFault) : Type 0 where
  pub taken : (front : List ℕ) → IsOpen front → desk.line.items ≡ kept front
      → TakesOrStops result (rules_of old) (slice_of old) (state_of old) front bytes (state_of new) desk next (contents writer) (contents later)
  pub keeps : IsSpare entries old → next.memory ≡ desk.memory → (front : List ℕ) → IsOpen front → desk.line.items ≡ kept front
      → OnOk result (KeepsBytes entries front bytes old new next)
  pub goes : Goes entries memories failure unsaid old new desk next writer later lines result

-- the last line, which no newline ends, was served, and turns were given until no question is open
pub record FinishesAll {K W : Type 0} (entries : K → Entries) (memories : K → Memories)
    (contents : W → Option (List ℕ)) (failure : W → Option Bool) (waiting : W → Bool)
    (old new : Engine K) (desk next : Desk) (writer later : W) (result : Result (Unit {0}) RunFault) : Type 0 where
  pub finished : (front : List ℕ) → desk.line.items ≡ kept front
      → Finishes result (rules_of old) (slice_of old) (state_of old) front (state_of new) desk next (contents writer) (contents later)
  pub keeps : IsSpare entries old → (front : List ℕ) → desk.line.items ≡ kept front
      → OnOk result ((state_of old).posted ≡ [] → NonePosts (filter is_filled (front ∷ [])) → next.memory ≡ desk.memory
      → KeepsAll entries (filter is_filled (front ∷ [])) old new)
  pub each : OnOk result (SendsEach entries memories contents failure waiting old writer new later)
  pub goes : Goes entries memories failure waiting old new desk next writer later 1 result
