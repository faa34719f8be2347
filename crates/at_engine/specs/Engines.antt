-- What an engine serves.
use Rattle.std.specs.Prelude.{ℕ, List, None, Option}
use Rattle.at_model.specs.Rules.{Rules}
use Rattle.at_model.specs.Enduring.{AreTokens}
use Rattle.at_model.specs.Machine.{State}
use Rattle.at_model.specs.WellFormed.{AreWellFormed}
use Rattle.at_cache.specs.Kept.{Entries, KeepsAll}
use Rattle.at_cache.specs.Traced.{Memories, TracesNothing}
use Rattle.at_evaluate.specs.Meant.{AreCircularWell}
use Rattle.at_engine.specs.Holding.{state_in, IsSoundWith}
use Rattle.at_engine.specs.Lasting.{IsKnown}
use Rattle.at_engine.specs.declared.engine.Engine.{Engine}
use Rattle.at_engine.specs.declared.engine.Settings.{Settings}
use Rattle.at_engine.specs.Marks.{Mark, listed}

abbrev pub rules_of : {K : Type 0} → Engine K → Rules
rules_of e = e.rules

-- how many turns follow each line
abbrev pub slice_of : {K : Type 0} → Engine K → ℕ
slice_of e = e.settings.slice

-- how many entries of the cache an edit leaves in memory at most, where there is a bound
abbrev pub most_of : {K : Type 0} → Engine K → Option ℕ
most_of e = e.settings.most

-- what doesn't change while lines are served
abbrev pub settings_of : {K : Type 0} → Engine K → Settings
settings_of e = e.settings

-- the marks of all sessions, in the order in which they were made
abbrev pub marks_of : {K : Type 0} → Engine K → List Mark
marks_of e = listed e.marks.items.entries

-- the state with these marks
abbrev pub state_by : {K : Type 0} → Engine K → List Mark → State
state_by e marks = state_in e.store e.version marks e.posts

abbrev pub state_of : {K : Type 0} → Engine K → State
state_of e = state_by e (marks_of e)

-- the keeper keeps nothing yet, and can keep nothing again
abbrev pub KeepsNothing : {K : Type 0} → (contents : K → Entries) (memories : K → Memories) → K → Type 0
KeepsNothing contents memories k = KeepsAll (λ _. None) (contents k) × TracesNothing (memories k)

-- no edit waits, the tree, the marks and the open questions are sound, and what the keeper keeps, and can keep again, is
-- right
abbrev pub IsHeld : {K : Type 0} → (contents : K → Entries) (memories : K → Memories) → Engine K → Type 0
IsHeld contents memories e =
    IsSoundWith e.rules e.store (marks_of e) e.posts (contents e.demand.keeper) (memories e.demand.keeper)

-- The rules are well formed, their circular attributes are lazy and boolean, and each token of the tree can be written, so that
-- evaluations keep to the kinds.
pub record IsTyped (rules : Rules) (s : State) : Type 0 where
  pub formed : AreWellFormed rules
  pub circular : AreCircularWell rules
  pub tokens : AreTokens s.tree

-- where it remembers that the last question was asked is there
abbrev pub Knows : {K : Type 0} → Engine K → Type 0
Knows e = IsKnown e.rules.classes e.store e.last

-- the engine can serve lines
pub record IsSound {K : Type 0} (contents : K → Entries) (memories : K → Memories) (e : Engine K) : Type 0 where
  pub held : IsHeld contents memories e
  pub typed : IsTyped (rules_of e) (state_of e)
  pub known : Knows e
