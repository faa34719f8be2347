-- What files make: an engine, or the first fault in the order grammar, aspects, tree.
use Rattle.std.specs.Prelude.{◌≡◌, ℕ, ◌+◌, Bool, true, false, List, [], length, map, Option, Some, None}
use Rattle.at_model.specs.Declarations.{Declarations, Place as Mark}
use Rattle.at_model.specs.Trees.{Tree}
use Rattle.at_model.specs.Rules.{Rules}
use Rattle.at_model.specs.WellFormed.{AreWellFormed}
use Rattle.at_model.specs.Classes.{AreSound}
use Rattle.at_model.specs.Machine.{State}
use Rattle.at_seek.specs.Sought.{IsSought}
use Rattle.at_seek.specs.Standing.{Stands}
use Rattle.at_text.specs.declared.place.Place.{Place}
use Rattle.at_cache.specs.Keeping.{recorded_by, remembered_by}
use Rattle.at_cache.specs.declared.keep_recorded.KeepRecorded.{KeepRecorded}
use Rattle.at_engine.specs.Engines.{IsSound}
use Rattle.at_engine.specs.declared.engine.Engine.{Engine}
use Rattle.at_start.specs.AspectFiles.{GivesRules, RefusesAspects}
use Rattle.at_start.specs.GrammarFiles.{GivesGrammar, RefusesGrammar}
use Rattle.at_start.specs.TreeFiles.{GivesTree, RefusesTree}
use Rattle.at_start.specs.declared.code.Code.{Code}
use Rattle.at_start.specs.declared.files.Source.{Source}
use Rattle.at_start.specs.declared.files.Files.{Files}
use Rattle.at_start.specs.declared.fault.StartFault.{StartFault}
use Rattle.at_start.specs.declared.fault.StartFault.TheVariants.{Refused, Memory}

-- what is in the aspect files
abbrev pub aspect_bytes : List Source → List (List ℕ)
aspect_bytes = map (λ s. s.bytes.items)

-- the state at the start: that tree, which may have so many nodes, at version 0, with no marks and no open questions
abbrev pub opening : (limit : ℕ) → Tree → State
opening limit t = record { tree = t; limit = limit; version = 0; marks = []; posts = 0; posted = [] }

-- the engine can serve lines: it is sound, and what it keeps is right
abbrev pub IsReady : Engine KeepRecorded → Type 0
IsReady e = IsSound recorded_by remembered_by e

-- the files give these rules, and an engine that they make is in this state
pub record Starts (files : Files) (rules : Rules) (state : State) : Type 0 where
  pub declarations : Declarations
  pub marks : List Mark
  pub grammar : GivesGrammar files.language files.grammar.bytes.items declarations marks
  pub aspects : GivesRules files.language marks declarations (aspect_bytes files.aspects.items) rules
  pub opened : Tree
  pub tree : GivesTree rules.classes files.nodes files.tree.bytes.items opened
  pub state_is : state ≡ opening files.nodes opened

-- the rules by which questions are answered: those that files give; or, where names are looked up by key, these with searches in the
-- place of folds
abbrev pub AreServed : (index : Bool) → (rules also : Rules) → Type 0
AreServed false rules also = also ≡ rules
AreServed true rules also = IsSought rules also

-- The engine that the files make answers by these rules, and is in this state. The rules that they give are well formed, over sound
-- classes, and so is the state.
pub record IsStarted (files : Files) (also : Rules) (state : State) : Type 0 where
  pub rules : Rules
  pub starts : Starts files rules state
  pub served : AreServed files.index rules also
  pub well_formed : AreWellFormed rules
  pub classes : AreSound rules.classes
  pub stands : Stands rules.classes state

-- The file of that number is the first that is refused, by the code and at the place; a tree file's fault has none.
pub data Refuses (files : Files) : (file : ℕ) → Code → Option Place → Type 0 where
  by_grammar : (c : Code) (at : Place) → RefusesGrammar files.language files.grammar.bytes.items c at → Refuses files 0 c (Some at)
  by_aspects : (ds : Declarations) (marks : List Mark) (file : ℕ) (c : Code) (at : Place)
      → GivesGrammar files.language files.grammar.bytes.items ds marks
      → RefusesAspects files.language marks ds (aspect_bytes files.aspects.items) file c at → Refuses files file c (Some at)
  by_tree : (ds : Declarations) (marks : List Mark) (rules : Rules) (c : Code) → GivesGrammar files.language files.grammar.bytes.items ds marks
      → GivesRules files.language marks ds (aspect_bytes files.aspects.items) rules
      → RefusesTree rules.classes files.nodes files.tree.bytes.items c → Refuses files (length files.aspects.items + 1) c None

-- all but the bytes of the tree is as it was, and so each name
abbrev pub AreSameButTree : (before later : Files) → Type 0
AreSameButTree before later = (later.grammar ≡ before.grammar) × (later.aspects ≡ before.aspects) × (later.tree.name ≡ before.tree.name)
    × (later.nodes ≡ before.nodes) × (later.language ≡ before.language) × (later.index ≡ before.index)

-- the fault is the first one of the files; of want of memory nothing is said
abbrev pub IsStartFault : Files → StartFault → Type 0
IsStartFault files (Refused file c at) = Refuses files file c at
IsStartFault files Memory = Unit {0}

-- the same, where the bytes of the tree may have been given back
abbrev pub IsFaultOf : Files → StartFault → Type 0
IsFaultOf files fault = (was : Files) × AreSameButTree was files × IsStartFault was fault
