-- The whole: from the bytes of the files, and those of the lines, to the bytes that are written.
use Rattle.std.specs.Prelude.{◌≡◌, ℕ, Bool, false, List, Option, None, Result, Ok, Err}
use Rattle.std.specs.List.{AllByRecursion}
use Rattle.at_model.specs.Declarations.{Declarations, Place as Mark}
use Rattle.at_model.specs.Trees.{Tree}
use Rattle.at_model.specs.Rules.{Rules}
use Rattle.at_model.specs.Replies.{Reply}
use Rattle.at_model.specs.Machine.{State, Outputs, text_of}
use Rattle.at_cache.specs.Kept.{Entries}
use Rattle.at_engine.specs.Engines.{most_of, rules_of, slice_of, state_of}
use Rattle.at_engine.specs.Keeping.{IsSpare, work_of}
use Rattle.at_engine.specs.Making.{made_of}
use Rattle.at_engine.specs.Running.{Ran, RunsFor, max_reads}
use Rattle.at_engine.specs.declared.engine.Engine.{Engine}
use Rattle.at_engine.specs.declared.stream.desk.Report.{Report}
use Rattle.at_engine.specs.declared.stream.desk.RunFault.{RunFault}
use Rattle.at_start.specs.AspectFiles.{GivesRules}
use Rattle.at_cache.specs.Traced.{Memories}
use Rattle.at_start.specs.GrammarFiles.{GivesGrammar}
use Rattle.at_start.specs.TreeFiles.{GivesTree}
use Rattle.at_start.specs.Starts.{Starts, IsStarted, IsStartFault, aspect_bytes, opening}
use Rattle.at_start.specs.declared.files.Files.{Files}
use Rattle.at_start.specs.declared.fault.StartFault.{StartFault}
use Rattle.at_start.specs.declared.serving.Answered.{Answered}

-- The files give rules and a tree; and from that tree on the run has done with the bytes of the reader what the machine without
-- caches does.
pub record Answers (files : Files) (slice : ℕ) (run : Result Report RunFault) (readable left before after : Option (List ℕ)) : Type 0 where
  pub rules : Rules
  pub old : State
  pub new : State
  pub starts : Starts files rules old
  pub ran : Ran max_reads run rules slice old new readable left before after

-- The files make an engine, with so many turns behind each line and that bound on what edits leave in memory, and all that a run promises
-- holds of the run of that, which leaves the engine that is given. Where there is no bound what is kept is spare from the start.
pub record RunsFiles {K R W : Type 0} (entries : K → Entries) (memories : K → Memories)
    (remaining : R → Option (List ℕ)) (misread ending : R → Option Bool) (count : R → Option ℕ) (contents : W → Option (List ℕ))
    (failure : W → Option Bool) (waiting : W → Bool) (files : Files) (slice : ℕ) (most : Option ℕ) (gathers : Bool)
    (reader left : R) (writer later : W) (answered : Answered K) : Type 0 where
  pub made : Engine K
  pub starts : IsStarted files (rules_of made) (state_of made)
  pub spare : most ≡ None → IsSpare entries made
  pub idle : work_of made ≡ 0
  pub fresh : made_of made ≡ 0
  pub turns : slice_of made ≡ slice
  pub bound : most_of made ≡ most
  pub runs : RunsFor entries memories remaining misread ending count contents failure waiting max_reads gathers made
      answered.engine reader left writer later answered.run

-- So it is; or the fault is that of the first file that is refused, and nothing was read or written.
abbrev pub AnswersFiles : {K : Type 0} → Files → (slice : ℕ) → Result (Answered K) StartFault → (readable left before after : Option (List ℕ)) → Type 0
AnswersFiles files slice (Ok answered) readable left before after = Answers files slice answered.run readable left before after
AnswersFiles files slice (Err fault) readable left before after = IsStartFault files fault × (left ≡ readable) × (after ≡ before)

-- The grammar file gives declarations, the aspect files rules over their classes, and the tree file a tree; and the output is the text of what
-- the machine without caches, from that tree on, tells for the bytes of the input.
pub record MeansOutput (files : Files) (slice : ℕ) (input output : List ℕ) : Type 0 where
  pub declarations : Declarations
  pub marks : List Mark
  pub grammar : GivesGrammar files.language files.grammar.bytes.items declarations marks
  pub rules : Rules
  pub aspects : GivesRules files.language marks declarations (aspect_bytes files.aspects.items) rules
  pub opened : Tree
  pub tree : GivesTree rules.classes files.nodes files.tree.bytes.items opened
  pub told : List (Bool × Reply)
  pub new : State
  pub outputs : Outputs rules slice (opening files.nodes opened) input told new
  pub text : output ≡ text_of told

-- none of this is told for want of memory
abbrev pub IsWithinMemory : List (Bool × Reply) → Type 0
IsWithinMemory told = AllByRecursion (λ (x : Bool × Reply). x.0 ≡ false) told
