-- What a run that came to its end has written.
use Rattle.std.proofs.Common.{◌≡◌, ◌∙◌, ℕ, Bool, true, false, List, [], ◌∷◌, ◌++◌, Option, Some, None, Result, Ok}
use Rattle.std.proofs.Common.{sym, ap, refl, append-nil, subst, arith}
use Rattle.std.specs.Io.KnownBytes.{Appends, Consumes, IsAtEnd}
use Rattle.at_model.specs.Machine.{State, Outputs, text_of}
use Rattle.at_model.specs.Replies.{Reply}
use Rattle.at_store.specs.Shown.{contents}
use Rattle.at_cache.specs.Kept.{Entries}
use Rattle.at_cache.specs.Traced.{Memories}
use Rattle.at_engine.specs.Engines.{most_of, rules_of, slice_of, state_of}
use Rattle.at_engine.specs.Keeping.{IsSpare, IsSpareWith, work_of}
use Rattle.at_engine.specs.Making.{made_of}
use Rattle.at_engine.specs.Running.{Ran, RunsFor, max_reads}
use Rattle.at_engine.specs.Taking.{wants}
use Rattle.at_engine.specs.declared.engine.Engine.{Engine}
use Rattle.at_engine.specs.declared.stream.desk.Report.{Report}
use Rattle.at_engine.specs.declared.stream.desk.RunFault.{RunFault}
use Rattle.at_start.specs.Starts.{IsStarted, opening}
use Rattle.at_start.specs.Whole.{Answers, IsWithinMemory, MeansOutput, RunsFiles}
use Rattle.at_start.specs.declared.files.Files.{Files}
use Rattle.at_start.proofs.Served.{served_ran}
use Rattle.at_start.specs.declared.serving.Answered.{Answered}

-- all known bytes were read
read_whole : (input bytes : List ℕ) (left : Option (List ℕ)) → Consumes (Some input) left bytes → IsAtEnd left → bytes ≡ input
read_whole input bytes None read end = absurd read
read_whole input bytes (Some ys) read end = sym (read ∙ ap (λ l. bytes ++ l) end ∙ append-nil bytes)

-- all known bytes that were written are these
written_whole : (bytes : List ℕ) (after : Option (List ℕ)) → Appends (Some []) after bytes → after ≡ Some bytes
written_whole bytes None written = absurd written
written_whole bytes (Some ys) written = ap (λ l. Some l) written

-- where no want of memory is counted none was told
none_wanted : (told : List (Bool × Reply)) → wants told ≡ 0 → IsWithinMemory told
none_wanted [] none = tt
none_wanted ((false, reply) ∷ told) none =
    let less : wants told ≡ 0 = omega (arith, none) in (refl, none_wanted told less)
none_wanted ((true, reply) ∷ told) none = absurd (omega (arith, none))

pub whole : (files : Files) (slice : ℕ) (report : Report) (input : List ℕ) (left after : Option (List ℕ))
    → Answers files slice (Ok report) (Some input) left (Some []) after
    → (output : List ℕ) × (after ≡ Some output) × (m : MeansOutput files slice input output)
    × (report.memory ≡ 0 → IsWithinMemory m.told)
whole files slice report input left after a =
    let r = a.ran in
    let s = a.starts in
    let all : r.input ≡ input = read_whole input r.input left r.read r.ended in
    let from = subst (λ (x : State). Outputs a.rules slice x r.input r.told a.new) s.state_is r.outputs in (
      text_of r.told,
      written_whole (text_of r.told) after r.written,
      record {
        declarations = s.declarations;
        marks = s.marks;
        grammar = s.grammar;
        rules = a.rules;
        aspects = s.aspects;
        opened = s.opened;
        tree = s.tree;
        told = r.told;
        new = a.new;
        outputs = subst (λ (l : List ℕ). Outputs a.rules slice (opening files.nodes s.opened) l r.told a.new) all from;
        text = refl;
      },
      λ none. none_wanted r.told (sym r.memory ∙ none),
    )

-- the one engine is the other one with other settings
abbrev pub IsSet : {K : Type 0} → (made set : Engine K) → Type 0
IsSet made set = set ≡ record made { settings = set.settings }

-- settings that are set one after the other
pub set_again : {K : Type 0} (made mid set : Engine K) → IsSet made mid → IsSet mid set → IsSet made set
set_again {K} made mid set first second = second ∙ ap (λ (e : Engine K). record e { settings = set.settings }) first

-- what is kept is spare as it was, where no bound is set
pub spare_set : {K : Type 0} (entries : K → Entries) (made set : Engine K) → IsSet made set → most_of set ≡ None
    → IsSpare entries made → IsSpare entries set
spare_set {K} entries made set is none spare = record {
  unbounded = none;
  spare = subst (λ (e : Engine K). IsSpareWith e.rules (contents e.store) (entries e.demand.keeper) e.posts.items.items) (sym is) spare.spare;
}

-- the run over an engine that files make, with so many turns behind each line
pub answers_by : {K : Type 0} (files : Files) (slice : ℕ) (made set new : Engine K) (run : Result Report RunFault)
    (readable left before after : Option (List ℕ)) → IsSet made set → slice_of set ≡ slice → IsStarted files (rules_of made) (state_of made)
    → Ran max_reads run (rules_of set) (slice_of set) (state_of set) (state_of new) readable left before after
    → Answers files slice run readable left before after
answers_by {K} files slice made set new run readable left before after is turns started ran =
    let s = subst (λ (e : Engine K). IsStarted files (rules_of e) (state_of e)) (sym is) started in
    let by = subst (λ (n : ℕ). Ran max_reads run (rules_of set) n (state_of set) (state_of new) readable left before after) turns ran in record {
      rules = s.rules;
      old = state_of set;
      new = state_of new;
      starts = s.starts;
      ran = served_ran files.index s.rules (rules_of set) s.served s.well_formed s.classes slice max_reads run (state_of set) (state_of new)
          readable left before after s.stands by;
    }

-- so all that the run promises holds of it
pub runs_by : {K R W : Type 0} (entries : K → Entries) (memories : K → Memories)
    (remaining : R → Option (List ℕ)) (misread ending : R → Option Bool) (count : R → Option ℕ) (contents : W → Option (List ℕ))
    (failure : W → Option Bool) (waiting : W → Bool) (files : Files) (slice : ℕ) (most : Option ℕ) (gathers : Bool) (made set : Engine K)
    (reader left : R) (writer later : W)
    (answered : Answered K) → IsSet made set → slice_of set ≡ slice → most_of set ≡ most → IsStarted files (rules_of made) (state_of made)
    → IsSpare entries made → work_of made ≡ 0 → made_of made ≡ 0
    → RunsFor entries memories remaining misread ending count contents failure waiting max_reads gathers set
    answered.engine reader left writer later answered.run
    → RunsFiles entries memories remaining misread ending count contents failure waiting files slice most gathers
    reader left writer later answered
runs_by {K} entries memories remaining misread ending count contents failure waiting files slice most gathers made set
    reader left writer later answered is turns bound starts spare idle fresh runs = record {
      made = set;
      starts = subst (λ (e : Engine K). IsStarted files (rules_of e) (state_of e)) (sym is) starts;
      spare = λ none. spare_set entries made set is (bound ∙ none) spare;
      idle = ap work_of is ∙ idle;
      fresh = ap made_of is ∙ fresh;
      turns = turns;
      bound = bound;
      runs = runs;
    }
