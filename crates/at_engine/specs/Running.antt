-- What a run has done at its end.
use Rattle.std.specs.Prelude.{◌≡◌, ◌⊎◌, ℕ, ◌-◌, ◌≤◌, ⊤, Bool, true, false, List, [], ◌∷◌, ◌++◌, length, filter, Option, Result, Ok, Err, IfOk}
use Rattle.std.specs.Io.KnownBytes.{Appends, Consumes, IsAtEnd}
use Rattle.at_model.specs.Lines.{lines, pieces, is_filled}
use Rattle.at_model.specs.Rules.{Rules}
use Rattle.at_model.specs.Replies.{Reply, reply_text}
use Rattle.at_model.specs.Machine.{State, Given, Runs, Outputs, text_of}
use Rattle.at_rules.specs.Circular.{HasNoneCircular}
use Rattle.at_cache.specs.Kept.{Entries}
use Rattle.at_cache.specs.Traced.{Memories}
use Rattle.at_engine.specs.Engines.{rules_of, slice_of, settings_of, state_of, IsSound}
use Rattle.at_engine.specs.Making.{WentOn}
use Rattle.at_engine.specs.Keeping.{IsSpare, work_of}
use Rattle.at_engine.specs.KeepingRuns.{KeepsRun}
use Rattle.at_engine.specs.declared.engine.Engine.{Engine}
use Rattle.at_engine.specs.declared.stream.desk.Report.{Report}
use Rattle.at_engine.specs.declared.stream.desk.RunFault.{RunFault}
use Rattle.at_engine.specs.declared.stream.desk.RunFault.TheVariants.{Read, Write, TooManyReads, Memory}
use Rattle.at_engine.specs.Ends.{Counted, Remembers}
use Rattle.at_engine.specs.Going.{SendsEach}
use Rattle.at_engine.specs.Loop.{Progress}
use Rattle.at_engine.specs.Stepping.{GoesBy, edits_in}
use Rattle.at_engine.specs.Taking.{EndsIn, wants}

-- The reader came to its end. What was written is the output of the bytes that it gave, with so many turns behind each line and
-- then turns until no question is open; and the engine is in the state that they leave.
pub record Ended (rules : Rules) (slice : ℕ) (old new : State) (readable left before after : Option (List ℕ)) (report : Report) : Type 0 where
  pub input : List ℕ
  pub told : List (Bool × Reply)
  pub read : Consumes readable left input
  pub ended : IsAtEnd left
  pub outputs : Outputs rules slice old input told new
  pub written : Appends before after (text_of told)
  pub counted : report.lines ≡ length (lines input)
  pub accepted : report.accepted ≡ new.version - old.version
  pub memory : report.memory ≡ wants told

-- The run broke off between two reads. What was written is the whole output of the lines that were complete, and the
-- engine is in the state that they leave.
pub record BrokeOff (rules : Rules) (slice : ℕ) (old new : State) (readable left before after : Option (List ℕ)) (reads : ℕ) : Type 0 where
  pub input : List ℕ
  pub told : List (Bool × Reply)
  pub rest : List ℕ
  pub read : Consumes readable left input
  pub progress : Progress rules slice old [] input told new rest
  pub written : Appends before after (text_of told)
  pub enough : reads ≤ length input

-- The lines are whole ones of the input: each stands before a newline, or they are all and the reader came to its end.
pub data AreWhole (input : List ℕ) (left : Option (List ℕ)) (served : List (List ℕ)) : Type 0 where
  before_newlines : (fulls : List (List ℕ)) (next : List ℕ) (others : List (List ℕ)) → pieces input ≡ fulls ++ next ∷ others → served ≡ filter is_filled fulls
      → AreWhole input left served
  up_to_end : IsAtEnd left → served ≡ lines input → AreWhole input left served

-- what was told before the last, and what was told last: behind one of the lines, or, at the end of the reader, by the turns
-- behind all lines
pub data StopsIn (rules : Rules) (slice : ℕ) (old : State) (input : List ℕ) (left : Option (List ℕ)) (new : State) : List (Bool × Reply) → Bool × Reply
    → Type 0 where
  behind_line : {mid : State} {said : Bool × Reply} (front told : List (Bool × Reply)) (earlier : List (List ℕ)) (last : List ℕ)
      → AreWhole input left (earlier ++ last ∷ []) → Runs rules slice old earlier front mid →
      EndsIn rules slice mid last new told said → StopsIn rules slice old input left new (front ++ told) said
  at_the_end : {mid : State} {said : Bool × Reply} (front told : List (Bool × Reply)) (turns : ℕ) → IsAtEnd left
      → Runs rules slice old (lines input) front mid →
      Given rules turns mid (told ++ said ∷ []) new → StopsIn rules slice old input left new (front ++ told) said

-- A reply or an answer could not be written whole. What was written is all that was told before it, and some front of it, or all
-- of it where the flush failed. The engine is in the state after its line or its turn.
pub record CutOff (rules : Rules) (slice : ℕ) (old new : State) (readable left before after : Option (List ℕ)) : Type 0 where
  pub input : List ℕ
  pub read : Consumes readable left input
  pub told : List (Bool × Reply)
  pub said : Bool × Reply
  pub stops : StopsIn rules slice old input left new told said
  pub done : List ℕ
  pub undone : List ℕ
  pub split : reply_text said.1 ≡ done ++ undone
  pub written : Appends before after (text_of told ++ done)

-- nothing was read or written
pub record NeverBegan (old new : State) (readable left before after : Option (List ℕ)) : Type 0 where
  pub state : new ≡ old
  pub read : left ≡ readable
  pub written : after ≡ before

abbrev pub Failed : (most_reads : ℕ) → RunFault → Rules → ℕ → State → State → Option (List ℕ) → Option (List ℕ) → Option (List ℕ) → Option (List ℕ) → Type 0
Failed most_reads Read rules slice old new readable left before after = BrokeOff rules slice old new readable left before after 0
Failed most_reads TooManyReads rules slice old new readable left before after = BrokeOff rules slice old new readable left before after most_reads
Failed most_reads Write rules slice old new readable left before after = CutOff rules slice old new readable left before after
Failed most_reads Memory rules slice old new readable left before after = NeverBegan old new readable left before after

-- what a run of at most so many reads has done, by what it answers
abbrev pub Ran : (most_reads : ℕ) → Result Report RunFault → Rules → (slice : ℕ) → State → State → Option (List ℕ) → Option (List ℕ) → Option (List ℕ)
    → Option (List ℕ) → Type 0
Ran most_reads (Ok report) rules slice old new readable left before after = Ended rules slice old new readable left before after report
Ran most_reads (Err fault) rules slice old new readable left before after = Failed most_reads fault rules slice old new readable left before after

-- how many reads `run` may take
abbrev pub max_reads : ℕ
max_reads = 1000000000

-- whether a read failed in the run, by what it answers
abbrev pub read_fails : Result Report RunFault → Bool
read_fails (Ok report) = false
read_fails (Err Read) = true
read_fails (Err Write) = false
read_fails (Err TooManyReads) = false
read_fails (Err Memory) = false

-- whether a write or a flush failed in it, or a write took no byte
abbrev pub write_fails : Result Report RunFault → Bool
write_fails (Ok report) = false
write_fails (Err Read) = false
write_fails (Err Write) = true
write_fails (Err TooManyReads) = false
write_fails (Err Memory) = false

-- where it is known whether calls of the reader and the writer failed, the run answers `Read` just where one of the reader
-- did in it, and `Write` just where one of the writer did
abbrev pub TellsFailures : Result Report RunFault → (reader_old reader_new writer_old writer_new : Option Bool) → Type 0
TellsFailures result reader_old reader_new writer_old writer_new = Remembers reader_old reader_new (read_fails result)
    × Remembers writer_old writer_new (write_fails result)

-- how many reads there may be by what a run answers that may make so many: no more, all where there are too many, and none where
-- it never began
abbrev pub AreReads : (most_reads : ℕ) → Result Report RunFault → (reads : ℕ) → Type 0
AreReads most_reads (Ok report) reads = reads ≤ most_reads
AreReads most_reads (Err Read) reads = reads ≤ most_reads
AreReads most_reads (Err Write) reads = reads ≤ most_reads
AreReads most_reads (Err TooManyReads) reads = reads ≡ most_reads
AreReads most_reads (Err Memory) reads = reads ≡ 0

-- where it is known how many reads there were, the run made so many more
abbrev pub MakesReads : (most_reads : ℕ) → Result Report RunFault → (before after : Option ℕ) → Type 0
MakesReads most_reads result before after = (reads : ℕ) × AreReads most_reads result reads × Counted before after reads

-- where it is known whether a read brought no byte, which is the end, one did in a run that answers a report, and none in one that
-- answers a fault; but of a run in which a write failed nothing is said
abbrev pub TellsEnd : Result Report RunFault → (before after : Option Bool) → Type 0
TellsEnd (Ok report) before after = Remembers before after true
TellsEnd (Err Read) before after = Remembers before after false
TellsEnd (Err Write) before after = ⊤
TellsEnd (Err TooManyReads) before after = Remembers before after false
TellsEnd (Err Memory) before after = Remembers before after false

-- unless a write failed, all that was written is sent on, where nothing waited before
abbrev pub SendsAll : Result Report RunFault → (waited waits : Bool) → Type 0
SendsAll result waited waits = write_fails result ≡ false → waited ≡ false → waits ≡ false

-- a report tells that nothing was answered `memory`; or no attribute is circular
abbrev pub KeepsWhole : Rules → Result Report RunFault → Type 0
KeepsWhole rules (Ok report) = HasNoneCircular rules ⊎ (report.memory ≡ 0)
KeepsWhole rules (Err fault) = HasNoneCircular rules

-- What a run of at most so many reads promises, by what is known of the reader and of the writer: what it has done, which of its
-- calls failed, what the engine has gone through, what is kept, and that nothing but questions, turns and the edits of its lines led to what
-- can be kept again. Where it doesn't gather replies each is sent on before the next line.
pub record RunsFor {K R W : Type 0} (entries : K → Entries) (memories : K → Memories)
    (remaining : R → Option (List ℕ)) (misread ending : R → Option Bool)
    (count : R → Option ℕ) (contents : W → Option (List ℕ)) (failure : W → Option Bool) (waiting : W → Bool) (most_reads : ℕ)
    (gathers : Bool) (old new : Engine K) (reader left : R) (writer later : W) (result : Result Report RunFault) : Type 0 where
  pub ran : Ran most_reads result (rules_of old) (slice_of old) (state_of old) (state_of new) (remaining reader) (remaining left)
      (contents writer) (contents later)
  pub failed : TellsFailures result (misread reader) (misread left) (failure writer) (failure later)
  pub reads : MakesReads most_reads result (count reader) (count left)
  pub ended : TellsEnd result (ending reader) (ending left)
  pub sent : SendsAll result (waiting writer) (waiting later)
  pub each : gathers ≡ false → write_fails result ≡ false → SendsEach entries memories contents failure waiting old writer new later
  pub by : GoesBy entries memories old new
  pub keeps : IsSpare entries old → IfOk result (λ report. report.memory ≡ 0 → KeepsRun entries old new (remaining reader) (remaining left))
  pub work : IfOk result (λ report. report.work ≡ work_of new)
  pub spare : KeepsWhole (rules_of old) result → IsSpare entries old → IsSpare entries new
  pub rules : rules_of new ≡ rules_of old
  pub settings : settings_of new ≡ settings_of old
  pub went : WentOn entries memories (edits_in entries memories old new by) old new
  pub sound : IsSound entries memories new
