-- What the loop over lines has done with the bytes that came.
use Rattle.std.specs.Prelude.{◌≡◌, ◌⊎◌, ℕ, ◌+◌, ◌≤◌, ◌<◌, Bool, true, List, [], ◌∷◌, ◌++◌, length, filter, if◌then◌else◌, Option, None, Some, Result, Ok, Err}
use Rattle.std.specs.Io.KnownBytes.{Appends}
use Rattle.at_engine.specs.declared.stream.desk.RunFault.{RunFault}
use Rattle.at_engine.specs.declared.stream.desk.RunFault.TheVariants as fault
use Rattle.at_model.specs.Rules.{Rules}
use Rattle.at_model.specs.Lines.{is_filled}
use Rattle.at_model.specs.Replies.{Reply, reply_text}
use Rattle.at_model.specs.Machine.{State, Given, Runs, Serves, text_of}
use Rattle.at_engine.specs.declared.stream.desk.Desk.{Desk}
use Rattle.at_engine.specs.Loop.{Progress, kept}
use Rattle.at_engine.specs.Turning.{IsWithin}

-- the text was written; or a call failed, and some front of it was written
abbrev pub Written : Result (Unit {0}) RunFault → Option (List ℕ) → Option (List ℕ) → List ℕ → Type 0
Written (Ok u) before after text = Appends before after text
Written (Err e) before after text = (e ≡ fault.Write) × (done : List ℕ) × (undone : List ℕ) × (text ≡ done ++ undone) × Appends before after done

-- the lines and the want of memory that were counted, and one for each question that is open
abbrev pub countable : Desk → State → ℕ
countable desk s = desk.lines + desk.memory + length s.posted

-- how much of what is told is for want of memory
abbrev pub wants : List (Bool × Reply) → ℕ
wants [] = 0
wants (x ∷ xs) = (if x.0 then 1 else 0) + wants xs

-- the counts of lines and of want of memory have grown by these
pub record Counts (old new : Desk) (lines : ℕ) (told : List (Bool × Reply)) : Type 0 where
  pub lines' : new.lines ≡ old.lines + lines
  pub memory : new.memory ≡ old.memory + wants told

-- So many turns were given, or fewer where no question is open, and what they told was written.
pub record Gives (rules : Rules) (limit : ℕ) (old new : State) (desk next : Desk) (before after : Option (List ℕ)) : Type 0 where
  pub told : List (Bool × Reply)
  pub given : Given rules limit old told new
  pub counts : Counts desk next 0 told
  pub written : Appends before after (text_of told)

-- At most so many turns were given, but the answer that the last one gave could not be written whole.
pub record GivesInPart (rules : Rules) (limit : ℕ) (old new : State) (before after : Option (List ℕ)) : Type 0 where
  pub turns : ℕ
  pub within : turns ≤ limit
  pub told : List (Bool × Reply)
  pub said : Bool × Reply
  pub given : Given rules turns old (told ++ said ∷ []) new
  pub done : List ℕ
  pub undone : List ℕ
  pub split : reply_text said.1 ≡ done ++ undone
  pub written : Appends before after (text_of told ++ done)

-- So many turns are left of those that there may be, and fewer than there were; or, where there is no limit, fewer questions are open,
-- if one was.
abbrev pub AreLeft : (limit : Option ℕ) → (turns left : ℕ) → State → State → Type 0
AreLeft None turns left old new = (old.posted ≡ []) ⊎ (length new.posted < length old.posted)
AreLeft (Some limit) turns left old new = (left < limit) × (turns + left ≡ limit)

-- all of the turns were given but those that are left
pub record GivesSome (rules : Rules) (limit : Option ℕ) (left : ℕ) (old new : State) (desk next : Desk) (before after : Option (List ℕ)) : Type 0 where
  pub turns : ℕ
  pub gives : Gives rules turns old new desk next before after
  pub are_left : AreLeft limit turns left old new

-- so it was, or in part
abbrev pub LeavesTurns : Result ℕ RunFault → Rules → (limit : Option ℕ) → State → State → Desk → Desk → Option (List ℕ) → Option (List ℕ) → Type 0
LeavesTurns (Ok left) rules limit old new desk next before after = GivesSome rules limit left old new desk next before after
LeavesTurns (Err e) rules limit old new desk next before after =
    (e ≡ fault.Write) × (n : ℕ) × IsWithin limit n × GivesInPart rules n old new before after

-- all of the turns were given
abbrev pub GivesTurns : Result (Unit {0}) RunFault → Rules → (limit : ℕ) → State → State → Desk → Desk → Option (List ℕ) → Option (List ℕ) → Type 0
GivesTurns (Ok u) rules limit old new desk next before after = Gives rules limit old new desk next before after
GivesTurns (Err e) rules limit old new desk next before after = (e ≡ fault.Write) × GivesInPart rules limit old new before after

-- All of the bytes were taken: what was written answers the whole lines and the questions that were answered behind them, and of
-- the next line its front is kept.
pub record Takes (rules : Rules) (slice : ℕ) (old : State) (front bytes : List ℕ) (new : State) (desk next : Desk)
    (before after : Option (List ℕ)) : Type 0 where
  pub told : List (Bool × Reply)
  pub rest : List ℕ
  pub progress : Progress rules slice old front bytes told new rest
  pub line : next.line.items ≡ kept rest
  pub written : Appends before after (text_of told)
  pub counts : Counts desk next (length (filter is_filled progress.fulls)) told

-- what was told last: the reply to the line, or the answer to a question that one of so many turns behind it gave
pub data EndsIn (rules : Rules) (slice : ℕ) (old : State) (line : List ℕ) (new : State) : List (Bool × Reply) → Bool × Reply → Type 0 where
  in_line : {said : Bool × Reply} → Serves rules old line new said → EndsIn rules slice old line new [] said
  in_turn : {mid : State} {first said : Bool × Reply} {told : List (Bool × Reply)} (turns : ℕ) → turns ≤ slice → Serves rules old line mid first
      → Given rules turns mid (told ++ said ∷ []) new →
      EndsIn rules slice old line new (first ∷ told) said

-- What was told last behind a line could not be written: some front of it was, or all where the flush failed.
pub record Halts (rules : Rules) (slice : ℕ) (old : State) (line : List ℕ) (new : State) (before after : Option (List ℕ)) : Type 0 where
  pub told : List (Bool × Reply)
  pub said : Bool × Reply
  pub ends : EndsIn rules slice old line new told said
  pub done : List ℕ
  pub undone : List ℕ
  pub split : reply_text said.1 ≡ done ++ undone
  pub written : Appends before after (text_of told ++ done)

-- A line was served, and turns were given behind it.
pub record Served (rules : Rules) (slice : ℕ) (old : State) (line : List ℕ) (new : State) (desk next : Desk) (before after : Option (List ℕ)) : Type 0 where
  pub mid : State
  pub said : Bool × Reply
  pub serves : Serves rules old line mid said
  pub told : List (Bool × Reply)
  pub given : Given rules slice mid told new
  pub counts : Counts desk next 1 (said ∷ told)
  pub written : Appends before after (text_of (said ∷ told))

-- so it was, or what was told last could not be written whole
abbrev pub ServedOrHalts : Result (Unit {0}) RunFault → Rules → ℕ → State → List ℕ → State → Desk → Desk → Option (List ℕ) → Option (List ℕ) → Type 0
ServedOrHalts (Ok u) rules slice old line new desk next before after = Served rules slice old line new desk next before after
ServedOrHalts (Err e) rules slice old line new desk next before after = (e ≡ fault.Write) × Halts rules slice old line new before after

-- What was told behind a line whose newline came could not be written whole. What was told before that was written.
pub record Stops (rules : Rules) (slice : ℕ) (old : State) (front bytes : List ℕ) (new : State) (before after : Option (List ℕ)) : Type 0 where
  pub used : List ℕ
  pub more : List ℕ
  pub split : bytes ≡ used ++ 10 ∷ more
  pub told : List (Bool × Reply)
  pub mid : State
  pub line : List ℕ
  pub progress : Progress rules slice old front used told mid line
  pub between : Option (List ℕ)
  pub written : Appends before between (text_of told)
  pub filled : is_filled line ≡ true
  pub halts : Halts rules slice mid line new between after

-- the bytes were taken, or what was told could not be written
abbrev pub TakesOrStops : Result (Unit {0}) RunFault → Rules → ℕ → State → List ℕ → List ℕ → State → Desk → Desk → Option (List ℕ) → Option (List ℕ) → Type 0
TakesOrStops (Ok u) rules slice old front bytes new desk next before after = Takes rules slice old front bytes new desk next before after
TakesOrStops (Err e) rules slice old front bytes new desk next before after = (e ≡ fault.Write) × Stops rules slice old front bytes new before after

-- Turns were given until no question is open, and what they told was written.
pub record Drained (rules : Rules) (old new : State) (desk next : Desk) (before after : Option (List ℕ)) : Type 0 where
  pub turns : ℕ
  pub gives : Gives rules turns old new desk next before after
  pub none_open : new.posted ≡ []

-- so it was, or in part
abbrev pub Drains : Result (Unit {0}) RunFault → Rules → State → State → Desk → Desk → Option (List ℕ) → Option (List ℕ) → Type 0
Drains (Ok u) rules old new desk next before after = Drained rules old new desk next before after
Drains (Err e) rules old new desk next before after = (e ≡ fault.Write) × (limit : ℕ) × GivesInPart rules limit old new before after

-- The last line, which no newline ends, was served unless it is empty, and turns were given until no question is open.
pub record Finished (rules : Rules) (slice : ℕ) (old : State) (front : List ℕ) (new : State) (desk next : Desk) (before after : Option (List ℕ)) : Type 0 where
  pub mid : State
  pub told : List (Bool × Reply)
  pub runs : Runs rules slice old (filter is_filled (front ∷ [])) told mid
  pub turns : ℕ
  pub back : List (Bool × Reply)
  pub given : Given rules turns mid back new
  pub none_open : new.posted ≡ []
  pub counts : Counts desk next (length (filter is_filled (front ∷ []))) (told ++ back)
  pub written : Appends before after (text_of (told ++ back))

-- What was told last could not be written: behind the last line, or by the turns behind that.
pub data FinishStops (rules : Rules) (slice : ℕ) (old : State) (front : List ℕ) (new : State) (before after : Option (List ℕ)) : Type 0 where
  in_last : is_filled front ≡ true → Halts rules slice old front new before after → FinishStops rules slice old front new before after
  behind_last : {mid : State} {told : List (Bool × Reply)} {between : Option (List ℕ)} → Runs rules slice old (filter is_filled (front ∷ [])) told mid
      → Appends before between (text_of told) →
      (limit : ℕ) → GivesInPart rules limit mid new between after → FinishStops rules slice old front new before after

abbrev pub Finishes : Result (Unit {0}) RunFault → Rules → ℕ → State → List ℕ → State → Desk → Desk → Option (List ℕ) → Option (List ℕ) → Type 0
Finishes (Ok u) rules slice old front new desk next before after = Finished rules slice old front new desk next before after
Finishes (Err e) rules slice old front new desk next before after = (e ≡ fault.Write) × FinishStops rules slice old front new before after
