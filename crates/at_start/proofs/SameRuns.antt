-- Where two kinds of rules tell the same behind each line and in each turn, they do so in a run.
use Rattle.std.proofs.Common.{◌≡◌, ℕ, Bool, List, [], ◌∷◌, ◌++◌, Option, Result, Ok, Err}
use Rattle.at_model.specs.Rules.{Rules}
use Rattle.at_model.specs.Replies.{Reply}
use Rattle.at_model.specs.Machine.{State, Given, Outputs, Runs, Serves}
use Rattle.at_engine.specs.Loop.{Progress}
use Rattle.at_engine.specs.Running.{BrokeOff, CutOff, Ended, Ran, StopsIn, behind_line, at_the_end}
use Rattle.at_engine.specs.Taking.{EndsIn, in_line, in_turn}
use Rattle.at_engine.specs.declared.stream.desk.Report.{Report}
use Rattle.at_engine.specs.declared.stream.desk.RunFault.{RunFault}
use Rattle.at_engine.specs.declared.stream.desk.RunFault.TheVariants.{Read, Write, TooManyReads, Memory}

-- from a sound state on what the one rules tell the other ones tell, and the state behind it is sound
pub record TellTheSame (Sound : State → Type 0) (also rules : Rules) : Type 0 where
  pub serves : {old new : State} {line : List ℕ} {said : Bool × Reply} → Sound old → Serves also old line new said →
      Serves rules old line new said × Sound new
  pub given : {limit : ℕ} {old new : State} {told : List (Bool × Reply)} → Sound old → Given also limit old told new →
      Given rules limit old told new × Sound new
  pub runs : {slice : ℕ} {old new : State} {lines : List (List ℕ)} {told : List (Bool × Reply)} → Sound old →
      Runs also slice old lines told new → Runs rules slice old lines told new × Sound new

module _ (Sound : State → Type 0) (also rules : Rules) (same : TellTheSame Sound also rules) (slice : ℕ) where
  pub outputs : (old new : State) (bytes : List ℕ) (told : List (Bool × Reply)) → Sound old → Outputs also slice old bytes told new
      → Outputs rules slice old bytes told new
  outputs old new bytes told sound o =
      let by = same.runs sound o.runs in
      record { mid = o.mid; front = o.front; runs = by.0; turns = o.turns; back = o.back; drained = (same.given by.1 o.drained).0; none_open = o.none_open; whole = o.whole }

  progress : (old new : State) (front bytes rest : List ℕ) (told : List (Bool × Reply)) → Sound old
      → Progress also slice old front bytes told new rest → Progress rules slice old front bytes told new rest
  progress old new front bytes rest told sound p = record { fulls = p.fulls; splits = p.splits; open' = p.open'; runs = (same.runs sound p.runs).0; few = p.few }

  ends_in : (old new : State) (line : List ℕ) (told : List (Bool × Reply)) (said : Bool × Reply) → Sound old
      → EndsIn also slice old line new told said → EndsIn rules slice old line new told said
  ends_in old new line _ said sound (in_line serves) = in_line (same.serves sound serves).0
  ends_in old new line _ said sound (in_turn turns few serves given) =
      let by = same.serves sound serves in in_turn turns few by.0 (same.given by.1 given).0

  stops_in : (old new : State) (input : List ℕ) (left : Option (List ℕ)) (told : List (Bool × Reply)) (said : Bool × Reply) → Sound old
      → StopsIn also slice old input left new told said → StopsIn rules slice old input left new told said
  stops_in old new input left _ said sound (behind_line front told earlier last whole runs ends) =
      let by = same.runs sound runs in behind_line front told earlier last whole by.0 (ends_in _ new last told said by.1 ends)
  stops_in old new input left _ said sound (at_the_end front told turns at_end runs given) =
      let by = same.runs sound runs in at_the_end front told turns at_end by.0 (same.given by.1 given).0

  ended : (old new : State) (readable left before after : Option (List ℕ)) (report : Report) → Sound old
      → Ended also slice old new readable left before after report → Ended rules slice old new readable left before after report
  ended old new readable left before after report sound e = record {
    input = e.input;
    told = e.told;
    read = e.read;
    ended = e.ended;
    outputs = outputs old new e.input e.told sound e.outputs;
    written = e.written;
    counted = e.counted;
    accepted = e.accepted;
    memory = e.memory;
  }

  broke_off : (old new : State) (readable left before after : Option (List ℕ)) (reads : ℕ) → Sound old
      → BrokeOff also slice old new readable left before after reads → BrokeOff rules slice old new readable left before after reads
  broke_off old new readable left before after reads sound b = record {
    input = b.input;
    told = b.told;
    rest = b.rest;
    read = b.read;
    progress = progress old new [] b.input b.rest b.told sound b.progress;
    written = b.written;
    enough = b.enough;
  }

  cut_off : (old new : State) (readable left before after : Option (List ℕ)) → Sound old
      → CutOff also slice old new readable left before after → CutOff rules slice old new readable left before after
  cut_off old new readable left before after sound c = record {
    input = c.input;
    read = c.read;
    told = c.told;
    said = c.said;
    stops = stops_in old new c.input left c.told c.said sound c.stops;
    done = c.done;
    undone = c.undone;
    split = c.split;
    written = c.written;
  }

  -- and so what a run has done is said of both
  pub ran : (most : ℕ) (run : Result Report RunFault) (old new : State) (readable left before after : Option (List ℕ)) → Sound old
      → Ran most run also slice old new readable left before after → Ran most run rules slice old new readable left before after
  ran most (Ok report) old new readable left before after sound r = ended old new readable left before after report sound r
  ran most (Err Read) old new readable left before after sound r = broke_off old new readable left before after 0 sound r
  ran most (Err TooManyReads) old new readable left before after sound r = broke_off old new readable left before after most sound r
  ran most (Err Write) old new readable left before after sound r = cut_off old new readable left before after sound r
  ran most (Err Memory) old new readable left before after sound r = r
