-- What is told by the rules by which questions are answered is told by those that files give.
use Rattle.std.proofs.Common.{◌≡◌, ℕ, Bool, true, false, List, Option, Result, subst}
use Rattle.at_model.specs.Classes.{AreSound}
use Rattle.at_model.specs.Rules.{Rules}
use Rattle.at_model.specs.WellFormed.{AreWellFormed}
use Rattle.at_model.specs.Machine.{State}
use Rattle.at_seek.specs.Standing.{Stands}
use Rattle.at_seek.proofs.SameMachine.{line_from, turns_from, lines_from}
use Rattle.at_engine.specs.Running.{Ran}
use Rattle.at_engine.specs.declared.stream.desk.Report.{Report}
use Rattle.at_engine.specs.declared.stream.desk.RunFault.{RunFault}
use Rattle.at_start.specs.Starts.{AreServed}
use Rattle.at_start.proofs.SameRuns.{TellTheSame, ran}

pub served_ran : (index : Bool) (rules also : Rules) → AreServed index rules also → AreWellFormed rules → AreSound rules.classes
    → (slice most : ℕ) (run : Result Report RunFault) (old new : State) (readable left before after : Option (List ℕ)) → Stands rules.classes old
    → Ran most run also slice old new readable left before after → Ran most run rules slice old new readable left before after
served_ran false rules also same well sound slice most run old new readable left before after stands r =
    subst (λ (by : Rules). Ran most run by slice old new readable left before after) same r
served_ran true rules also sought well sound slice most run old new readable left before after stands r =
    let same : TellTheSame (Stands rules.classes) also rules = record {
      serves = λ {old} {new} {line} {said} s serves. line_from rules also sought well sound old line new said s serves;
      given = λ {limit} {old} {new} {told} s given. turns_from rules also sought well sound limit old told new s given;
      runs = λ {slice} {old} {new} {lines} {told} s runs. lines_from rules also sought well sound slice old lines told new s runs;
    } in
    ran (Stands rules.classes) also rules same slice most run old new readable left before after stands r
