-- How the connections of a socket ended.
use Rattle.std.specs.Prelude.{◌==◌, ℕ, ◌+◌, Bool, true, false, not, if◌then◌else◌, Result, Ok, Err}
use Rattle.at_engine.specs.declared.stream.desk.Report.{Report}
use Rattle.at_engine.specs.declared.stream.desk.RunFault.TheVariants as run
use Rattle.attrd.specs.declared.serving.Served.{Served}
use Rattle.attrd.specs.declared.serving.ConnectionFault.{ConnectionFault}
use Rattle.attrd.specs.declared.serving.ConnectionFault.TheVariants.{Socket, Run}

-- none ended
abbrev pub nobody : Served
nobody = record { ended = 0; read = 0; write = 0; reads = 0; memory = 0; socket = 0; lacking = 0 }

-- how many of them ended by a fault
abbrev pub faults : Served → ℕ
faults s = s.read + s.write + s.reads + s.memory + s.socket

-- whether something was answered `memory` to one of them, or that isn't known
abbrev pub lacks : Result Report ConnectionFault → Bool
lacks (Ok report) = not (report.memory == 0)
lacks (Err Socket) = false
lacks (Err (Run fault)) = true

-- one more ended so
abbrev pub counted : Result Report ConnectionFault → Served → Served
counted (Ok report) s = record s { ended = s.ended + 1; lacking = s.lacking + (if lacks (Ok report) then 1 else 0) }
counted (Err Socket) s = record s { ended = s.ended + 1; socket = s.socket + 1 }
counted (Err (Run run.Read)) s = record s { ended = s.ended + 1; read = s.read + 1 }
counted (Err (Run run.Write)) s = record s { ended = s.ended + 1; write = s.write + 1 }
counted (Err (Run run.TooManyReads)) s = record s { ended = s.ended + 1; reads = s.reads + 1 }
counted (Err (Run run.Memory)) s = record s { ended = s.ended + 1; memory = s.memory + 1 }

-- the same of all of them
abbrev pub lack : Served → Bool
lack s = not (s.read + s.write + s.reads + s.memory + s.lacking == 0)
