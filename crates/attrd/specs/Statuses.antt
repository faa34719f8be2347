-- With which status the program ends where it can't serve all: 1 for a file that is refused, 2 for the command line, 3 for a
-- file, a socket or a stream that fails, 4 where memory ran out.
use Rattle.std.specs.Prelude.{ℕ}
use Rattle.at_engine.specs.declared.stream.desk.RunFault.{RunFault}
use Rattle.at_engine.specs.declared.stream.desk.RunFault.TheVariants as run
use Rattle.attrd.specs.declared.failure.Failure.{Failure}
use Rattle.attrd.specs.declared.failure.Failure.TheVariants.{Words, NoText, File, Refused, Socket, Run, Connections, Memory}

abbrev pub run_status : RunFault → ℕ
run_status run.Read = 3
run_status run.Write = 3
run_status run.TooManyReads = 3
run_status run.Memory = 4

abbrev pub status_of : Failure → ℕ
status_of (Refused text) = 1
status_of (Words text) = 2
status_of NoText = 2
status_of (File name reason) = 3
status_of (Socket reason) = 3
status_of (Run fault) = run_status fault
status_of (Connections served) = 3
status_of Memory = 4
