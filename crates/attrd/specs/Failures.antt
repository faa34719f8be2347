-- What the program says where it can't serve all: on standard error, without the newline at the end.
use Rattle.std.specs.Prelude.{ℕ, List, [], ◌∷◌, ◌++◌, ◌+◌, ◌==◌, if◌then◌else◌, codes, string_bytes}
use Rattle.at_engine.specs.RunFaults.{fault_text}
use Rattle.at_engine.specs.declared.stream.desk.RunFault.TheVariants as run
use Rattle.attrd.specs.Reasons.{line_behind}
use Rattle.attrd.specs.declared.failure.Failure.{Failure}
use Rattle.attrd.specs.declared.failure.Failure.TheVariants as failure
use Rattle.attrd.specs.declared.serving.ConnectionFault.{ConnectionFault}
use Rattle.attrd.specs.declared.serving.ConnectionFault.TheVariants.{Socket, Run}
use Rattle.attrd.specs.declared.serving.Served.{Served}

-- a fault of a connection
abbrev pub connection_fault_text : ConnectionFault → List ℕ
connection_fault_text Socket = codes "socket fault"
connection_fault_text (Run fault) = fault_text fault

-- the line of one kind of fault, by which so many connections ended, with a newline in front of it where some ended by the kinds before
abbrev pub fault_line : ℕ → ℕ → ConnectionFault → List ℕ
fault_line before ended fault =
    if ended == 0 then []
    else (if before == 0 then connection_fault_text fault else 10 ∷ connection_fault_text fault)

-- a line for each kind of fault by which connections ended
abbrev pub served_text : Served → List ℕ
served_text s =
    fault_line 0 s.read (Run run.Read)
    ++ fault_line s.read s.write (Run run.Write)
    ++ fault_line (s.read + s.write) s.reads (Run run.TooManyReads)
    ++ fault_line (s.read + s.write + s.reads) s.socket Socket
    ++ fault_line (s.read + s.write + s.reads + s.socket) s.memory (Run run.Memory)

-- what is said of a failure; of a file and of the socket the system's reason is the next line, where it is known
abbrev pub failure_text : Failure → List ℕ
failure_text (failure.Words text) = string_bytes text
failure_text (failure.Refused text) = string_bytes text
failure_text failure.NoText = codes "error: a word of the command line is no UTF-8"
failure_text (failure.File name reason) = string_bytes name ++ (codes ": read fault" ++ line_behind reason)
failure_text (failure.Socket reason) = codes "socket fault" ++ line_behind reason
failure_text (failure.Run fault) = fault_text fault
failure_text (failure.Connections served) = served_text served
failure_text failure.Memory = codes "memory"
