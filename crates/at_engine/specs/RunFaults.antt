-- What is printed of a run that broke off.
use Rattle.std.specs.Prelude.{ℕ, List, codes}
use Rattle.at_engine.specs.declared.stream.desk.RunFault.{RunFault}
use Rattle.at_engine.specs.declared.stream.desk.RunFault.TheVariants.{Read, Write, TooManyReads, Memory}

abbrev pub fault_text : RunFault → List ℕ
fault_text Read = codes "read fault"
fault_text Write = codes "write fault"
fault_text TooManyReads = codes "too many reads"
fault_text Memory = codes "memory"
