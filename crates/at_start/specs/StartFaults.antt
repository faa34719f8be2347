-- What is printed of files that make no engine.
use Rattle.std.specs.Prelude.{ℕ, ◌-◌, ◌==◌, List, [], ◌++◌, decimal, codes, Option, Some, None, slice_get, string_bytes, if◌then◌else◌}
use Rattle.at_text.specs.declared.place.Place.{Place}
use Rattle.at_start.specs.Codes.{code_text}
use Rattle.at_start.specs.declared.files.Source.{Source}
use Rattle.at_start.specs.declared.files.Files.{Files}
use Rattle.at_start.specs.declared.fault.StartFault.{StartFault}
use Rattle.at_start.specs.declared.fault.StartFault.TheVariants.{Refused, Memory}
use Rattle.at_start.specs.declared.code.Code.{Code}
use Rattle.at_text.specs.declared.fault.Fault.{Fault}
use Rattle.at_text.specs.declared.fault.Fault.TheVariants as fault
use Rattle.at_text.specs.declared.fault.Failure.{Failure}
use Rattle.at_text.specs.declared.fault.Failure.TheVariants as failure

abbrev pub name_or : Source → Option Source → List ℕ
name_or other None = string_bytes other.name
name_or other (Some s) = string_bytes s.name

-- the name of the file of that number, in the order grammar, aspects, tree
abbrev pub file_name : Files → ℕ → List ℕ
file_name files file = if file == 0 then string_bytes files.grammar.name else name_or files.tree (slice_get files.aspects.items (file - 1))

abbrev pub place_text : Option Place → List ℕ
place_text None = []
place_text (Some at) = codes " at " ++ (decimal at.line ++ (codes ":" ++ decimal at.column))

abbrev pub refused_text : List ℕ → Code → Option Place → List ℕ
refused_text name code at = name ++ (codes ": " ++ (code_text code ++ place_text at))

abbrev pub fault_text : Files → StartFault → List ℕ
fault_text files (Refused file code at) = refused_text (file_name files file) code at
fault_text files Memory = codes "memory"

-- the fault of the grammar or of an aspect file, by its number
abbrev pub of_file : ℕ → Fault Code → StartFault
of_file n (fault.Refused code at) = Refused n code (Some at)
of_file n fault.Memory = Memory

-- the fault of the tree file, by its number
abbrev pub of_tree : ℕ → Failure Code → StartFault
of_tree n (failure.For code) = Refused n code None
of_tree n failure.Memory = Memory
