-- Why the system refuses a file or a socket: which of its numbers tell what, and the text of each.
use Rattle.std.specs.Prelude.{ℕ, ℤ, pos, List, [], ◌∷◌, Option, None, Some, codes, int_lt, unsigned_abs, if◌then◌else◌, ◌==◌}
use Rattle.attrd.specs.declared.reason.Reason.{Reason}
use Rattle.attrd.specs.declared.reason.Reason.TheVariants.{NotPermitted, NotFound, InputOutput, NoDevice, PermissionDenied, NotADirectory, IsADirectory, InvalidArgument, TooManyInSystem, TooManyOpen, NoSpace, ReadOnly, NameTooLong, TooManyLinks, FamilyNotSupported, AddressInUse}

-- the numbers of Linux
abbrev pub reason_numbers : List (ℕ × Reason)
reason_numbers =
    (1, NotPermitted) ∷ (2, NotFound) ∷ (5, InputOutput) ∷ (6, NoDevice) ∷ (13, PermissionDenied) ∷ (20, NotADirectory) ∷ (21, IsADirectory)
    ∷ (22, InvalidArgument) ∷ (23, TooManyInSystem) ∷ (24, TooManyOpen) ∷ (28, NoSpace) ∷ (30, ReadOnly) ∷ (36, NameTooLong)
    ∷ (40, TooManyLinks) ∷ (97, FamilyNotSupported) ∷ (98, AddressInUse) ∷ []

abbrev pub reason_in : List (ℕ × Reason) → ℕ → Option Reason
reason_in [] number = None
reason_in (row ∷ rows) number = if number == row.0 then Some row.1 else reason_in rows number

-- the reason of an error with that number of the system's, if it has one
abbrev pub reason_of : Option ℤ → Option Reason
reason_of None = None
reason_of (Some number) = if int_lt number (pos 0) then None else reason_in reason_numbers (unsigned_abs number)

abbrev pub reason_text : Reason → List ℕ
reason_text NotPermitted = codes "Operation not permitted"
reason_text NotFound = codes "No such file or directory"
reason_text InputOutput = codes "Input/output error"
reason_text NoDevice = codes "No such device or address"
reason_text PermissionDenied = codes "Permission denied"
reason_text NotADirectory = codes "Not a directory"
reason_text IsADirectory = codes "Is a directory"
reason_text InvalidArgument = codes "Invalid argument"
reason_text TooManyInSystem = codes "Too many open files in system"
reason_text TooManyOpen = codes "Too many open files"
reason_text NoSpace = codes "No space left on device"
reason_text ReadOnly = codes "Read-only file system"
reason_text NameTooLong = codes "File name too long"
reason_text TooManyLinks = codes "Too many levels of symbolic links"
reason_text FamilyNotSupported = codes "Address family not supported by protocol"
reason_text AddressInUse = codes "Address already in use"

-- the reason on a line of its own behind a fault, where it is known
abbrev pub line_behind : Option Reason → List ℕ
line_behind None = []
line_behind (Some reason) = 10 ∷ reason_text reason
