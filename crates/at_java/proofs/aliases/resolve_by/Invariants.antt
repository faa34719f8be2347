use Rattle.std.proofs.Common.{◌≡◌, List, length}
use Rattle.at_text.specs.Rows.{left}
use Rattle.at_java.specs.Aliases.{Alias, resolved_row}
use Rattle.at_java.specs.Noted.{AreNoted}
use Rattle.at_java.proofs.Resolved.{resolved_to}
use Rattle.at_java.proofs.aliases.resolve_by.Given as goal

abbrev pub invariant-loop-i : goal.invariant-loop-i
invariant-loop-i l = (length l.tokens ≡ length l.fn.tokens)
    × ((aliases : List Alias) → AreNoted aliases l.names
    → resolved_to aliases l.i l.tokens ≡ resolved_row aliases (left l.fn.tokens))
