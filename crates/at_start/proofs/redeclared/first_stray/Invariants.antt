use Rattle.std.proofs.Common.{◌≡◌, drop}
use Rattle.std.specs.List.{find}
use Rattle.at_start.specs.Redeclaring.{strays}
use Rattle.at_start.proofs.redeclared.first_stray.Given as goal

-- none before strays
abbrev pub invariant-loop-signature : goal.invariant-loop-signature
invariant-loop-signature l = find (strays l.classes l.among) l.among ≡ find (strays l.classes l.among) (drop
    l.signature-index l.among)
