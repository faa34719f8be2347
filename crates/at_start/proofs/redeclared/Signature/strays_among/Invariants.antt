use Rattle.std.proofs.Common.{◌≡◌, drop}
use Rattle.std.specs.List.{list_any}
use Rattle.at_start.specs.Redeclaring.{strays_from}
use Rattle.at_start.proofs.redeclared.Signature.strays_among.Given as goal

-- none before is such
abbrev pub invariant-loop-other : goal.invariant-loop-other
invariant-loop-other l = list_any (strays_from l.classes l.self) l.among ≡ list_any (strays_from l.classes l.self)
    (drop l.other-index l.among)
