use Rattle.std.proofs.Common.{◌≡◌, drop}
use Rattle.std.specs.List.{list_any}
use Rattle.at_start.specs.Redeclaring.{is_again}
use Rattle.at_start.proofs.redeclared.Signature.is_declared_among.Given as goal

-- none before is such
abbrev pub invariant-loop-other : goal.invariant-loop-other
invariant-loop-other l = list_any (is_again l.classes l.self) l.among ≡ list_any (is_again l.classes l.self) (drop
    l.other-index l.among)
