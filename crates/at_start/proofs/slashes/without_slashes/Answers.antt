use Rattle.std.proofs.Common.{subst, sym}
use Rattle.std.specs.List.{All}
use Rattle.std.specs.Str.{IsCharBoundary}
use Rattle.at_start.specs.declared.slashes.Slashed.{Slashed}
use Rattle.at_start.proofs.Slashing.{found_named}
use Rattle.at_start.proofs.slashes.without_slashes.Goals as goal

pub marks_of-requires : goal.marks_of-requires
marks_of-requires c =
    subst (All (λ (s : Slashed). IsCharBoundary c.args.text.now s.name.start)) (sym c.deref-2.ensures.value)
    (found_named (IsCharBoundary c.args.text.now) c.args.tokens.now c.in_ok-found.found.items c.requires c.in_ok-found.ensures)
