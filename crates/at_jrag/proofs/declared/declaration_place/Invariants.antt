use Rattle.std.proofs.Common.{◌≡◌, length}
use Rattle.at_text.specs.Rows.{left}
use Rattle.at_jrag.specs.Faults.{last_from, last_declaration}
use Rattle.at_jrag.proofs.declared.declaration_place.Given as goal

abbrev pub invariant-loop-rest : goal.invariant-loop-rest
invariant-loop-rest l = last_from l.at (left l.rest) ≡ last_declaration (left l.fn.tokens)

abbrev pub decreases-loop-rest : goal.decreases-loop-rest
decreases-loop-rest l = length (left l.rest)
