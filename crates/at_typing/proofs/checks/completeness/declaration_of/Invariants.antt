use Rattle.std.proofs.Common.{◌≡◌, ◌≤◌, length, take}
use Rattle.at_typing.specs.AttributeKeys.{attributes_in}
use Rattle.at_typing.proofs.checks.completeness.declaration_of.Given as goal

abbrev pub invariant-loop-numbered : goal.invariant-loop-numbered
invariant-loop-numbered l = (l.position ≡ length (attributes_in (take l.numbered-index l.declared))) × (l.position ≤ l.numbered-index) × (l.position ≤ l.attribute)
