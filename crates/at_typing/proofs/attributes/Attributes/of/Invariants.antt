use Rattle.std.proofs.Common.{◌≡◌, ◌≤◌, length, take}
use Rattle.at_typing.specs.AttributeKeys.{attributes_in, AreAttributes}
use Rattle.at_typing.proofs.attributes.Attributes.of.Given as goal

abbrev pub invariant-loop-numbered : goal.invariant-loop-numbered
invariant-loop-numbered l = AreAttributes (take l.numbered-index l.declared) l.attributes × (l.count ≡ length (attributes_in (take l.numbered-index l.declared))) × (l.count ≤ l.numbered-index)
