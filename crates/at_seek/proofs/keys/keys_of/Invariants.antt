use Rattle.std.proofs.Common.{◌≡◌, length}
use Rattle.at_seek.specs.Finding.{AreKeys}
use Rattle.at_seek.proofs.keys.keys_of.Given as goal

abbrev pub invariant-loop-position : goal.invariant-loop-position
invariant-loop-position l = (length l.keys.items ≡ l.position) × AreKeys l.rules l.keys.items
