use Rattle.at_class.specs.Table.{AreEntries}
use Rattle.at_class.proofs.entry.entries_of.Given as goal

abbrev pub invariant-loop-position : goal.invariant-loop-position
invariant-loop-position l = AreEntries l.classes l.entries.items l.position
