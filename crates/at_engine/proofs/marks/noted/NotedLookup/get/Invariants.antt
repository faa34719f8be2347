use Rattle.std.proofs.Common.{◌≡◌, drop}
use Rattle.std.specs.List.{find}
use Rattle.at_engine.specs.Marks.{is_named}
use Rattle.at_engine.proofs.marks.noted.NotedLookup.get.Given as goal

-- none of the marks before is it
abbrev pub invariant-loop-mark : goal.invariant-loop-mark
invariant-loop-mark l = find (is_named l.session l.name) l.fn.self.items.items ≡ find (is_named l.session l.name) (drop l.mark-index l.mark-items)
