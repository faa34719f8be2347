use Rattle.std.proofs.Common.{◌≡◌, drop}
use Rattle.std.specs.List.{list_any}
use Rattle.at_engine.specs.Marks.{has_node, listed}
use Rattle.at_engine.proofs.marks.Marks.has_any.Given as goal

-- none of the nodes before is marked
abbrev pub invariant-loop-node : goal.invariant-loop-node
invariant-loop-node l = list_any (has_node (listed l.fn.self.items.entries)) l.fn.nodes ≡ list_any (has_node (listed l.fn.self.items.entries)) (drop l.node-index l.nodes)
