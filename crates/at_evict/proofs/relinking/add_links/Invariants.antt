use Rattle.at_evict.proofs.Common.{take, Linked, slots_at}
use Rattle.at_evict.proofs.relinking.add_links.Given as goal

abbrev pub invariant-loop-slot : goal.invariant-loop-slot
invariant-loop-slot l = Linked (slots_at l.plan) (take l.slot-index l.links) l.initial.list.items l.list.items
