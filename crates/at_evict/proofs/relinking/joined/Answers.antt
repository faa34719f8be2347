use Rattle.at_evict.proofs.of_folding.Distinct.{linked_once}
use Rattle.at_evict.proofs.relinking.joined.Goals as goal

pub returns : goal.returns
returns c e there = linked_once e.links c.args.links.now _ _ _ c.in_ok-list.ensures.ok (c.in_ok-add_own.ensures e there) c.make_distinct.ensures
