use Rattle.at_evict.proofs.of_folding.Gathering.{lone_fill}
use Rattle.at_evict.proofs.lone.no_numbers.Goals as goal

pub returns : goal.returns
returns c there into = lone_fill there into c.args.none _ _ _ _ c.new-numbers.ensures.items c.in_ok-resize.ensures.items
