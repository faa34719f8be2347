use Rattle.at_complete.proofs.Children.{one_empty_more}
use Rattle.at_complete.proofs.hierarchy.empty_lists.Goals as goal

pub loop-position-preserved : goal.loop-position-preserved
loop-position-preserved c =
    let more = one_empty_more c.loop-position.lists.items c.push.new.self.items c.new.result c.loop-position.position
    c.in_ok-push.ensures.items c.new.ensures.items c.loop-position.invariant.count
    c.loop-position.invariant.empty in
    record { count = more.0; empty = more.1 }
