use Rattle.std.proofs.Common.{arith}
use Rattle.at_complete.proofs.Walking.{row_more, meets_none}
use Rattle.at_complete.proofs.walk.Walk.meet_all.Goals as goal

pub loop-class-init : goal.loop-class-init
loop-class-init c = meets_none c.args.self.now.met.items c.args.self.now.pending.items

pub loop-class-preserved : goal.loop-class-preserved
loop-class-preserved c = row_more c.args.classes.now c.loop-class.class-index c.class-item.result _ _ _ _ _ _ _ (omega arith) c.class-item.is c.loop-class.invariant c.in_ok-meet.ensures
