use Rattle.at_complete.proofs.Walking.{some_at, none_at}
use Rattle.at_complete.proofs.walk.Walk.meet_some.Goals as goal

pub returns-in_default : goal.returns-in_default
returns-in_default c = none_at c.args.class c.args.self.now.met.items c.args.self.now.pending.items c.in_default.is

pub returns : goal.returns
returns c = some_at c.args.class c.in-Some.class _ _ _ _ c.in-Some.is c.in_ok-meet.ensures
