use Rattle.at_class.proofs.Numbered.{intervals_tell}
use Rattle.at_class.proofs.intervals.intervals_of.Goals as goal

pub returns : goal.returns
returns c = intervals_tell _ _ _ _ _ c.loop-number.invariant.0
