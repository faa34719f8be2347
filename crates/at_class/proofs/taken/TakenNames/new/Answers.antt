use Rattle.at_class.proofs.Taking.{none_taken}
use Rattle.at_class.proofs.taken.TakenNames.new.Goals as goal

pub returns : goal.returns
returns c = none_taken (record { names = c.new.result; accessors = c.new-2.result }) c.new.ensures.empty c.new-2.ensures.empty
