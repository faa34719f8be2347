use Rattle.at_evict.proofs.Common.{IsLone}
use Rattle.at_evict.proofs.of_folding.Gathering.{each_set}
use Rattle.at_evict.proofs.lone.set_number.Goals as goal

pub returns-in-Some : goal.returns-in-Some
returns-in-Some c there into none one all s x is = each_set (IsLone there into none) c.args.numbers.now.items c.args.slot c.args.number s x one (all s x) is
