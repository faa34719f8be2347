use Rattle.std.proofs.Common.{refl}
use Rattle.at_evaluate.proofs.Counting.{counted_more}
use Rattle.at_demand.proofs.demand.Demand.keep_again.Goals as goal

pub returns : goal.returns
returns g c =
    let (n, steps, counted) = c.settle-count.ensures.settled in
    record {
      kept = record {
        count = n;
        settled = steps;
        counts = counted_more c.args.self.now.work n c.settle-count.result c.saturating_add-self.result counted c.saturating_add-self.ensures;
        stay = c.settle-count.ensures.stay;
        alike = c.settle-count.ensures.alike;
      };
      made = refl;
    }
