use Rattle.std.proofs.Common.{◌^◌, ◌-◌, arith}
use Rattle.at_demand.proofs.of_traces.TurnsPut.{since_then}
use Rattle.at_demand.proofs.demand.turning.made_since.Goals as goal

pub returns : goal.returns
returns c = since_then c.args.made c.args.before c.args.work c.saturating_add.result (2 ^ 64 - 1) (λ same. omega (arith, same))
    c.saturating_sub.result c.saturating_sub.ensures c.saturating_add.ensures
