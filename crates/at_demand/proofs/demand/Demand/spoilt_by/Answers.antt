use Rattle.at_demand.proofs.of_levels.Resolving.{met_at}
use Rattle.at_demand.proofs.demand.Demand.spoilt_by.Goals as goal

pub returns : goal.returns
returns g c = λ look forms facts whole.
    met_at look forms c.args.inst.now c.in_ok-fault.fault c.in_ok-ok_or.field-0 c.in_ok-ok_or.ensures.ok_part (c.in_ok-fault.ensures look forms facts whole)
