use Rattle.at_demand.proofs.demand.Demand.first_fault_of.Goals as goal

pub returns : goal.returns
returns g c = λ look forms facts whole. c.first_fault.ensures.some look forms facts (rw (c.knowing.ensures.keeper, c.knowing.ensures.found) whole)
