use Rattle.at_cache.proofs.Telling.{value_other, value_told}
use Rattle.at_cache.proofs.table.Table.has_value.Goals as goal

pub returns-in-Some-clause-same : goal.returns-in-Some-clause-same
returns-in-Some-clause-same c on = value_told _ _ _ c.in-Some.ensures (c.are_same.ensures.same on)

pub returns-in-Some-clause-other : goal.returns-in-Some-clause-other
returns-in-Some-clause-other c off = value_other _ _ _ c.in-Some.ensures (c.are_same.ensures.other off)
