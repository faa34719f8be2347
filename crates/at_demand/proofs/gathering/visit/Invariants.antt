use Rattle.std.proofs.Common.{take}
use Rattle.at_demand.specs.Covering.{Visits}
use Rattle.at_demand.specs.Only.{VisitsOnly}
use Rattle.at_demand.proofs.gathering.visit.Given as goal

abbrev pub invariant-loop-position : goal.invariant-loop-position
invariant-loop-position l = record {
  all : Visits (take l.position-index l.positions) l.initial.visited.keys l.visited.keys;
  only : VisitsOnly (take l.position-index l.positions) l.initial.visited.keys l.visited.keys;
}
