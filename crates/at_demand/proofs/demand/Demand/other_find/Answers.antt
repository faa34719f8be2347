use Rattle.std.proofs.Common.{map, ap, sym, subst}
use Rattle.at_store.specs.Located.{loc_view}
use Rattle.at_demand.specs.declared.evaluation.Demanded.{Demanded}
use Rattle.at_demand.specs.Groups.{UsesFirst}
use Rattle.at_demand.proofs.demand.Demand.other_find.Goals as goal

pub returns : goal.returns
returns g c = record {
  value = c.find_with-find.ensures.is;
  reads = ap (map loc_view) c.find_with-find.ensures.reads;
  uses = subst (λ (d : Demanded). UsesFirst c.args.first.now c.args.place d) (sym c.find_with-find.ensures.demanded) c.in_ok-demanded.ensures;
}
