use Rattle.std.proofs.Common.{refl, ◌∙◌}
use Rattle.at_body.specs.Values.{value_view}
use Rattle.at_demand.proofs.of_levels.Resolving.{none_waits, rise_none, risen_value}
use Rattle.at_demand.proofs.demand.Demand.rise.Goals as goal

pub returns-clause-risen : goal.returns-clause-risen
returns-clause-risen g c =
    let old = c.args.question.now in
    let new = c.rise.new.self in
    let v = c.in_ok-ok_or.field-0 in
    let same = rise_none old new c.rise.result c.is_some.result c.rise.ensures c.is_some.ensures c.if-is_some.false in
    record {
      entries = refl;
      traces = refl;
      work = refl;
      risen = (
        none_waits old new c.rise.result c.is_some.result c.rise.ensures c.is_some.ensures c.if-is_some.false,
        same,
        value_view v,
        risen_value (g.K.Keeper.contents c.args.self.now.keeper) old new c.in_ok-root.root c.in_ok-value.value v same (c.in_ok-root.ensures ∙ c.root.ensures)
            c.in_ok-value.ensures c.in_ok-ok_or.ensures.ok_part,
        refl,
      );
    }
