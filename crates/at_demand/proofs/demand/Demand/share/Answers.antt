use Rattle.std.proofs.Common.{false, refl, sym}
use Rattle.at_evaluate.proofs.of_traces.Lazily.{told_lazy}
use Rattle.at_evaluate.proofs.Entered.{none_entered}
use Rattle.at_demand.proofs.Entering.{shares_none}
use Rattle.at_demand.proofs.of_traces.TurnsPut.{puts_same}
use Rattle.at_demand.proofs.demand.Demand.share.Goals as goal

pub enter-requires : goal.enter-requires
enter-requires g c = record {
  rests = record { kept = c.requires _ _ c.in-Some.ensures.value; finds = c.requires };
  absent = none_entered (g.K.Keeper.contents c.args.self.now.keeper c.in-Some.inst.now) c.stands.result
      c.stands.ensures c.if-stands.false;
  plain = told_lazy c.args.rules.now c.is_lazy.result false c.attribute.result c.in-Some.inst.now.attribute
      c.is_lazy.ensures c.attribute.ensures c.if-is_lazy.false;
  at = (c.args.position, sym c.in-Some.ensures.entry);
}

pub returns-then-is_lazy : goal.returns-then-is_lazy
returns-then-is_lazy g c = let old = g.K.Keeper.contents c.args.self.now.keeper in record { shares = shares_none c.args.rules.now c.args.found.now.entries old old (λ i. refl); work = refl; traces = puts_same (g.K.Keeper.memories c.args.self.now.keeper) }

pub returns-then-stands : goal.returns-then-stands
returns-then-stands g c = let old = g.K.Keeper.contents c.args.self.now.keeper in record { shares = shares_none c.args.rules.now c.args.found.now.entries old old (λ i. refl); work = refl; traces = puts_same (g.K.Keeper.memories c.args.self.now.keeper) }

pub returns-in_default : goal.returns-in_default
returns-in_default g c = let old = g.K.Keeper.contents c.args.self.now.keeper in record { shares = shares_none c.args.rules.now c.args.found.now.entries old old (λ i. refl); work = refl; traces = puts_same (g.K.Keeper.memories c.args.self.now.keeper) }

pub returns-in_err-enter : goal.returns-in_err-enter
returns-in_err-enter g c = record { shares = c.enter.ensures.shares; work = c.enter.ensures.work; traces = c.enter.ensures.traces }

pub returns : goal.returns
returns g c = record { shares = c.enter.ensures.shares; work = c.enter.ensures.work; traces = c.enter.ensures.traces }
