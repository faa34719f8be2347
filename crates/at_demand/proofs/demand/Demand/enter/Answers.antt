use Rattle.std.proofs.Common.{ℕ, None, ap, map, refl, sym, subst}
use Rattle.at_store.specs.Located.{loc_view}
use Rattle.at_model.specs.Run.{Instance}
use Rattle.at_cache.specs.Kept.{AreKept, Puts}
use Rattle.at_demand.proofs.Entering.{shares_none, shares_put}
use Rattle.at_demand.proofs.of_traces.TurnsPut.{puts_one, puts_same}
use Rattle.at_demand.proofs.demand.Demand.enter.Goals as goal

pub put-requires-clause-present : goal.put-requires-clause-present
put-requires-clause-present g c =
    let old = g.K.Keeper.contents c.args.self.now.keeper in
    subst (AreKept old) (sym c.as_slice-uses.ensures.value) (c.in_ok-sources.ensures.kept c.requires.rests.finds c.requires.rests.kept)

pub returns-in_err-sources : goal.returns-in_err-sources
returns-in_err-sources g c =
    let old = g.K.Keeper.contents c.args.self.now.keeper in
    record { shares = shares_none c.args.rules.now c.args.found.now.entries old old (λ i. refl); work = refl; traces = puts_same (g.K.Keeper.memories c.args.self.now.keeper) }

pub returns-in_err-put : goal.returns-in_err-put
returns-in_err-put g c =
    let old = g.K.Keeper.contents c.args.self.now.keeper in
    record { shares = shares_none c.args.rules.now c.args.found.now.entries old (g.K.Keeper.contents c.put.new.self) c.in_err-put.ensures.err; work = refl; traces = puts_one _ _ _ _ _ (g.K.Keeper.memories c.args.self.now.keeper) (g.K.Keeper.memories c.put.new.self) c.put.ensures.traces c.put.ensures.spares }

pub returns : goal.returns
returns g c =
    let s = c.in_ok-sources.sources in
    let e = c.in_ok-sources.ensures in
    let old = g.K.Keeper.contents c.args.self.now.keeper in
    let new = g.K.Keeper.contents c.put.new.self in
    let reads = map loc_view c.as_slice-reads.result.now in
    let uses = c.as_slice-uses.result.now in
    record {
      shares = shares_put c.args.rules.now c.args.found.now.entries old new c.args.inst.now c.args.find.now s c.requires.at c.requires.absent c.requires.plain
          (record { gathered = e.gathered; from = e.only; kept = e.kept c.requires.rests.finds c.requires.rests.kept }) reads uses (ap (map loc_view) c.as_slice-reads.ensures) c.as_slice-uses.ensures.value (subst (λ (i : Instance ℕ). Puts old i None reads uses new) c.in_ok-copy.ensures c.in_ok-put.ensures.puts);
      work = refl;
      traces = puts_one _ _ _ _ _ (g.K.Keeper.memories c.args.self.now.keeper) (g.K.Keeper.memories c.put.new.self) c.put.ensures.traces c.put.ensures.spares;
    }
