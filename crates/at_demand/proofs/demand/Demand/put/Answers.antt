use Rattle.std.proofs.Common.{ℕ, Some, map, refl, subst}
use Rattle.std.proofs.lemmas.Result.{err_from_is_err_and}
use Rattle.at_model.specs.Run.{Instance, Value}
use Rattle.at_store.specs.Located.{loc_view}
use Rattle.at_body.specs.Values.{value_view}
use Rattle.at_cache.specs.Kept.{Puts}
use Rattle.at_evaluate.proofs.Counting.{counts_none, counts_put, counts_same}
use Rattle.at_demand.proofs.of_traces.TurnsPut.{puts_one, puts_same}
use Rattle.at_demand.proofs.demand.Demand.put.Goals as goal

pub returns : goal.returns
returns g c =
    let old = g.K.Keeper.contents c.args.self.now.keeper in
    let new = g.K.Keeper.contents c.put.new.self in
    let reads = map loc_view c.args.reads.now in
    let puts = subst (λ (v : Value ℕ). Puts old c.args.inst.now (Some v) reads c.args.uses.now new) c.in_ok-copy-2.ensures (subst (λ (i : Instance ℕ). Puts old i (Some (value_view c.in_ok-copy-2.field-0)) reads c.args.uses.now new) c.in_ok-copy.ensures c.in_ok-put.ensures.puts) in
    record {
      puts = puts;
      err = tt;
      counts = counts_put old new c.args.inst.now _ reads c.args.uses.now c.args.self.now.work c.saturating_add-self.result c.requires.absent puts c.saturating_add-self.ensures;
      traces = puts_one _ _ _ _ _ (g.K.Keeper.memories c.args.self.now.keeper) (g.K.Keeper.memories c.put.new.self) c.put.ensures.traces c.put.ensures.spares;
    }

pub returns-in_err-put : goal.returns-in_err-put
returns-in_err-put g c =
    let is = (err_from_is_err_and c.from_residual-in_err-put.result c.from_residual-in_err-put.ensures.1).1 in
    record { puts = rw is tt; err = rw is c.in_err-put.ensures.err; counts = counts_same (g.K.Keeper.contents c.args.self.now.keeper) (g.K.Keeper.contents c.put.new.self) c.args.self.now.work c.args.self.now.few c.in_err-put.ensures.err; traces = puts_one _ _ _ _ _ (g.K.Keeper.memories c.args.self.now.keeper) (g.K.Keeper.memories c.put.new.self) c.put.ensures.traces c.put.ensures.spares }

pub returns-in_err-copy : goal.returns-in_err-copy
returns-in_err-copy g c =
    let is = (err_from_is_err_and c.from_residual.result c.from_residual.ensures.1).1 in
    record { puts = rw is tt; err = rw is (λ i. refl); counts = counts_none (g.K.Keeper.contents c.args.self.now.keeper) c.args.self.now.work c.args.self.now.few; traces = puts_same (g.K.Keeper.memories c.args.self.now.keeper) }

pub returns-in_err-copy-2 : goal.returns-in_err-copy-2
returns-in_err-copy-2 g c =
    let is = (err_from_is_err_and c.from_residual-in_err-copy-2.result c.from_residual-in_err-copy-2.ensures.1).1 in
    record { puts = rw is tt; err = rw is (λ i. refl); counts = counts_none (g.K.Keeper.contents c.args.self.now.keeper) c.args.self.now.work c.args.self.now.few; traces = puts_same (g.K.Keeper.memories c.args.self.now.keeper) }
