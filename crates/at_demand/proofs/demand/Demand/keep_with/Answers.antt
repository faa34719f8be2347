use Rattle.std.proofs.Common.{ap, map, ◌∙◌, sym, subst}
use Rattle.std.proofs.lemmas.Result.{err_from_is_err_and}
use Rattle.at_store.specs.Located.{loc_view}
use Rattle.at_body.specs.Values.{value_view}
use Rattle.at_cache.specs.Kept.{AreKept}
use Rattle.at_evaluate.proofs.Counting.{counts_after, counts_shared}
use Rattle.at_evaluate.proofs.Entered.{absent}
use Rattle.at_demand.proofs.Putting.{put_as}
use Rattle.at_demand.proofs.Entering.{shares_none, shares_on}
use Rattle.at_demand.proofs.of_traces.TurnsPut.{puts_then}
use Rattle.at_demand.proofs.demand.Demand.keep_with.Goals as goal

pub put-requires-clause-present : goal.put-requires-clause-present
put-requires-clause-present g c = subst (AreKept (g.K.Keeper.contents c.gather.new.self.keeper)) (sym c.as_slice-2.ensures.value) c.in_ok-sources.ensures.sources.kept

pub put-requires-clause-absent : goal.put-requires-clause-absent
put-requires-clause-absent g c =
    let shares = c.gather.ensures.shares in
    absent c.args.rules.now (g.K.Keeper.contents c.gather.new.self.keeper) (shares.plain c.requires.keepable.plain) c.args.inst.now c.requires.lazy (shares.same c.args.inst.now ∙ c.requires.keepable.unkept)

pub returns-in_err-sources : goal.returns-in_err-sources
returns-in_err-sources g c =
    let is = (err_from_is_err_and c.from_residual.result c.from_residual.ensures.1).1 in
    let e = c.gather.ensures in
    let old = g.K.Keeper.contents c.args.self.now.keeper in
    let mid = g.K.Keeper.contents c.gather.new.self.keeper in
    record { placed = rw is tt; err = rw is e.shares; counts = counts_shared old mid c.args.self.now.work c.gather.new.self.work e.work c.args.self.now.few e.shares.stays e.shares.same; traces = c.gather.ensures.traces }

pub returns-in_err-put : goal.returns-in_err-put
returns-in_err-put g c =
    let is = (err_from_is_err_and c.from_residual-in_err-put.result c.from_residual-in_err-put.ensures.1).1 in
    let e = c.gather.ensures in
    let old = g.K.Keeper.contents c.args.self.now.keeper in
    let mid = g.K.Keeper.contents c.gather.new.self.keeper in
    let new = g.K.Keeper.contents c.put.new.self.keeper in
    record {
      placed = rw is tt;
      err = rw is (shares_on c.args.rules.now c.args.found.now.entries old mid new e.shares (shares_none c.args.rules.now c.args.found.now.entries mid new c.in_err-put.ensures.err));
      counts = counts_after old mid new c.args.self.now.work c.gather.new.self.work c.put.new.self.work e.work c.args.self.now.few e.shares.stays e.shares.same (c.put.ensures.counts);
      traces = puts_then (g.K.Keeper.memories c.args.self.now.keeper) (g.K.Keeper.memories c.gather.new.self.keeper) (g.K.Keeper.memories c.put.new.self.keeper) c.gather.ensures.traces c.put.ensures.traces;
    }

pub returns : goal.returns
returns g c =
    let f = c.args.find.now in
    let s = c.in_ok-sources.sources in
    let e = c.gather.ensures in
    let old = g.K.Keeper.contents c.args.self.now.keeper in
    let mid = g.K.Keeper.contents c.gather.new.self.keeper in
    let new = g.K.Keeper.contents c.put.new.self.keeper in
    let puts = put_as mid c.args.inst.now (value_view f.value) _ (map loc_view s.reads.items) _ s.kept.items new c.in_ok-put.ensures.puts (ap (map loc_view) c.as_slice.ensures) c.as_slice-2.ensures.value in
    record {
      placed = (mid, e.shares, s, c.in_ok-sources.ensures.sources, puts);
      err = tt;
      counts = counts_after old mid new c.args.self.now.work c.gather.new.self.work c.put.new.self.work e.work c.args.self.now.few e.shares.stays e.shares.same (c.put.ensures.counts);
      traces = puts_then (g.K.Keeper.memories c.args.self.now.keeper) (g.K.Keeper.memories c.gather.new.self.keeper) (g.K.Keeper.memories c.put.new.self.keeper) c.gather.ensures.traces c.put.ensures.traces;
    }

pub gather-requires : goal.gather-requires
gather-requires g c = c.requires.keepable.rests
