use Rattle.std.proofs.Common.{map, true, false, sym, ap, ◌∙◌, subst}
use Rattle.std.proofs.lemmas.Result.{err_from_is_err_and}
use Rattle.at_store.specs.Located.{loc_view}
use Rattle.at_body.specs.Values.{value_view}
use Rattle.at_cache.specs.Kept.{AreKept}
use Rattle.at_evaluate.proofs.Entered.{absent, all_entered}
use Rattle.at_evaluate.proofs.of_traces.Lazily.{told_lazy}
use Rattle.at_demand.proofs.Putting.{keeps_failed, keeps_found, left_out, none_below, placed_alone, placed_with, put_as, unplaced, unplaced_with, valued, valued_with}
use Rattle.at_demand.proofs.of_traces.TurnsPut.{puts_same}
use Rattle.at_demand.proofs.demand.Demand.keep.Goals as goal

pub keep_with-requires : goal.keep_with-requires
keep_with-requires g c = record {
  lazy = told_lazy c.args.rules.now c.is_lazy.result true c.attribute.result c.args.inst.now.attribute c.is_lazy.ensures
      c.attribute.ensures c.if-not-is_lazy.false;
  keepable = c.requires;
}

pub put-requires-clause-present : goal.put-requires-clause-present
put-requires-clause-present g c =
    let old = g.K.Keeper.contents c.args.self.now.keeper in
    subst (AreKept old) (sym c.as_slice-kept.ensures.value)
    (all_entered old c.args.find.now.demanded.kept.items c.requires.rests.kept)

pub put-requires-clause-absent : goal.put-requires-clause-absent
put-requires-clause-absent g c =
    let rules = c.args.rules.now in
    let i = c.args.inst.now in
    let lazy = told_lazy rules c.is_lazy.result true c.attribute.result i.attribute c.is_lazy.ensures c.attribute.ensures
    c.if-not-is_lazy.false in
    absent rules (g.K.Keeper.contents c.args.self.now.keeper) c.requires.plain i lazy c.requires.unkept

pub returns-then-not-is_lazy : goal.returns-then-not-is_lazy
returns-then-not-is_lazy g c = record {
  keeps =
      let rules = c.args.rules.now in
      let i = c.args.inst.now in
      let other = told_lazy rules c.is_lazy.result false c.attribute.result i.attribute c.is_lazy.ensures c.attribute.ensures
      c.if-not-is_lazy.true in
      left_out rules (g.K.Keeper.contents c.args.self.now.keeper) c.args.self.now.work
      c.args.found.now.entries i c.args.find.now other c.requires.plain c.args.self.now.few;
  traces = puts_same (g.K.Keeper.memories c.args.self.now.keeper);
}

pub returns-in_err-put : goal.returns-in_err-put
returns-in_err-put g c = record {
  keeps =
      let rules = c.args.rules.now in
      let old = g.K.Keeper.contents c.args.self.now.keeper in
      let new = g.K.Keeper.contents c.put.new.self.keeper in
      let found = c.args.found.now.entries in
      let i = c.args.inst.now in
      let f = c.args.find.now in
      let lazy = told_lazy rules c.is_lazy.result true c.attribute.result i.attribute c.is_lazy.ensures c.attribute.ensures
      c.if-not-is_lazy.false in
      let is = (err_from_is_err_and c.from_residual.result c.from_residual.ensures.1).1 in
      rw is (keeps_failed rules old found i f new c.args.self.now.work c.put.new.self.work lazy c.requires.plain
      (unplaced rules old found i f new c.in_err-put.ensures.err) c.put.ensures.counts _);
  traces = c.put.ensures.traces;
}

pub returns-then-is_empty : goal.returns-then-is_empty
returns-then-is_empty g c = record {
  keeps =
      let rules = c.args.rules.now in
      let old = g.K.Keeper.contents c.args.self.now.keeper in
      let new = g.K.Keeper.contents c.put.new.self.keeper in
      let found = c.args.found.now.entries in
      let i = c.args.inst.now in
      let f = c.args.find.now in
      let lazy = told_lazy rules c.is_lazy.result true c.attribute.result i.attribute c.is_lazy.ensures c.attribute.ensures
      c.if-not-is_lazy.false in
      let puts = put_as old i (value_view f.value) _ (map loc_view f.reads.items) _ f.demanded.kept.items new c.in_ok-put.ensures.puts
      (ap (map loc_view) c.as_slice-reads.ensures) c.as_slice-kept.ensures.value in
      keeps_found rules old found i f new c.args.self.now.work c.put.new.self.work lazy c.requires.plain
      (placed_alone rules old found i f new (absent rules old c.requires.plain i lazy c.requires.unkept)
      (none_below f.demanded.finds (sym c.is_empty.ensures ∙ c.if-is_empty.true))
      (all_entered old f.demanded.kept.items c.requires.rests.kept) puts) c.put.ensures.counts
      (valued rules old found i f new old (map loc_view f.reads.items) f.demanded.kept.items puts);
  traces = c.put.ensures.traces;
}

pub returns-in_err-keep_with : goal.returns-in_err-keep_with
returns-in_err-keep_with g c = record {
  keeps =
      let rules = c.args.rules.now in
      let old = g.K.Keeper.contents c.args.self.now.keeper in
      let new = g.K.Keeper.contents c.keep_with.new.self.keeper in
      let found = c.args.found.now.entries in
      let i = c.args.inst.now in
      let f = c.args.find.now in
      let lazy = told_lazy rules c.is_lazy.result true c.attribute.result i.attribute c.is_lazy.ensures c.attribute.ensures
      c.if-not-is_lazy.false in
      let is = (err_from_is_err_and c.from_residual-in_err-keep_with.result c.from_residual-in_err-keep_with.ensures.1).1 in
      rw is (keeps_failed rules old found i f new c.args.self.now.work c.keep_with.new.self.work lazy c.requires.plain
      (unplaced_with rules old found i f new c.in_err-keep_with.ensures.err) c.keep_with.ensures.counts _);
  traces = c.keep_with.ensures.traces;
}

pub returns : goal.returns
returns g c = record {
  keeps =
      let rules = c.args.rules.now in
      let old = g.K.Keeper.contents c.args.self.now.keeper in
      let new = g.K.Keeper.contents c.keep_with.new.self.keeper in
      let found = c.args.found.now.entries in
      let i = c.args.inst.now in
      let f = c.args.find.now in
      let lazy = told_lazy rules c.is_lazy.result true c.attribute.result i.attribute c.is_lazy.ensures c.attribute.ensures
      c.if-not-is_lazy.false in
      keeps_found rules old found i f new c.args.self.now.work c.keep_with.new.self.work lazy c.requires.plain
      (placed_with rules old found i f new
      (λ mid shares. absent rules mid (shares.plain c.requires.plain) i lazy (shares.same i ∙ c.requires.unkept))
      c.in_ok-keep_with.ensures.placed) c.keep_with.ensures.counts
      (valued_with rules old found i f new c.in_ok-keep_with.ensures.placed);
  traces = c.keep_with.ensures.traces;
}
