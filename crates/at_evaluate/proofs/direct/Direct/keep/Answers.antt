use Rattle.std.proofs.Common.{refl, rules}
use Rattle.at_body.specs.Values.{value_view}
use Rattle.at_evaluate.specs.Inner.{known_by}
use Rattle.at_store.specs.Shown.{contents}
use Rattle.at_evaluate.proofs.of_nesting.Grown.{grown_kept, grown_none, grown_unkept}
use Rattle.at_evaluate.proofs.of_nesting.InnerGains.{put_kept, taken, told_kept}
use Rattle.at_evaluate.proofs.of_nesting.Remembered.{kept_now}
use Rattle.at_evaluate.proofs.direct.Direct.keep.Goals as goal

pub put-requires-clause-present : goal.put-requires-clause-present
put-requires-clause-present g c =
    let entries = g.K.Keeper.contents c.args.keeper.now in
    taken c.args.basis.now.rules.now c.args.basis.now.store.now c.args.needed entries entries
    c.args.self.now.found.entries (value_view c.args.value.now) c.args.below.now.reads
    c.args.below.now.uses.items c.requires.evaluated.held.known c.requires.evaluated.own c.requires.evaluated.come

pub put-requires-clause-anew : goal.put-requires-clause-anew
put-requires-clause-anew g c = c.has_trace.ensures c.if-has_trace.false c.requires.absent

pub returns-then-has_trace : goal.returns-then-has_trace
returns-then-has_trace g c = record {
  told = search rules;
  grown = grown_none c.args.basis.now.rules.now c.args.basis.now.store.now c.args.needed _
      c.args.self.now.few c.requires.evaluated.held;
}

pub returns-in_err-put : goal.returns-in_err-put
returns-in_err-put g c = record {
  told = search rules;
  grown = grown_unkept c.args.basis.now.idle c.requires.evaluated c.put.ensures.found c.as_slice.ensures.value
      c.order_of-order.result c.order_of-order.ensures (g.K.Keeper.kept_last c.put.new.keeper) c.put.ensures.traces
      c.put.ensures.counts c.put.ensures.makes c.in_err-put.ensures.err;
}

pub returns-in_err-push : goal.returns-in_err-push
returns-in_err-push g c = record {
  told = search rules;
  grown = grown_kept c.args.basis.now.idle c.requires.evaluated c.put.ensures.found c.as_slice.ensures.value
      c.order_of-order.result c.order_of-order.ensures (g.K.Keeper.kept_last c.put.new.keeper) c.put.ensures.traces
      c.put.ensures.counts c.put.ensures.makes c.requires.absent c.in_ok-put.ensures.puts;
}

pub returns : goal.returns
returns g c = record {
  told =
      let entries = g.K.Keeper.contents c.args.keeper.now in
      let new = g.K.Keeper.contents c.put.new.keeper in
      let old = c.args.level.now in
      let v = value_view c.args.value.now in
      told_kept c.args.basis.now.rules.now (contents c.args.basis.now.store.now)
      (known_by new c.put.new.self.found.entries) old (record {
        reads = old.reads;
        uses = c.push.new.self;
      }) c.args.needed v
      (kept_now new c.put.new.self.found.entries c.args.needed v
      (put_kept entries new c.args.needed v c.args.below.now.reads c.args.below.now.uses.items c.in_ok-put.ensures.puts)) refl
      c.in_ok-push.ensures.items;
  grown = grown_kept c.args.basis.now.idle c.requires.evaluated c.put.ensures.found c.as_slice.ensures.value
      c.order_of-order.result c.order_of-order.ensures (g.K.Keeper.kept_last c.put.new.keeper) c.put.ensures.traces
      c.put.ensures.counts c.put.ensures.makes c.requires.absent c.in_ok-put.ensures.puts;
}
