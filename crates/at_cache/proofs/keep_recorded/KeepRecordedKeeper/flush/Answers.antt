use Rattle.at_cache.proofs.Common.{arith, true≢false, Answers, edges_to, remembered_cut}
use Rattle.at_cache.proofs.of_cut.Flushed.{flushes_traces, held_after, leaves_held, loses_held, spares_edit, tied_after, valued_after}
use Rattle.at_cache.proofs.of_cut.Shed.{flushes_then}
use Rattle.at_cache.proofs.of_cut.LetGo.{leaves_then, loses_then, spares_then}
use Rattle.at_cache.proofs.keep_recorded.KeepRecordedKeeper.flush.Goals as goal

pub invariant_of-self : goal.invariant_of-self
invariant_of-self g c =
    let says = Answers (goal.F-post g c.args.touched.now) in
    let k = c.let_go.new.self in
    let lists = edges_to k.readers in
    let t = c.take_away.ensures.takes in
    record {
      indexed = held_after says lists k.puts k.cut c.take_away.new.cut t k.indexed;
      tied = tied_after says lists k.puts k.cut c.take_away.new.cut t k.tied;
      valued = valued_after says lists k.puts k.cut c.take_away.new.cut t k.valued;
      noted = k.noted;
      sure = λ off. absurd (true≢false off);
    }

pub returns : goal.returns
returns g c =
    let says = Answers (goal.F-post g c.args.touched.now) in
    let old = c.args.self.now in
    let k = c.let_go.new.self in
    let lists = edges_to k.readers in
    let t = c.take_away.ensures.takes in
    let traces = flushes_traces says lists k.puts k.cut c.take_away.new.cut t in
    record {
      leaves = leaves_then says c.let_go.ensures.kept (leaves_held says lists k.puts k.cut c.take_away.new.cut t k.indexed);
      loses = loses_then says c.let_go.ensures.kept (loses_held says lists k.puts k.cut c.take_away.new.cut t k.indexed);
      traces = flushes_then says _ _ _ c.let_go.ensures.stay traces;
      spares = spares_then says (remembered_cut (edges_to old.readers) old.cut).crowded _ _ _ c.let_go.ensures.stay c.let_go.ensures.spares traces
          (spares_edit says lists k.puts k.cut c.take_away.new.cut t);
      fewer = omega (arith, c.take_away.ensures.len, c.let_go.ensures.fewer);
    }
