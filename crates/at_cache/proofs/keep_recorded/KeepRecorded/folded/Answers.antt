use Rattle.at_cache.proofs.Common.{sym, true≢false, ◌∙◌, edges_to, memory_of}
use Rattle.at_cache.proofs.of_cut.Shed.{indexed_untraced, keeps_untraced, stay_untraced, there_untraced, tied_held, valued_untraced}
use Rattle.at_cache.proofs.keep_recorded.KeepRecorded.folded.Goals as goal

pub invariant_of-result : goal.invariant_of-result
invariant_of-result g c =
    let k = c.args.self in
    let ss = k.cut.standings.items in
    let ts = c.lose_traces.new.standings.items in
    let lists = edges_to c.fold.new.readers in
    let left = c.fold.new.entries in
    let lost = c.in_ok-lose_traces.ensures in
    let folds = c.in_ok-folds.ensures.held ss k.puts c.requires k.indexed in
    let indexed = indexed_untraced lists left ss ts k.puts lost folds.indexed in
    record {
      indexed = indexed;
      tied = tied_held lists ts (memory_of left) k.puts (there_untraced lists left ss ts k.puts lost folds.there) indexed;
      valued = valued_untraced lists left ss ts k.puts lost;
      noted = c.in_ok-folds.ensures.noted k.index_read.items k.noted;
      sure = λ off. absurd (true≢false off);
    }

pub returns : goal.returns
returns g c =
    let k = c.args.self in
    let ss = k.cut.standings.items in
    let ts = c.lose_traces.new.standings.items in
    let lists = edges_to c.fold.new.readers in
    let left = c.fold.new.entries in
    let lost = c.in_ok-lose_traces.ensures in
    let folds = c.in_ok-folds.ensures.held ss k.puts c.requires k.indexed in
    record {
      kept = λ i e h. folds.kept i e (sym (keeps_untraced lists left ss ts k.puts lost i) ∙ h);
      stay = stay_untraced lists left ss ts k.puts lost _;
    }
