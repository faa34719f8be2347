use Rattle.std.specs.Map.{keys_of}
use Rattle.at_search.proofs.Seeing.{is_seen}
use Rattle.at_search.proofs.search.Search.has_seen.Goals as goal

pub returns : goal.returns
returns c = is_seen c.holds.result (keys_of c.args.self.now.seen.entries) c.args.inst.now c.holds.ensures
