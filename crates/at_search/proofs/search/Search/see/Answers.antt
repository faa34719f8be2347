use Rattle.std.proofs.Common.{ap}
use Rattle.at_search.proofs.Seeing.{seen_more}
use Rattle.at_search.proofs.search.Search.see.Goals as goal

pub returns-clause-seen : goal.returns-clause-seen
returns-clause-seen c =
    seen_more c.put.result c.args.self.now.seen.entries c.lead.new.self.seen.entries c.put.new.map.entries c.args.inst
    (ap (λ m. m.entries) c.lead.ensures.seen) c.requires.fresh c.put.ensures
