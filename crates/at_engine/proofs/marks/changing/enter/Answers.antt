use Rattle.std.proofs.Common.{◌∙◌, ap}
use Rattle.indexmap.proofs.MapLemmas.{absent_from_lookup, insert_entry-absent}
use Rattle.at_engine.specs.Marks.{listed}
use Rattle.at_engine.specs.contracts.marks.KeyPartialEq.TheImpl.{ghosts}
use Rattle.at_engine.proofs.of_marks.Keys.{absent, listed_more}
use Rattle.at_engine.proofs.marks.changing.enter.Goals as goal

pub returns-clause-ok : goal.returns-clause-ok
returns-clause-ok c =
    let es = c.args.items.now.entries in
    ap listed (c.in_ok-insert.ensures.entries ∙ insert_entry-absent ghosts.eq c.args.key c.args.node es (absent_from_lookup (ghosts.eq c.args.key) es (absent c.args.key es c.requires))) ∙ listed_more es c.args.key c.args.node
