use Rattle.at_index.proofs.Common.{◌∙◌, ghosts}
use Rattle.indexmap.proofs.CallerLemmas.{insert_entry-new}
use Rattle.at_index.proofs.DeskEdges.{new_has, new_reads}
use Rattle.at_index.proofs.desk.add_desk.Goals as goal

pub returns-in-Ok : goal.returns-in-Ok
returns-in-Ok c =
    let old = c.args.desks.now.spots in
    let new = c.insert.new.self.entries in
    let so = c.in-Ok.ensures.entries ∙ insert_entry-new ghosts.eq old c.args.spot c.of.result c.requires in
    record {
      reads = λ tells n. new_reads n c.args.spot c.args.edge c.of.result c.of.ensures old.entries new so tells;
      has = λ n. new_has n c.args.spot c.args.edge c.of.result c.of.ensures old.entries new so;
    }
