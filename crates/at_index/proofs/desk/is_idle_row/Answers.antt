use Rattle.at_index.proofs.Common.{◌∙◌, sym, edges_of}
use Rattle.at_index.proofs.Listing.{keeps_itself}
use Rattle.at_index.proofs.RowLists.{keeps_rest, keeps_then}
use Rattle.at_index.proofs.desk.is_idle_row.Goals as goal

pub loop-edge-init : goal.loop-edge-init
loop-edge-init g c = keeps_itself _ _

pub loop-edge-preserved : goal.loop-edge-preserved
loop-edge-preserved g c = keeps_then c.loop-edge.invariant (keeps_rest c.in-Some.edge (edges_of c.in-Some.others) c.in-Some.ensures (sym c.tells_of.ensures ∙ c.if-tells_of.false))
