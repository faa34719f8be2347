use Rattle.std.proofs.Common.{arith}
use Rattle.at_class.specs.View.{part_view}
use Rattle.at_start.specs.Lists.{alias_of}
use Rattle.at_start.proofs.Listing.{one_part, no_part}
use Rattle.at_start.proofs.lists.append_aliases.Goals as goal

pub loop-part-preserved : goal.loop-part-preserved
loop-part-preserved c =
    one_part part_view (alias_of c.args.classes.now) c.args.parts.now c.loop-part.part-index c.part-item.result c.loop-part.all.items _ _ (omega arith)
    c.part-item.is c.in_ok-append_alias.ensures c.loop-part.invariant

pub returns : goal.returns
returns c = no_part part_view (alias_of c.args.classes.now) c.args.parts.now c.loop-part.part-index c.loop-part.all.items _ (omega arith) c.loop-part.invariant
