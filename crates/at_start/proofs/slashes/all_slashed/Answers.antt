use Rattle.std.proofs.Common.{arith, map}
use Rattle.at_start.specs.SlashesView.{slashed_view}
use Rattle.at_start.proofs.Slashing.{none_slashed, one_looked}
use Rattle.at_start.proofs.slashes.all_slashed.Goals as goal

pub returns : goal.returns
returns c = none_slashed c.loop-i.at c.loop-i.more (map slashed_view c.loop-i.found.items) c.args.tokens.now c.loop-i.i _ (omega arith) c.loop-i.invariant

pub loop-i-preserved : goal.loop-i-preserved
loop-i-preserved c =
    one_looked c.args.tokens.now c.loop-i.i _ c.loop-i.at c.spot_behind-at.result c.loop-i.more c.in_ok-more.more
    (map slashed_view c.loop-i.found.items) (map slashed_view c.look.new.found.items) _
    (omega arith) c.spot_behind-at.ensures c.in_ok-more.ensures c.loop-i.invariant
