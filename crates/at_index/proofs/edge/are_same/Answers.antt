use Rattle.at_index.proofs.SameRows.{same_all, same_more}
use Rattle.at_index.proofs.edge.are_same.Goals as goal

pub loop-place-preserved : goal.loop-place-preserved
loop-place-preserved c =
    same_more c.args.rows.now c.args.others.now c.loop-place.place _ c.ne.result c.loop-place-test.true c.if-rows-others.false
    c.ne.ensures c.if-ne.false c.loop-place.invariant

pub returns : goal.returns
returns c _ = same_all c.args.rows.now c.args.others.now c.loop-place.place c.if-rows-others.false c.loop-place-test.false c.loop-place.invariant
