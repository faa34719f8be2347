use Rattle.std.proofs.Common.{arith}
use Rattle.at_complete.proofs.Walking.{beyond_at, again_at, new_at}
use Rattle.at_complete.proofs.walk.Walk.meet.Goals as goal

pub returns-then-place-len : goal.returns-then-place-len
returns-then-place-len c = beyond_at c.args.self.now.met.items c.args.self.now.pending.items c.index-place.result c.args.class c.index-place.ensures (omega (arith, c.if-place-len.true, c.len.ensures))

pub returns-then-index : goal.returns-then-index
returns-then-index c = again_at c.args.self.now.met.items c.args.self.now.pending.items c.index-place.result
    c.args.class _ _ c.index-place.ensures (omega (arith, c.if-place-len.false, c.len.ensures)) c.index.ensures
    c.if-index.true

pub returns : goal.returns
returns c = new_at c.args.self.now.met.items c.args.self.now.pending.items _ c.index-place.result c.args.class
    _ _ c.index-place.ensures (omega (arith, c.if-place-len.false, c.len.ensures)) c.index.ensures c.if-index.false
    c.in_ok-push.ensures.items
