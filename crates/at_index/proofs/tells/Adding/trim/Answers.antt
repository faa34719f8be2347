use Rattle.at_index.proofs.Common.{◌∙◌, sym}
use Rattle.at_index.proofs.of_runs.Reaching.{holds_popped, holds_then}
use Rattle.at_index.proofs.of_runs.Seats.{popped}
use Rattle.at_index.proofs.tells.Adding.trim.Goals as goal

pub loop-reach-preserved : goal.loop-reach-preserved
loop-reach-preserved g c =
    let l = c.loop-reach in
    let x = c.in-Some.reach.now in
    holds_then l.invariant (holds_popped x
    (popped l.edges.items c.pop.new.self.items _ x l.edges.ok.0 c.pop.ensures.rest (rw c.deref.ensures.value at c.in-Some.ensures.value))
    (sym c.tells_of.ensures ∙ c.if-tells_of.false))
