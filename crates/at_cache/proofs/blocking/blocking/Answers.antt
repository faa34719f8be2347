use Rattle.at_cache.proofs.of_cut.InTheWay.{leads_itself, leads_on}
use Rattle.at_cache.proofs.blocking.blocking.Goals as goal

pub loop-init : goal.loop-init
loop-init c = leads_itself c.args.entries.now c.args.standings.now c.args.slot

pub loop-preserved : goal.loop-preserved
loop-preserved c =
    leads_on c.args.entries.now c.args.standings.now c.args.slot c.loop.last c.in-Some.next
    c.loop.invariant c.in-Some.ensures

pub returns : goal.returns
returns c = c.loop.invariant

pub returns-in-None : goal.returns-in-None
returns-in-None c = c.loop.invariant
