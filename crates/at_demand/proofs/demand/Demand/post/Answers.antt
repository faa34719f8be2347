use Rattle.at_demand.proofs.of_steps.Posted.{posted_chain, posted_for, posted_search, posted_sparing, posted_stands}
use Rattle.at_demand.proofs.demand.Demand.post.Goals as goal

pub returns-clause-posted : goal.returns-clause-posted
returns-clause-posted g c =
    let e = c.new.ensures in posted_chain c.new.result c.args.inst e.waiting e.found e.passed e.ended e.inst e.level e.turns

pub returns-clause-search : goal.returns-clause-search
returns-clause-search g c = λ entries.
    let e = c.new.ensures in posted_search c.new.result c.args.inst e.waiting e.found e.passed e.ended e.inst e.level e.turns entries

pub returns-clause-stands : goal.returns-clause-stands
returns-clause-stands g c = λ entries rules s typed sound.
    let e = c.new.ensures in
    posted_for c.new.result c.args.inst e.waiting e.found e.passed e.ended e.inst e.level e.turns rules s typed entries sound

pub returns-clause-standing : goal.returns-clause-standing
returns-clause-standing g c = λ entries rules s typed.
    let e = c.new.ensures in
    posted_stands c.new.result c.args.inst e.waiting e.found e.passed e.ended e.inst e.level e.turns rules s typed entries

pub returns-clause-sparing : goal.returns-clause-sparing
returns-clause-sparing g c = λ entries rules look.
    let e = c.new.ensures in posted_sparing c.new.result c.args.inst e.waiting e.found e.passed e.ended e.inst e.level e.turns rules look entries
