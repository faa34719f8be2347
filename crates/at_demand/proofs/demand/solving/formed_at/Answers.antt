use Rattle.std.proofs.Common.{length, sym}
use Rattle.std.proofs.lemmas.Bool.{ltb-true}
use Rattle.at_demand.proofs.Grouped.{formed_here, get_at}
use Rattle.at_demand.proofs.demand.solving.formed_at.Goals as goal

pub returns : goal.returns
returns c =
    let insts = c.args.insts.now in
    let i = c.in_ok-inst.inst.now in
    let at = c.in_ok-inst.ensures.lookup in
    let there = get_at insts c.args.position i (ltb-true c.args.position (length insts) (sym at.0)) at.1 in
    formed_here c.args.question.now.ended.entries insts c.args.position i c.formed_of.result there c.formed_of.ensures.is c.formed_of.ensures.none
