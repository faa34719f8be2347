use Rattle.at_cache.proofs.Common.{◌∙◌, sym}
use Rattle.at_cache.proofs.of_cut.Passing.{over_other, over_trace}
use Rattle.at_cache.proofs.forgetting.lose_trace.Goals as goal

pub returns-then-is_current : goal.returns-then-is_current
returns-then-is_current c first = over_trace c.args.edge.now c.args.cut.now first c.take_trace.new.standings (sym c.is_current.ensures ∙ c.if-is_current.true)
    c.take_trace.ensures.taken c.take_trace.ensures.room c.take_trace.ensures.count

pub returns-else-is_current : goal.returns-else-is_current
returns-else-is_current c first = over_other c.args.edge.now c.args.cut.now first (sym c.is_current.ensures ∙ c.if-is_current.false)
