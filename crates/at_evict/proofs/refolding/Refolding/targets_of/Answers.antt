use Rattle.at_evict.proofs.Common.{◌∙◌, sym, into_of, is_told}
use Rattle.at_evict.proofs.of_folding.Rerun.{targets_off, targets_on}
use Rattle.at_evict.proofs.refolding.Refolding.targets_of.Goals as goal

pub returns-then-not-is_current : goal.returns-then-not-is_current
returns-then-not-is_current c =
    sym (targets_off (is_told c.args.self.now) (into_of c.args.self.now) c.args.edge.now (sym c.is_current.ensures ∙ c.if-not-is_current.true))

pub returns : goal.returns
returns c =
    c.slots_at.ensures
    ∙ sym (targets_on (is_told c.args.self.now) (into_of c.args.self.now) c.args.edge.now (sym c.is_current.ensures ∙ c.if-not-is_current.false))
