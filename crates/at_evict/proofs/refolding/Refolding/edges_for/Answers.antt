use Rattle.at_evict.proofs.Common.{◌∙◌, [], refl, sym}
use Rattle.at_evict.proofs.of_folding.Single.{refolded_stale, refolded_to}
use Rattle.at_evict.proofs.refolding.Refolding.edges_for.Goals as goal

pub returns-then-not-is_current : goal.returns-then-not-is_current
returns-then-not-is_current c = refolded_stale _ _ c.args.edge [] (sym c.is_current.ensures ∙ c.if-not-is_current.true) refl

pub returns-in-Some : goal.returns-in-Some
returns-in-Some c =
    refolded_to _ _ c.args.edge c.in-Some.slot c.edges_to.result
    (sym c.is_current.ensures ∙ c.if-not-is_current.false) (sym c.slots_at.ensures ∙ c.in-Some.ensures) c.edges_to.ensures
