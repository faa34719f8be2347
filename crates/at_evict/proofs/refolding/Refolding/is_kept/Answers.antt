use Rattle.at_evict.proofs.Common.{◌∙◌, inr, refl, into_of, is_told}
use Rattle.at_evict.proofs.of_folding.Gathering.{alone_end, alone_more}
use Rattle.at_evict.proofs.refolding.Refolding.is_kept.Goals as goal

pub loop-edge-init : goal.loop-edge-init
loop-edge-init c = record { alone = λ x d. inr d; slots = refl }

pub loop-edge-preserved : goal.loop-edge-preserved
loop-edge-preserved c =
    let f = c.args.self.now in
    let one = c.has.ensures (is_told f) (into_of f) f.alone c.if-not-has.false in
    record {
      alone = alone_more _ _ _ _ _ c.in-Some.edge c.in-Some.ensures one c.loop-edge.invariant.alone;
      slots = c.note.ensures ∙ c.loop-edge.invariant.slots;
    }

pub returns-clause-alone : goal.returns-clause-alone
returns-clause-alone c t = alone_end _ _ _ _ c.in_default.ensures c.loop-edge.invariant.alone
