use Rattle.std.proofs.Common.{◌∙◌}
use Rattle.at_store.proofs.changes.number_kids.Goals as goal

pub loop-index-preserved : goal.loop-index-preserved
loop-index-preserved c =
    let inv = c.loop-index.invariant in
    record {
      alike = λ k. inv.alike k ∙ c.number_kid.ensures.written k;
      marks = λ k. c.number_kid.ensures.marks k ∙ inv.marks k;
      slots = λ k. c.number_kid.ensures.slots k ∙ inv.slots k;
    }
