use Rattle.at_evict.proofs.Common.{◌∙◌, sym}
use Rattle.at_evict.proofs.of_folding.Rerun.{covers_near, covers_pushed}
use Rattle.at_evict.proofs.rerunning.add_near.Goals as goal

pub returns-then-is_over : goal.returns-then-is_over
returns-then-is_over c = covers_near c.args.reach _ _ _ (sym c.as_slice.ensures.value ∙ c.split_at.ensures.by_index.0) (sym c.is_over.ensures ∙ c.if-is_over.true)

pub returns : goal.returns
returns c = covers_pushed c.args.reach _ _ c.in_ok-push.ensures.items
