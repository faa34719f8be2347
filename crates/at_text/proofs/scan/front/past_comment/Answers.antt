use Rattle.at_text.proofs.Fronts.{no_end, comment_ended}
use Rattle.at_text.proofs.scan.front.past_comment.Goals as goal

pub returns-in_err-after : goal.returns-in_err-after
returns-in_err-after c = rw c.from_residual.ensures (no_end _ c.in_err-after.ensures.cases)

pub returns : goal.returns
returns c = let s = c.in_ok-after.ensures.cases in comment_ended c.args.body.now c.in_ok-after.field-0-0.now c.in_ok-after.after.now s c.utf8.body
