use Rattle.std.proofs.Common.{◌++◌, ap, ◌∙◌}
use Rattle.std.proofs.lemmas.Result.{on_ok_weaker}
use Rattle.at_protocol.proofs.Replies.{reply_is}
use Rattle.at_protocol.proofs.reply.write_reply.Goals as goal

pub returns-else-is_err-clause-ok : goal.returns-else-is_err-clause-ok
returns-else-is_err-clause-ok c = on_ok_weaker c.append_reply-written.result (λ written r is. written ∙ ap (λ y. c.args.out.now.items ++ y) (reply_is c.args.reply.now r is)) c.append_reply-written.ensures.appends.0
