use Rattle.std.proofs.Common.{◌++◌, ap, sym, ◌∙◌, Some}
use Rattle.std.proofs.lemmas.Fmt.{decimal_digit}
use Rattle.at_model.specs.Replies.{session_text}
use Rattle.at_protocol.proofs.reply.append_digit.Goals as goal

pub returns-clause-appends : goal.returns-clause-appends
returns-clause-appends c =
    let is = c.in_ok-push.ensures.items ∙ ap (λ ys. c.args.out.now.items ++ ys) (sym (decimal_digit c.args.number c.requires)) in
    (is, (session_text (Some c.args.number), is), search)
