use Rattle.at_text.proofs.Found.{found_line, found_comment, found_sign}
use Rattle.at_text.proofs.scan.front.comment_or_sign.Goals as goal

pub returns-in-Some : goal.returns-in-Some
returns-in-Some c = found_line c.args.text.now c.in-Some.line.now c.past.result.now c.in-Some.ensures.0 c.past.ensures c.past.utf8

pub returns-in-Some-past_comment : goal.returns-in-Some-past_comment
returns-in-Some-past_comment c = found_comment c.args.text.now c.in-Some-past_front.body.now c.in-Some-past_comment.after.now c.in-Some-past_front.ensures.0 c.in-Some-past_comment.ensures

pub returns-in-Some-past_sign : goal.returns-in-Some-past_sign
returns-in-Some-past_sign c =
    let f = rw c.in_default.is at c.past_front.ensures in
    let g = rw c.in_default-past_front.is at c.past_front-2.ensures in
    found_sign c.args.text.now c.in-Some-past_sign.after.now f g c.in-Some-past_sign.ensures
