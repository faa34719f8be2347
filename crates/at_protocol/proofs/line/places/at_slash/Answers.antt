use Rattle.std.proofs.Common.{◌<◌, length, get_or, Some, None, sym, ap, ◌∙◌, arith, lit<, length-take, get_or-take}
use Rattle.std.proofs.lemmas.Str.Pattern.{find_char}
use Rattle.at_protocol.proofs.line.places.at_slash.Goals as goal

pub returns-in-Some-clause-front : goal.returns-in-Some-clause-front
returns-in-Some-clause-front c = λ i l e.
    let found = find_char 47 c.args.text.now (Some c.in-Some.at) c.in-Some.ensures.cases (lit< tt) in
    let less : i < c.in-Some.at = omega (arith, l, c.split_at.ensures.front_len, ap length c.split_at.ensures.front, length-take c.in-Some.at c.args.text.now) in
    found.2 i less (sym (get_or-take c.in-Some.at c.args.text.now i 0 less) ∙ ap (λ y. get_or y i 0) (sym c.split_at.ensures.front) ∙ e)

pub returns-in-None-clause-front : goal.returns-in-None-clause-front
returns-in-None-clause-front c = find_char 47 c.args.text.now None c.in-None.ensures.cases (lit< tt)
