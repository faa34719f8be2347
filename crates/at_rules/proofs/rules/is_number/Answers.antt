use Rattle.std.proofs.Common.{sym, ap, ◌∙◌, arith}
use Rattle.std.specs.Str.{bytes_eq}
use Rattle.at_rules.proofs.Guessed.{stands_there}
use Rattle.at_rules.proofs.rules.is_number.Goals as goal

pub returns-in-Some : goal.returns-in-Some
returns-in-Some c = λ same.
    let name = c.args.name.now in
    let text = ap (λ known. bytes_eq known name) (sym c.as_str.ensures.value) ∙ sym c.eq.ensures ∙ same in
    (stands_there c.args.names.now.keys c.len.ensures.unique name c.args.number c.in-Some.known.now (omega (arith, c.if-number-len.false, c.len.ensures.len)) (sym c.in-Some.ensures.key) text, c.len.ensures.unique)
