use Rattle.std.proofs.Common.{◌≡◌, sym, ◌∙◌, arith}
use Rattle.std.proofs.lemmas.Fmt.{decimal_injective}
use Rattle.at_protocol.proofs.line.words.read_question_number.Goals as goal

pub returns-in_default : goal.returns-in_default
returns-in_default c = λ n h. c.in_default.ensures n (omega (arith, h.1)) (sym h.2)

pub returns-else-number-ge-FIRST_QUESTION : goal.returns-else-number-ge-FIRST_QUESTION
returns-else-number-ge-FIRST_QUESTION c = λ n h.
    let same : c.in-Some.number ≡ n = decimal_injective c.in-Some.number n (omega arith) (omega (arith, h.1)) (sym c.in-Some.ensures ∙ sym h.2) in
    omega (arith, c.if-number-ge-FIRST_QUESTION.false, same, h.0)
