use Rattle.std.proofs.Common.{◌≡◌, sym, ◌∙◌, ap}
use Rattle.std.specs.Fmt.{decimal}
use Rattle.at_text.proofs.Decimals.{one_digit, parsed, never_unequal}
use Rattle.at_text.proofs.decimal.read_number.Goals as goal

pub returns-in-Some : goal.returns-in-Some
returns-in-Some c = let h = rw c.in-Some.is at c.single_digit.ensures in one_digit c.args.word.now c.in-Some.digit h

pub returns-in_default-parse : goal.returns-in_default-parse
returns-in_default-parse c = λ n h is. c.in_default-parse.not-Ok n (parsed _ _ n h c.parse.ensures.value.0 is)

pub returns-else-eq : goal.returns-else-eq
returns-else-eq c = λ n h is.
    let e = parsed _ _ n h c.parse.ensures.value.0 is in
    let same : c.in-Ok.number ≡ n = (let f = sym c.in-Ok.is ∙ e in cc) in
    never_unequal _ _ _ (c.format.ensures.text ∙ ap decimal same ∙ sym is) c.eq.ensures c.if-eq.false
