use Rattle.std.proofs.Common.{◌≡◌, sym, ◌∙◌, ap}
use mir.Val.{to_z, of_z}
use Rattle.std.specs.Int.{w32}
use Rattle.std.specs.Fmt.{signed_decimal}
use Rattle.at_text.proofs.Decimals.{parsed_int, same_int, never_unequal}
use Rattle.at_text.proofs.decimal.read_int.Goals as goal

pub returns-in_default : goal.returns-in_default
returns-in_default c = λ n h is. c.in_default.not-Ok n (parsed_int _ _ n h c.parse.ensures.value.0 is)

pub returns-else-eq : goal.returns-else-eq
returns-else-eq c = λ n h is.
    let e = parsed_int _ _ n h c.parse.ensures.value.0 is in
    let same : c.in-Ok.value ≡ n = (let f = sym c.in-Ok.is ∙ e in cc) in
    let text = c.format.ensures.text ∙ ap signed_decimal (ap (λ m. to_z w32 (of_z w32 m)) same ∙ same_int n h) ∙ sym is in
    never_unequal _ _ _ text c.eq.ensures c.if-eq.false
