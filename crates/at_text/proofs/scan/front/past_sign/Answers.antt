use Rattle.std.proofs.Common.{◌≡◌, length, true, false, sym, ap, ◌∙◌, ◌++◌, rules, encode_utf8}
use Rattle.at_text.specs.Front.{is_short_sign}
use Rattle.at_text.proofs.Signs.{long_found, short_found, none_here, none_at_end}
use Rattle.at_text.proofs.scan.front.past_sign.Goals as goal

pub returns-in-Some : goal.returns-in-Some
returns-in-Some c = long_found c.args.text.now c.in-Some.after.now c.in-Some.ensures

pub returns-in_err-first : goal.returns-in_err-first
returns-in_err-first c =
    let none = rw c.in_default.is at c.past_long_sign.ensures in
    rw c.from_residual.ensures (none_at_end c.args.text.now none (ap length (sym c.chars-chars.ensures.rest) ∙ c.in_err-first.ensures.steps.0.0))

pub returns-then-is_short_sign : goal.returns-then-is_short_sign
returns-then-is_short_sign c =
    let none = rw c.in_default.is at c.past_long_sign.ensures in
    let t : is_short_sign c.in_ok-first.first ≡ true = search rules in
    let e = sym c.chars-chars.ensures.rest ∙ c.in_ok-first.ensures.steps.0 ∙ ap (λ l. encode_utf8 c.in_ok-first.first ++ l) (sym c.as_str.ensures) in
    short_found c.args.text.now _ c.in_ok-first.first none e t c.as_str.utf8

pub returns-else-is_short_sign : goal.returns-else-is_short_sign
returns-else-is_short_sign c =
    let none = rw c.in_default.is at c.past_long_sign.ensures in
    let f : is_short_sign c.in_ok-first.first ≡ false = search rules in
    let e = sym c.chars-chars.ensures.rest ∙ c.in_ok-first.ensures.steps.0 in
    none_here c.args.text.now _ c.in_ok-first.first none e f
