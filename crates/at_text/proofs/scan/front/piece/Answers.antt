use Rattle.std.proofs.Common.{◌≡◌, true, false, sym, ap, ◌∙◌, ◌++◌, ◌==◌, rules, encode_utf8}
use Rattle.std.specs.Char.{is_ascii_digit}
use Rattle.at_model.specs.Names.{starts_name}
use Rattle.at_text.specs.Pieces.{is_blank}
use Rattle.at_text.proofs.Found.{found_blank, found_name, found_number, found_quoted, other_family, breaks_else}
use Rattle.at_text.proofs.scan.front.piece.Goals as goal

pub returns-then-is_blank : goal.returns-then-is_blank
returns-then-is_blank c =
    let t : is_blank c.in-Some.c ≡ true = search rules in
    let e = sym c.chars-chars.ensures.rest ∙ c.in-Some.ensures.steps.0 ∙ ap (λ l. encode_utf8 c.in-Some.c ++ l) (sym c.as_str-after.ensures) in
    found_blank c.in-Some.c c.args.text.now c.as_str-after.result.now t e c.as_str-after.utf8

pub returns-then-starts_name : goal.returns-then-starts_name
returns-then-starts_name c =
    let t : starts_name c.in-Some.c ≡ true = search rules in
    let e = sym c.chars-chars.ensures.rest ∙ c.in-Some.ensures.steps.0 ∙ ap (λ l. encode_utf8 c.in-Some.c ++ l) (sym c.as_str-after.ensures) in
    found_name c.in-Some.c c.args.text.now c.as_str-after.result.now c.past.result.now t e c.past.ensures c.past.utf8

pub returns-then-is_ascii_digit : goal.returns-then-is_ascii_digit
returns-then-is_ascii_digit c =
    let t : is_ascii_digit c.in-Some.c ≡ true = search rules in
    let e = sym c.chars-chars.ensures.rest ∙ c.in-Some.ensures.steps.0 ∙ ap (λ l. encode_utf8 c.in-Some.c ++ l) (sym c.as_str-after.ensures) in
    found_number c.in-Some.c c.args.text.now c.as_str-after.result.now c.past-then-is_ascii_digit.result.now t e c.past-then-is_ascii_digit.ensures c.past-then-is_ascii_digit.utf8

pub returns-in_ok-past_quoted : goal.returns-in_ok-past_quoted
returns-in_ok-past_quoted c =
    let e = sym c.chars-chars.ensures.rest ∙ c.in-Some.ensures.steps.0 ∙ ap (λ l. encode_utf8 c.in-Some.c ++ l) (sym c.as_str-after.ensures) in
    let m = c.in_ok-past_quoted.ensures in
    found_quoted c.in-Some.c c.args.text.now c.as_str-after.result.now c.in_ok-past_quoted.field-0.now m.0 c.if-c-eq34.true e m.1 m.2

pub returns-else-c-eq34 : goal.returns-else-c-eq34
returns-else-c-eq34 c =
    let b : is_blank c.in-Some.c ≡ false = search rules in
    let s : starts_name c.in-Some.c ≡ false = search rules in
    let d : is_ascii_digit c.in-Some.c ≡ false = search rules in
    let q : (c.in-Some.c == 34) ≡ false = search rules in
    let e = sym c.chars-chars.ensures.rest ∙ c.in-Some.ensures.steps.0 ∙ ap (λ l. encode_utf8 c.in-Some.c ++ l) (sym c.as_str-after.ensures) in
    breaks_else c.in-Some.c c.args.text.now c.as_str-after.result.now c.comment_or_sign.result (other_family c.in-Some.c b s d q) q e c.comment_or_sign.ensures
