use Rattle.std.proofs.Common.{◌≡◌, true, false, sym, ap, ◌∙◌, ◌++◌, rules, encode_utf8}
use Rattle.at_text.specs.Faults.{makes_escape}
use Rattle.at_text.specs.Front.{stands_for_itself}
use Rattle.at_text.proofs.Quotes.{escape_means, escape_means_none, plain_means}
use Rattle.at_text.proofs.scan.front.past_meant.Goals as goal

pub returns-then-makes_escape : goal.returns-then-makes_escape
returns-then-makes_escape c =
    let t : makes_escape c.in_ok-second.second ≡ true = search rules in
    let whole = sym c.chars-chars.ensures.rest ∙ c.in_ok-first.ensures.steps.0
    ∙ (λ i. encode_utf8 (c.if-first-eq92.true i) ++ (c.in_ok-second.ensures.steps.0
    ∙ ap (λ l. encode_utf8 c.in_ok-second.second ++ l) (sym c.as_str.ensures)) i) in
    escape_means c.in_ok-second.second _ _ t whole c.as_str.utf8

pub returns-else-makes_escape : goal.returns-else-makes_escape
returns-else-makes_escape c =
    let f : makes_escape c.in_ok-second.second ≡ false = search rules in
    escape_means_none c.in_ok-second.second _ _ f (sym c.chars-chars.ensures.rest ∙ c.in_ok-first.ensures.steps.0 ∙ (λ i. encode_utf8 (c.if-first-eq92.true i) ++ c.in_ok-second.ensures.steps.0 i))

pub returns-then-stands_for_itself : goal.returns-then-stands_for_itself
returns-then-stands_for_itself c =
    let t : stands_for_itself c.in_ok-first.first ≡ true = search rules in
    plain_means c.in_ok-first.first _ _ t c.utf8.text (sym c.chars-chars.ensures.rest ∙ c.in_ok-first.ensures.steps.0
    ∙ ap (λ l. encode_utf8 c.in_ok-first.first ++ l) (sym c.as_str-then-stands_for_itself.ensures))
    c.as_str-then-stands_for_itself.utf8
