use Rattle.std.proofs.Common.{◌≡◌, ◌++◌, true, false, length, ap, sym, ◌∙◌, encode_utf8, rules}
use Rattle.at_model.specs.Names.{starts_name}
use Rattle.at_text.proofs.Fronts.{stops_at, stops_at_end}
use Rattle.at_tree.proofs.Passing.{cut_boundary}
use Rattle.at_tree.proofs.PlainNamesLemmas.{word_split, word_before}
use Rattle.at_tree.proofs.names.any_word_first.Goals as goal

pub returns-in_default : goal.returns-in_default
returns-in_default c =
    let e = rw c.in_default.is at c.next.ensures.steps in
    stops_at_end starts_name c.args.text.now (ap length (sym c.chars-chars.ensures.rest) ∙ e.0.0)

pub returns-then-not-starts_name : goal.returns-then-not-starts_name
returns-then-not-starts_name c =
    let off : starts_name c.in-Some.c ≡ false = search rules in
    stops_at starts_name c.in-Some.c c.args.text.now _ (sym c.chars-chars.ensures.rest ∙ c.in-Some.ensures.steps.0) off

pub split_at-requires : goal.split_at-requires
split_at-requires c =
    let text = c.args.text.now in
    let first : text ≡ encode_utf8 c.in-Some.c ++ c.as_str.result.now =
    sym c.chars-chars.ensures.rest ∙ c.in-Some.ensures.steps.0 ∙ ap (λ l. encode_utf8 c.in-Some.c ++ l) (sym c.as_str.ensures) in
    cut_boundary text _ c.past-rest.result.now
    (word_split text c.as_str.result.now c.behind_plain.result.now c.past-rest.result.now c.in-Some.c first c.behind_plain.ensures c.past-rest.ensures)
    c.past-rest.utf8

pub returns : goal.returns
returns c =
    let text = c.args.text.now in
    let first : text ≡ encode_utf8 c.in-Some.c ++ c.as_str.result.now =
    sym c.chars-chars.ensures.rest ∙ c.in-Some.ensures.steps.0 ∙ ap (λ l. encode_utf8 c.in-Some.c ++ l) (sym c.as_str.ensures) in
    let starts : starts_name c.in-Some.c ≡ true = search rules in
    word_before text c.as_str.result.now c.behind_plain.result.now c.past-rest.result.now _ _ c.in-Some.c first starts
    c.behind_plain.ensures c.past-rest.ensures c.split_at.ensures.front c.split_at.ensures.back
