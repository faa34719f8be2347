use Rattle.std.proofs.Common.{sym, ◌∙◌, not, length, rules, tests}
use Rattle.std.proofs.lemmas.Iterator.{YieldsList-from_slice}
use Rattle.std.proofs.lemmas.Iterator.Search.{position_from_yields_List}
use Rattle.at_tree.specs.PlainNames.{is_name_byte, name_len}
use Rattle.at_tree.proofs.PlainNamesLemmas.{place_found, all_names}
use Rattle.at_tree.proofs.names.name_len.Goals as goal

pub returns-in-Some : goal.returns-in-Some
returns-in-Some c =
    let text = c.args.text.now in
    let is = position_from_yields_List (λ b. not (is_name_byte b)) _ _ c.position.result c.position.ensures.ran (YieldsList-from_slice text (c.iter.ensures.rest ∙ c.as_bytes.ensures.value)) (λ x b q k. search (rules, tests)) in
    place_found (name_len text) (length text) c.in-Some.len (sym c.in-Some.is ∙ is)

pub returns-in-None : goal.returns-in-None
returns-in-None c =
    let text = c.args.text.now in
    let is = position_from_yields_List (λ b. not (is_name_byte b)) _ _ c.position.result c.position.ensures.ran (YieldsList-from_slice text (c.iter.ensures.rest ∙ c.as_bytes.ensures.value)) (λ x b q k. search (rules, tests)) in
    all_names text (sym c.in-None.is ∙ is)
