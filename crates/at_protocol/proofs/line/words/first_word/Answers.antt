use Rattle.std.proofs.Common.{◌==◌, ℕ, List, length, take, sym, ap, ◌∙◌, rules, tests}
use Rattle.std.specs.List.{position_or_len}
use Rattle.std.proofs.lemmas.List.{take_all}
use Rattle.std.proofs.lemmas.Iterator.{YieldsList-from_slice}
use Rattle.std.proofs.lemmas.Iterator.Search.{position_from_yields_List}
use Rattle.at_tree.proofs.PlainNamesLemmas.{place_found, place_past}
use Rattle.at_protocol.proofs.line.words.first_word.Goals as goal

abbrev first_space : List ℕ → ℕ
first_space text = position_or_len (λ b. b == 32) text

pub returns-in-Some : goal.returns-in-Some
returns-in-Some c =
    let text = c.args.line.now in
    let is = position_from_yields_List (λ b. b == 32) _ _ c.position.result c.position.ensures.ran (YieldsList-from_slice text c.iter.ensures.rest) (λ x b q k. search (rules, tests)) in
    ap (λ n. take n text) (place_found _ (length text) _ (sym c.in-Some.is ∙ is))

pub returns-in-None : goal.returns-in-None
returns-in-None c =
    let text = c.args.line.now in
    let is = position_from_yields_List (λ b. b == 32) _ _ c.position.result c.position.ensures.ran (YieldsList-from_slice text c.iter.ensures.rest) (λ x b q k. search (rules, tests)) in
    let far = place_past (first_space text) (length text) (sym c.in-None.is ∙ is) in
    sym (take_all (first_space text) text far)
