use Rattle.std.proofs.Common.{◌≡◌, ◌++◌, true, ap, ◌∙◌, rules, string_bytes, encode_utf8_all}
use Rattle.at_tree.specs.Partial.{can_open}
use Rattle.at_tree.specs.Seen.{levels_view}
use Rattle.at_tree.proofs.TermPassing.{leads_word}
use Rattle.at_tree.proofs.reader.advance.whole_word.Goals as goal

pub returns-clause-leads : goal.returns-clause-leads
returns-clause-leads c =
    let k = c.cut.ensures in
    let can : can_open (levels_view c.args.levels.items) ≡ true = search rules in
    let is : string_bytes c.push_str.new.self ≡ string_bytes c.args.word ++ encode_utf8_all k.0 = c.in_ok-push_str.ensures.bytes ∙ ap (λ w. string_bytes c.args.word ++ w) k.1 in
    (k.0, k.2, leads_word (levels_view c.args.levels.items) (string_bytes c.args.word) (string_bytes c.push_str.new.self) k.0 can is k.3)
