use Rattle.std.proofs.Common.{◌≡◌, ◌++◌, ap, ◌∙◌, string_bytes, encode_utf8_all}
use Rattle.at_tree.specs.Seen.{levels_view}
use Rattle.at_tree.proofs.TermPassing.{leads_plain}
use Rattle.at_tree.proofs.reader.advance.plain_text.Goals as goal

pub returns-clause-leads : goal.returns-clause-leads
returns-clause-leads c =
    let k = c.cut.ensures in
    let is : string_bytes c.push_str.new.self ≡ string_bytes c.args.value ++ encode_utf8_all k.0 = c.in_ok-push_str.ensures.bytes ∙ ap (λ w. string_bytes c.args.value ++ w) k.1 in
    (k.0, k.2, leads_plain (levels_view c.args.levels.items) (string_bytes c.args.value) (string_bytes c.push_str.new.self) k.0 is k.3)
