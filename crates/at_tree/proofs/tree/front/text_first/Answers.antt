use Rattle.std.proofs.Common.{◌++◌, sym, ap, ◌∙◌}
use Rattle.std.specs.Prelude.{string_bytes}
use Rattle.std.proofs.lemmas.Str.{IsUtf8-string_bytes}
use Rattle.at_model.specs.Texts.{quoted}
use Rattle.at_text.proofs.BehindQuote.{cut_behind, behind_quote}
use Rattle.at_tree.proofs.tree.front.text_first.Goals as goal

pub split_at-requires : goal.split_at-requires
split_at-requires c = cut_behind c.args.text.now (string_bytes c.in-Ok.value) _ c.in-Ok.length c.utf8.text c.in-Ok.ensures.found.0.1 c.in-Ok.ensures.found.1

pub returns-in-Ok-clause-text : goal.returns-in-Ok-clause-text
returns-in-Ok-clause-text c = IsUtf8-string_bytes c.in-Ok.value

pub returns-in-Ok-clause-first : goal.returns-in-Ok-clause-first
returns-in-Ok-clause-first c =
    let f = c.in-Ok.ensures.found in
    sym (ap (λ y. quoted (string_bytes c.in-Ok.value) ++ y) c.split_at.ensures.back ∙ behind_quote c.args.text.now (string_bytes c.in-Ok.value) f.0.0 c.in-Ok.length f.0.1 f.1)
