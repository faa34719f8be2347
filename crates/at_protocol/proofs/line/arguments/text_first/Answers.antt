use Rattle.std.proofs.Common.{◌++◌, sym, ap, ◌∙◌}
use Rattle.std.specs.Prelude.{string_bytes}
use Rattle.std.proofs.lemmas.Str.{IsUtf8-string_bytes}
use Rattle.at_model.specs.Texts.{quoted}
use Rattle.at_text.proofs.BehindQuote.{cut_behind, behind_quote}
use Rattle.at_protocol.proofs.line.arguments.text_first.Goals as goal

pub split_at-requires : goal.split_at-requires
split_at-requires c = cut_behind c.args.text.now (string_bytes c.in-Ok.value) _ c.in-Ok.length c.utf8.text c.in-Ok.ensures.found.0.1 c.in-Ok.ensures.found.1

pub returns-in-Ok : goal.returns-in-Ok
returns-in-Ok c =
    let f = c.in-Ok.ensures.found in
    (IsUtf8-string_bytes c.in-Ok.value, ap (λ y. quoted (string_bytes c.in-Ok.value) ++ y) c.split_at.ensures.back ∙ behind_quote c.args.text.now (string_bytes c.in-Ok.value) f.0.0 c.in-Ok.length f.0.1 f.1)

pub returns-in-Err-Form : goal.returns-in-Err-Form
returns-in-Err-Form c = λ first h. let e = c.in-Err-Form.ensures.only first.0 (first.1, sym h.1) in cc
