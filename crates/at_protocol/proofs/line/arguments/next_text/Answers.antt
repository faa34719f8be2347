use Rattle.std.proofs.Common.{None, sym, ◌∙◌, lit<}
use Rattle.std.proofs.lemmas.Result.{err_from_is_err_and}
use Rattle.std.proofs.lemmas.Str.Pattern.{strip_prefix_char}
use Rattle.at_protocol.proofs.Places.{is_filled}
use Rattle.at_protocol.proofs.CallsLemmas.{quote_fails, no_comma}
use Rattle.at_protocol.proofs.line.arguments.next_text.Goals as goal

pub returns-in_err-value : goal.returns-in_err-value
returns-in_err-value c =
    let p = err_from_is_err_and c.from_residual.result c.from_residual.ensures.1 in
    rw (p.1, p.2) (quote_fails _ _ c.requires c.in_err-value.ensures)

pub returns-in-None : goal.returns-in-None
returns-in-None c =
    let rest = c.in_ok-value.rest.now in
    let none = strip_prefix_char 44 rest None c.in-None.ensures.cases (lit< tt) in
    no_comma c.args.text.now _ rest c.requires c.in_ok-value.ensures (is_filled rest (sym c.is_empty.ensures ∙ c.if-is_empty.false)) none
