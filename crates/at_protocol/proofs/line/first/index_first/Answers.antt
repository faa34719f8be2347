use Rattle.std.proofs.Common.{sym}
use Rattle.std.proofs.lemmas.Result.{err_from_is_err_and}
use Rattle.at_protocol.specs.Words.{IsIndexText}
use Rattle.at_text.specs.declared.fault.Failure.TheVariants.{For}
use Rattle.at_protocol.specs.declared.line.words.Misfit.TheVariants.{Form}
use Rattle.at_protocol.proofs.Answering.{no_first, first_fails}
use Rattle.at_protocol.proofs.line.first.index_first.Goals as goal

pub returns-in_err-word : goal.returns-in_err-word
returns-in_err-word c =
    let p = err_from_is_err_and c.from_residual.result c.from_residual.ensures.1 in
    rw (p.1, p.2, c.in_err-word.ensures.0) (λ first h. no_first IsIndexText c.args.text.now first c.in_err-word.ensures.1 h)

pub returns-in-None : goal.returns-in-None
returns-in-None c =
    let cut = c.in_ok-word.ensures in
    first_fails IsIndexText _ _ _ (For Form) cut.0 cut.1 (λ n h. c.in-None.ensures n h.0 (sym h.1))
