use Rattle.std.proofs.lemmas.Result.{err_from_is_err_and}
use Rattle.at_text.proofs.ReadingLaws.{fails_on}
use Rattle.at_grammar.specs.Table.{table}
use Rattle.at_grammar.specs.Forms.{name, kind, body, declaration}
use Rattle.at_grammar.proofs.Loops.{head_read, declaration_reads, declaration_stops_name, declaration_stops_parent, declaration_stops_body}
use Rattle.at_grammar.proofs.Meanings.{class_is}
use Rattle.at_grammar.proofs.Loops.{modifier_reads}
use Rattle.at_grammar.proofs.reader.Reader.declaration.Goals as goal

pub returns-in_err-name : goal.returns-in_err-name
returns-in_err-name c = let x = modifier_reads _ _ _ c.takes_word.ensures in
    let p = err_from_is_err_and c.from_residual.result c.from_residual.ensures.1 in rw (p.1, p.2)
    (fails_on table name declaration _ _ _ _ (λ q. declaration_stops_name _ q _ _ _ x) c.in_err-name.ensures)

pub returns-in_err-parent : goal.returns-in_err-parent
returns-in_err-parent c = let x = modifier_reads _ _ _ c.takes_word.ensures in let n = c.in_ok-name.ensures in
    let p = err_from_is_err_and c.from_residual-in_err-parent.result c.from_residual-in_err-parent.ensures.1 in
    rw (p.1, p.2) (fails_on table kind declaration _ _ _ _ (λ q. declaration_stops_parent _ n.0 q _ _ _ _ x n.2)
    c.in_err-parent.ensures)

pub returns-in_err-parts : goal.returns-in_err-parts
returns-in_err-parts c = let x = modifier_reads _ _ _ c.takes_word.ensures in let n = c.in_ok-name.ensures in
    let k = c.in_ok-parent.ensures in let p = err_from_is_err_and c.from_residual-in_err-parts.result
    c.from_residual-in_err-parts.ensures.1 in rw (p.1, p.2) (fails_on table body declaration _ _ _ _ (λ q.
    declaration_stops_body _ n.0 k.0 q _ _ _ (head_read _ n.0 k.0 _ _ _ _ x n.2 k.2)) c.in_err-parts.ensures)

pub returns : goal.returns
returns c =
    let x = modifier_reads _ _ _ c.takes_word.ensures in
    let n = c.in_ok-name.ensures in
    let k = c.in_ok-parent.ensures in
    let b = c.in_ok-parts.ensures in (
      record { abstract_at = c.takes_word.result; name = n.0; parent = k.0; parts = b.0 },
      class_is _ _ _ _ _ _ _ _ _ _ n.1.0 c.is_some-is_abstract.ensures k.1 b.1 n.1.1,
      declaration_reads _ n.0 k.0 b.0 _ _ _ (head_read _ n.0 k.0 _ _ _ _ x n.2 k.2) b.2,
    )
