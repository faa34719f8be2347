use Rattle.std.proofs.Common.{Some, None, refl, ap}
use Rattle.std.proofs.lemmas.Result.{err_from_is_err_and}
use Rattle.at_text.proofs.ReadingLaws.{fails_on}
use Rattle.at_grammar.specs.Table.{table}
use Rattle.at_grammar.specs.Forms.{left, name, kind}
use Rattle.at_grammar.proofs.Paths.{kind_none, kind_some, kind_stops}
use Rattle.at_grammar.proofs.reader.Reader.kind.Goals as goal

pub returns-in_err-name : goal.returns-in_err-name
returns-in_err-name c = let e = rw c.if-takes.true at c.takes.ensures in
    let p = err_from_is_err_and c.from_residual.result c.from_residual.ensures.1 in
    rw (p.1, p.2) (fails_on table name kind _ _ _ _ (λ q. kind_stops q _ _ _ e) c.in_err-name.ensures)

pub returns-in_ok-name : goal.returns-in_ok-name
returns-in_ok-name c = let e = rw c.if-takes.true at c.takes.ensures in let n = c.in_ok-name.ensures in (Some n.0, ap (λ k. Some k) n.1.0, kind_some n.0 _ _ _ e n.2)

pub returns-else-takes : goal.returns-else-takes
returns-else-takes c = let e = rw c.if-takes.false at c.takes.ensures in (None, refl, kind_none _ _ (ap left e.0) e.1)
