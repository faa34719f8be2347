use Rattle.std.proofs.lemmas.Result.{err_from_is_err_and}
use lib.Chars.{codes}
use Rattle.at_text.proofs.ReadingLaws.{fails_on}
use Rattle.at_grammar.specs.Table.{table}
use Rattle.at_grammar.specs.Forms.{mark, typed, optional}
use Rattle.at_grammar.proofs.Paths.{optional_reads, optional_stops_typed, optional_stops_mark}
use Rattle.at_grammar.proofs.reader.Reader.optional.Goals as goal

pub returns-in_err-part : goal.returns-in_err-part
returns-in_err-part c = let p = err_from_is_err_and c.from_residual.result c.from_residual.ensures.1 in
    rw (p.1, p.2) (fails_on table typed optional _ _ _ _ (λ q. optional_stops_typed q _ _) c.in_err-part.ensures)

pub returns-in_err-expects : goal.returns-in_err-expects
returns-in_err-expects c = let t = c.in_ok-part.ensures in let p = err_from_is_err_and
    c.from_residual-in_err-expects.result c.from_residual-in_err-expects.ensures.1 in rw (p.1, p.2) (fails_on table
    (mark (codes "]")) optional _ _ _ _ (λ q. optional_stops_mark t.0 q _ _ _ t.2) c.in_err-expects.ensures)

pub returns : goal.returns
returns c = let t = c.in_ok-part.ensures in (t.0, t.1, optional_reads t.0 _ _ _ t.2 c.in_ok-expects.ensures.2)
