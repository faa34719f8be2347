use Rattle.std.proofs.Common.{Some, None, ap, map}
use Rattle.std.proofs.lemmas.Result.{err_from_is_err_and}
use lib.Chars.{codes}
use Rattle.at_text.proofs.ReadingLaws.{fails_on, parses_on, stops_at, reads_at}
use Rattle.at_grammar.specs.Meaning.{seen_part}
use Rattle.at_grammar.specs.Table.{table}
use Rattle.at_grammar.specs.Forms.{left, reason_of, mark, parts, body}
use Rattle.at_grammar.proofs.Loops.{body_none, body_some, body_stops_mark, body_stops_parts}
use Rattle.at_grammar.proofs.reader.Reader.body.Goals as goal

pub returns-then-takes : goal.returns-then-takes
returns-then-takes c = let e = rw c.if-takes.true at c.takes.ensures in (None, ap (map seen_part) c.new.ensures.items, body_none _ _ e)

pub returns-in_err-expects : goal.returns-in_err-expects
returns-in_err-expects c = let e = rw c.if-takes.false at c.takes.ensures in
    let p = err_from_is_err_and c.from_residual.result c.from_residual.ensures.1 in
    rw (p.1, p.2) (fails_on table (mark (codes "::=")) body _ _ _ _ (λ q s.
    body_stops_mark q _ _ e.1 (stops_at table (mark (codes "::=")) q _ _ _ (ap left e.0) s)) c.in_err-expects.ensures)

pub returns : goal.returns
returns c = let e = rw c.if-takes.false at c.takes.ensures in
    let r = reads_at table (mark (codes "::=")) tt _ _ _ (ap left e.0) c.in_ok-expects.ensures.2 in
    parses_on table reason_of parts body _ _ _ _ _ _ (λ ps v m reads. (Some ps, m, body_some ps _ _ _ e.1 r reads)) (λ q. body_stops_parts q _ _ _ e.1 r) c.parts.ensures
