use Rattle.std.proofs.Common.{Some, None, refl, ap}
use Rattle.std.proofs.lemmas.Result.{err_from_is_err_and}
use lib.Chars.{codes}
use Rattle.at_text.proofs.ReadingLaws.{fails_on, stops_at, reads_at}
use Rattle.at_grammar.specs.Table.{table}
use Rattle.at_grammar.specs.Forms.{left, kind_name, mark, close, token_kind}
use Rattle.at_grammar.proofs.Paths.{token_kind_none, before_kind, token_kind_some, token_kind_stops_mark, token_kind_stops_name, token_kind_stops_close}
use Rattle.at_grammar.proofs.reader.Reader.token_kind.Goals as goal

pub returns-then-takes : goal.returns-then-takes
returns-then-takes c = let e = rw c.if-takes.true at c.takes.ensures in (None, refl, token_kind_none _ _ e)

pub returns-in_err-expects : goal.returns-in_err-expects
returns-in_err-expects c = let e = rw c.if-takes.false at c.takes.ensures in let p = err_from_is_err_and
    c.from_residual.result c.from_residual.ensures.1 in rw (p.1, p.2) (fails_on table (mark (codes ":")) token_kind
    _ _ _ _ (λ q s. (token_kind_stops_mark q _ _ e.1 (stops_at table (mark (codes ":")) q _ _ _ (ap left e.0) s)))
    c.in_err-expects.ensures)

pub returns-in_err-kind : goal.returns-in_err-kind
returns-in_err-kind c = let e = rw c.if-takes.false at c.takes.ensures in let m =
    reads_at table (mark (codes ":")) tt _ _ _ (ap left e.0) c.in_ok-expects.ensures.2 in let p = err_from_is_err_and
    c.from_residual-in_err-kind.result c.from_residual-in_err-kind.ensures.1 in rw (p.1, p.2) (fails_on table kind_name
    token_kind _ _ _ _ (λ q. token_kind_stops_name q _ _ _ (before_kind _ _ e.1 m)) c.in_err-kind.ensures)

pub returns-in_err-close : goal.returns-in_err-close
returns-in_err-close c = let e = rw c.if-takes.false at c.takes.ensures in let m = reads_at table (mark (codes ":")) tt
    _ _ _ (ap left e.0) c.in_ok-expects.ensures.2 in let k = c.in_ok-kind.ensures in let p = err_from_is_err_and
    c.from_residual-in_err-close.result c.from_residual-in_err-close.ensures.1 in rw (p.1, p.2) (fails_on table close
    token_kind _ _ _ _ (λ q. token_kind_stops_close k.0 q _ _ _ _ (before_kind _ _ e.1 m) k.2) c.in_err-close.ensures)

pub returns : goal.returns
returns c = let e = rw c.if-takes.false at c.takes.ensures in let m = reads_at table (mark (codes ":")) tt
    _ _ _ (ap left e.0) c.in_ok-expects.ensures.2 in let k = c.in_ok-kind.ensures in
    (Some k.0, ap (λ x. Some x) k.1, token_kind_some k.0 _ _ _ _ (before_kind _ _ e.1 m) k.2 c.in_ok-close.ensures.2)
