use Rattle.std.proofs.Common.{ap, ◌∙◌}
use Rattle.std.proofs.lemmas.Result.{err_from_is_err_and}
use lib.Chars.{codes}
use Rattle.at_text.proofs.ReadingLaws.{fails_on}
use Rattle.at_grammar.specs.Meaning.{kind_or}
use Rattle.at_grammar.specs.Table.{table}
use Rattle.at_grammar.specs.Forms.{name, token_kind, token}
use Rattle.at_grammar.proofs.Paths.{token_reads, token_stops_name, token_stops_kind}
use Rattle.at_grammar.proofs.Meanings.{component_is}
use Rattle.at_grammar.proofs.reader.Reader.token.Goals as goal

pub returns-in_err-name : goal.returns-in_err-name
returns-in_err-name c = let p = err_from_is_err_and c.from_residual.result c.from_residual.ensures.1 in
    rw (p.1, p.2) (fails_on table name token _ _ _ _ (λ q. token_stops_name q _ _) c.in_err-name.ensures)

pub returns-in_err-written : goal.returns-in_err-written
returns-in_err-written c = let n = c.in_ok-name.ensures in let p =
    err_from_is_err_and c.from_residual-in_err-written.result c.from_residual-in_err-written.ensures.1 in rw (p.1, p.2)
    (fails_on table token_kind token _ _ _ _ (λ q. token_stops_kind n.0 q _ _ _ n.2) c.in_err-written.ensures)

pub returns : goal.returns
returns c = let n = c.in_ok-name.ensures in let k = c.in_ok-written.ensures in (
  record { name = n.0; kind = k.0 },
  component_is _ _ _ _ _ _ _ n.1.0
      (c.in_ok-kind.ensures ∙ ap (kind_or (codes "String")) k.1) n.1.1,
  token_reads n.0 k.0 _ _ _ n.2 k.2,
)
