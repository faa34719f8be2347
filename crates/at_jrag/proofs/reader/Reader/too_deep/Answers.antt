use Rattle.std.proofs.Common.{sym, ◌∙◌}
use denote.Enum.Bare.{same_true}
use Rattle.at_text.specs.contracts.token.TokenKind.{the_type}
use Rattle.at_jrag.proofs.of_expressions.OperatorStops.{text_is_deep, no_text}
use Rattle.at_text.proofs.RowsLemmas.{next_left}
use Rattle.at_jrag.proofs.reader.Reader.too_deep.Goals as goal
use Rattle.at_jrag.proofs.reader.Reader.too_deep.Goals.{in-Ok, in-Err}

pub returns-then-eq : goal.returns-then-eq
returns-then-eq c =
    let n = next_left c.args.self.now.cursor.rest.now _ c.in-len1-up.len_at_least in
    let k = same_true the_type tt _ _ (sym c.eq.ensures ∙ c.if-eq.true) in
    elim c.match-text.branch [
      | in-Ok w ↦ text_is_deep _ _ _ _ n.1 k w.result-is w.in-Ok.ensures.spelled
      | in-Err w ↦ no_text w.in-Err.e _ _ _ _ n.1 k w.result-is w.in-Err.ensures.refused
    ]
