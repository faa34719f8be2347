use Rattle.std.proofs.Common.{sym, ◌∙◌}
use Rattle.at_grammar.proofs.Tokens.{next_sign, sign_next}
use Rattle.at_text.specs.Rows as rows
use Rattle.at_grammar.proofs.reader.Reader.is_before.Goals as goal

pub returns-clause-value : goal.returns-clause-value
returns-clause-value c = c.is_before_sign.ensures ∙ next_sign c.args.text.now (rows.left c.args.self.now.cursor.rest.now)

pub returns-clause-same : goal.returns-clause-same
returns-clause-same c = λ h. sign_next _ _ (sym c.is_before_sign.ensures ∙ h)
