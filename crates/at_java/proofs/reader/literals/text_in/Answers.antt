use Rattle.std.proofs.Common.{sym, ◌∙◌}
use Rattle.at_text.specs.Symbols.{placed}
use Rattle.at_java.proofs.Spellings.{quoted_read, quoted_refused, no_quotation}
use Rattle.at_java.proofs.reader.literals.text_in.Goals as goal

pub returns-then-is_text-clause-found : goal.returns-then-is_text-clause-found
returns-then-is_text-clause-found c =
    quoted_read c.read_text.result (placed c.args.token.now) (sym c.is_text.ensures ∙ c.if-is_text.true) c.read_text.ensures

pub returns-then-is_text-clause-refused : goal.returns-then-is_text-clause-refused
returns-then-is_text-clause-refused c =
    quoted_refused c.read_text.result (placed c.args.token.now) (sym c.is_text.ensures ∙ c.if-is_text.true) c.read_text.ensures

pub returns-else-is_text-clause-refused : goal.returns-else-is_text-clause-refused
returns-else-is_text-clause-refused c = λ e. no_quotation (placed c.args.token.now) (sym c.is_text.ensures ∙ c.if-is_text.false)
