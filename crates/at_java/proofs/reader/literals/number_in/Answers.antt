use Rattle.std.proofs.Common.{sym, ◌∙◌}
use Rattle.at_text.specs.Symbols.{placed}
use Rattle.at_jrag.specs.Read.{greatest}
use Rattle.at_java.proofs.Spellings.{numeral_read, no_numeral}
use Rattle.at_java.proofs.reader.literals.number_in.Goals as goal

pub returns-then-is_number : goal.returns-then-is_number
returns-then-is_number c =
    numeral_read c.number_of.result c.args.is_negative (placed c.args.token.now) (sym c.is_number.ensures ∙ c.if-is_number.true)
    c.number_of.ensures.value c.number_of.ensures.none

pub returns-else-is_number : goal.returns-else-is_number
returns-else-is_number c = no_numeral (greatest c.args.is_negative) (placed c.args.token.now) (sym c.is_number.ensures ∙ c.if-is_number.false)
