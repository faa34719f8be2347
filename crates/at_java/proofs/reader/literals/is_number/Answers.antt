use Rattle.std.proofs.Common.{true, false, refl}
use Rattle.at_text.specs.Symbols.{placed}
use Rattle.at_text.specs.declared.token.TokenKind.TheVariants as kind
use Rattle.at_java.proofs.Spellings.{by_kind, names_number}
use Rattle.at_java.proofs.reader.literals.is_number.Goals as goal

pub returns-in-Word : goal.returns-in-Word
returns-in-Word c = by_kind names_number (placed c.args.token.now) kind.Word false c.in-Word.is refl

pub returns-in-Number : goal.returns-in-Number
returns-in-Number c = by_kind names_number (placed c.args.token.now) kind.Number true c.in-Number.is refl

pub returns-in-Text : goal.returns-in-Text
returns-in-Text c = by_kind names_number (placed c.args.token.now) kind.Text false c.in-Text.is refl

pub returns-in-Sign : goal.returns-in-Sign
returns-in-Sign c = by_kind names_number (placed c.args.token.now) kind.Sign false c.in-Sign.is refl
