use Rattle.at_text.specs.Symbols.{placed}
use Rattle.at_jrag.proofs.of_expressions.OperatorStops.{number_opens}
use Rattle.at_jrag.proofs.reader.operators.opens_expression.Goals as goal

pub returns-in-Number : goal.returns-in-Number
returns-in-Number c = number_opens (placed c.args.token.now) c.number.result c.is_some.result c.in-Number.is c.is_some.ensures c.number.ensures.value c.number.ensures.none
