use Rattle.std.proofs.Common.{sym, ap, ◌∙◌, arith, rules}
use denote.Enum.Bare.{same_true}
use Rattle.at_text.specs.contracts.token.TokenKind.{the_type}
use Rattle.at_text.specs.Place.{first_place}
use Rattle.at_jrag.specs.Grammar.{number}
use Rattle.at_jrag.specs.Table.{is_number_within}
use Rattle.at_jrag.proofs.Numbers.{negative_reads, no_negative}
use Rattle.at_jrag.proofs.of_expressions.ExpressionsTaken.{number_is}
use Rattle.at_jrag.proofs.Tokens.{negative_left}
use Rattle.at_jrag.proofs.reader.Reader.negative.Goals as goal

pub returns-in_default-number-clause-refused : goal.returns-in_default-number-clause-refused
returns-in_default-number-clause-refused c =
    let front = negative_left c.args.self.now.cursor.rest.now _ c.in-len2-up.len_at_least (c.is_sign.ensures.same c.if-is_sign.true) (same_true the_type tt _ _ (sym c.eq.ensures ∙ c.if-eq.true)) in
    no_negative _ _ _ _ _ _ front (c.advance.ensures _ _ front) c.in_default-number.ensures.none

pub returns-in-Some-clause-taken : goal.returns-in-Some-clause-taken
returns-in-Some-clause-taken c =
    let front = negative_left c.args.self.now.cursor.rest.now _ c.in-len2-up.len_at_least (c.is_sign.ensures.same c.if-is_sign.true) (same_true the_type tt _ _ (sym c.eq.ensures ∙ c.if-eq.true)) in
    let n = c.in-Some.ensures.value in
    (_, _, _, front, ap (λ t. is_number_within 2147483648 (number t first_place)) n.3 ∙ number_is 2147483648 n.0 first_place (omega arith) n.1)

pub returns-in-Some-clause-found : goal.returns-in-Some-clause-found
returns-in-Some-clause-found c =
    let front = negative_left c.args.self.now.cursor.rest.now _ c.in-len2-up.len_at_least (c.is_sign.ensures.same c.if-is_sign.true) (same_true the_type tt _ _ (sym c.eq.ensures ∙ c.if-eq.true)) in
    negative_reads c.leaf.result c.in-Some.value _ _ _ _ _ front c.in-Some.ensures.value (search (rules, c.leaf.ensures.made)) c.leaf.ensures.depth
