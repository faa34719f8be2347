use Rattle.std.proofs.Common.{sym, ap, ◌∙◌}
use lib.Chars.{codes}
use Rattle.at_text.specs.Symbols.{is_sign}
use Rattle.at_text.specs.Reading.{first}
use Rattle.at_text.proofs.ReadingLaws.{parses_on, parses_at}
use Rattle.at_grammar.specs.Grammar as grammar
use Rattle.at_grammar.specs.Table.{table}
use Rattle.at_grammar.specs.Forms.{left, reason_of, child, optional, token, part}
use Rattle.at_grammar.proofs.Paths.{part_token, part_token_stops, part_optional, part_optional_stops, part_child, part_child_stops}
use Rattle.at_grammar.proofs.reader.Reader.part.Goals as goal

pub returns-then-takes : goal.returns-then-takes
returns-then-takes c = let e = rw c.if-takes.true at c.takes.ensures in
    parses_on table reason_of token part _ _ _ _ _ _ (λ t p m r. (grammar.Token t, m, part_token t _ _ _ e r))
    (λ q. part_token_stops q _ _ _ e) c.token.ensures

pub returns-then-takes-2 : goal.returns-then-takes-2
returns-then-takes-2 c =
    let e = rw c.if-takes.false at c.takes.ensures in
    let b = rw c.if-takes-2.true at c.takes-else-takes.ensures in
    let g = sym (ap left e.0) ∙ b in
    parses_on table reason_of optional part _ _ _ _ _ _ (λ t p m r. (grammar.Optional t, m, part_optional t _ _ _ g r)) (λ q. part_optional_stops q _ _ _ g) c.optional.ensures

pub returns-else-takes-2 : goal.returns-else-takes-2
returns-else-takes-2 c =
    let e = rw c.if-takes.false at c.takes.ensures in
    let b = rw c.if-takes-2.false at c.takes-else-takes.ensures in
    let f = sym (ap (λ l. is_sign (codes "[") (first (left l))) e.0) ∙ b.1 in
    parses_on table reason_of child part _ _ _ _ _ _ (λ p a m r. (p, m, part_child p _ _ e.1 f r)) (λ q. part_child_stops q _ _ e.1 f)
    (parses_at table reason_of child _ _ _ _ _ (ap left b.0 ∙ ap left e.0) c.child.ensures)
