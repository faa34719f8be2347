use Rattle.std.proofs.Common.{sym, ap, ◌∙◌}
use lib.Chars.{codes}
use Rattle.at_text.specs.Rows.{left, is_word, next_is}
use Rattle.at_jrag.proofs.DeclarationStops.{word_missing, truth_stays}
use Rattle.at_jrag.proofs.reader.Reader.truth.Goals as goal

pub returns-clause-stays : goal.returns-clause-stays
returns-clause-stays c =
    let one = word_missing c.args.self.now.cursor c.takes_word.new.self (λ r. left r.rest.now) (codes "true") c.takes_word.result (sym c.is_some.ensures ∙ c.if-is_some.false) c.takes_word.ensures in
    let two = word_missing c.takes_word.new.self c.takes_word-2.new.self (λ r. left r.rest.now) (codes "false")
    c.takes_word-2.result (sym c.is_some-2.ensures ∙ c.if-is_some-2.false) c.takes_word-2.ensures in
    rw c.no_truth.ensures
    (truth_stays (left c.args.self.now.cursor.rest.now) (left c.takes_word-2.new.self.rest.now) (two.0 ∙ one.0) one.1 (ap (next_is (is_word (codes "false"))) (sym one.0) ∙ two.1))
