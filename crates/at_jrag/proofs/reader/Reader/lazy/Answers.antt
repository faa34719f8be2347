use Rattle.std.proofs.Common.{sym, ◌∙◌}
use Rattle.at_text.specs.Rows.{left}
use Rattle.at_jrag.proofs.DeclarationStops.{took_lazy, lazy_goes, lazy_stays}
use Rattle.at_jrag.proofs.reader.Reader.lazy.Goals as goal

pub returns-clause-goes : goal.returns-clause-goes
returns-clause-goes c =
    let t = took_lazy c.args.self.now.cursor c.takes_word-lazy.new.self (λ r. left r.rest.now) c.takes_word-lazy.result c.takes_word-lazy.ensures in
    lazy_goes c.takes_word-lazy.result (left c.args.self.now.cursor.rest.now) (left c.takes_word-lazy.new.self.rest.now) t (sym c.is_before_word.ensures ∙ c.if-is_before_word.false)

pub returns-then-is_before_word-clause-stays : goal.returns-then-is_before_word-clause-stays
returns-then-is_before_word-clause-stays c =
    let t = took_lazy c.args.self.now.cursor c.takes_word-lazy.new.self (λ r. left r.rest.now) c.takes_word-lazy.result c.takes_word-lazy.ensures in
    lazy_stays c.takes_word-lazy.result (left c.args.self.now.cursor.rest.now) (left c.takes_word-lazy.new.self.rest.now) t (sym c.is_before_word.ensures ∙ c.if-is_before_word.true)
