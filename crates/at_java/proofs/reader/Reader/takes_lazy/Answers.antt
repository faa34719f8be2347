use Rattle.std.proofs.Common.{sym, ap, ◌∙◌}
use Rattle.at_text.specs.Rows.{left}
use Rattle.at_java.proofs.Fronts.{shorter, lazy_taken, final_taken}
use Rattle.at_java.proofs.reader.Reader.takes_lazy.Goals as goal

pub returns-in-Some : goal.returns-in-Some
returns-in-Some c = (lazy_taken c.args.lazy _ c.in-Some.at _ c.in-Some.ensures, shorter _ _ _ c.in-Some.ensures)

pub returns-in-Some-takes_word : goal.returns-in-Some-takes_word
returns-in-Some-takes_word c =
    let same = ap (λ r. left r.rest.now) c.in_default.ensures.0 in
    let r = sym same ∙ c.in-Some-takes_word.ensures in
    (final_taken c.args.lazy _ _ _ r, shorter _ _ _ r)
