use Rattle.std.proofs.Common.{sym, ap, ◌∙◌}
use lib.Chars.{codes}
use Rattle.at_text.specs.Rows.{left, is_word, next_is}
use Rattle.at_java.specs.Declarations.{laziness}
use Rattle.at_java.proofs.Fronts.{lazy_ends}
use Rattle.at_java.proofs.reader.Reader.laziness.Goals as goal

pub returns : goal.returns
returns c =
    let n = c.in_default.ensures in
    let same = ap (λ r. left r.rest.now) n.0 in
    c.loop-next.invariant ∙ ap (laziness c.loop-next.lazy) (sym same)
    ∙ lazy_ends c.loop-next.lazy _ (ap (next_is (is_word (codes "lazy"))) same ∙ n.1) (ap (next_is (is_word (codes "final"))) same ∙ n.2)
