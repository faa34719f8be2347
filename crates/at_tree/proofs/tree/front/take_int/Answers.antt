use Rattle.std.proofs.Common.{◌++◌, sym, ap, ◌∙◌}
use Rattle.at_tree.proofs.tree.front.take_int.Goals as goal
use Rattle.at_text.proofs.Decimals.{same_int}

pub returns-clause-token : goal.returns-clause-token
returns-clause-token c = rw (same_int c.in-Some.value c.in-Some.ensures.0) c.in-Some.ensures.0

pub returns-clause-taken : goal.returns-clause-taken
returns-clause-taken c =
    let k = c.cut.ensures in
    rw (same_int c.in-Some.value c.in-Some.ensures.0) (k.2 ∙ ap (λ ys. ys ++ c.cut.result.1.now) (sym k.1 ∙ c.in-Some.ensures.1))
