use Rattle.std.proofs.Common.{◌∙◌, ap, nat_eq, nat_lt}
use Rattle.at_engine.specs.Marks.{Mark, has_node, listed}
use Rattle.at_engine.proofs.of_marks.Tallies.{some_counted}
use Rattle.at_engine.proofs.marks.Marks.is_marked.Goals as goal

pub returns : goal.returns
returns c =
    let ms = listed c.args.self.now.items.entries in
    ap (nat_lt 0) (c.of.ensures ∙ c.args.self.now.tallied.by_node c.index.result) ∙ some_counted (λ (m : Mark). nat_eq c.index.result m.node) ms ∙ ap (has_node ms) c.index.ensures
