use Rattle.std.proofs.Common.{◌∙◌, ap, sym}
use Rattle.std.specs.Option.{option_copied}
use Rattle.at_engine.specs.Marks.{listed, number_marked}
use Rattle.at_engine.proofs.of_marks.Keys.{found_by}
use Rattle.at_engine.proofs.marks.MarksLookup.get.Goals as goal

pub returns-in_err-node : goal.returns-in_err-node
returns-in_err-node c =
    let es = c.args.self.now.items.entries in
    c.from_residual.ensures ∙ ap option_copied (sym c.in_err-node.was) ∙ c.get.ensures.value ∙ found_by c.lent.result es ∙ (λ i. number_marked (listed es) (c.lent.ensures.0 i) (c.lent.ensures.1 i))

pub returns : goal.returns
returns c =
    let es = c.args.self.now.items.entries in
    ap option_copied (sym c.in_ok-node.was) ∙ c.get.ensures.value ∙ found_by c.lent.result es ∙ (λ i. number_marked (listed es) (c.lent.ensures.0 i) (c.lent.ensures.1 i))
