use Rattle.std.proofs.Common.{◌∙◌, ◌-◌, ap, sym, length}
use Rattle.std.specs.List.{slice_get}
use Rattle.at_class.proofs.Descents.{top_there}
use Rattle.at_class.proofs.way.Way.top.Goals as goal

pub returns : goal.returns
returns c =
    let levels = c.args.self.now.levels.items in
    top_there levels c.in_ok-last.field-0.now (ap (λ ls. slice_get ls (length ls - 1)) (sym c.deref.ensures.value) ∙ sym c.in_ok-last.ensures.value)
