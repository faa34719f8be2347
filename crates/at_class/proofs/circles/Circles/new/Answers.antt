use Rattle.std.proofs.Common.{◌∙◌, ap, sym}
use Rattle.std.specs.Prelude.{replicate}
use Rattle.std.proofs.lemmas.List.{length-map}
use Rattle.at_class.specs.declared.circles.Mark.TheVariants.{Unmet}
use Rattle.at_class.specs.View.{class_view, classes_view}
use Rattle.at_class.proofs.Circling.{nothing_known}
use Rattle.at_class.proofs.circles.Circles.new.Goals as goal

pub returns : goal.returns
returns c = (
  nothing_known (classes_view c.args.classes.now) c.in_ok-marks.marks.items (c.in_ok-marks.ensures ∙ ap (λ n. replicate n Unmet) (sym (length-map c.args.classes.now class_view))),
  c.new.ensures.items,
)
