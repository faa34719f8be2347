use Rattle.std.proofs.Common.{◌||◌}
use Rattle.at_store.proofs.of_edits.Shifted.{shifted}
use Rattle.at_store.proofs.of_edits.Touched.{touched}
use Rattle.at_store.proofs.laws.touches_by_marks.Goals as goal

pub returns : goal.returns
returns c = λ s class apart leaves brings c e l m like marked comes same i.
    touched s class apart leaves c e l m like marked same i || shifted s class apart brings c e l m like comes same i
