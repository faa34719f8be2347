-- What a path stands for.
use Rattle.std.specs.Prelude.{List, map}
use Rattle.std.specs.Cow.{cow_str_bytes}
use Rattle.at_model.specs.Paths.{Step, Path}
use Rattle.at_tree.specs.declared.path.Step.{Step as StepValue}
use Rattle.at_tree.specs.declared.path.Path.{Path as PathValue}

abbrev pub step_view : StepValue → Step
step_view s = record { part = cow_str_bytes s.part; index = s.index }

abbrev pub steps_view : List StepValue → Path
steps_view ss = map step_view ss

abbrev pub path_view : PathValue → Path
path_view p = steps_view p.steps.items
