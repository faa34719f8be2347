-- What the words of lines are read over.
use Rattle.std.specs.Prelude.{List, []}
use Rattle.at_model.specs.Machine.{State}
use Rattle.at_store.specs.Shown.{Shown, path, tree}
use Rattle.at_engine.specs.Marks.{Mark, marks_view}

-- a state with that tree and these marks: nothing else of a state counts for the places and the questions that words name
abbrev pub state_seen : Shown → List Mark → State
state_seen s marks = record { tree = tree s; limit = s.limit; version = 0; marks = marks_view (path s) marks; posts = 0; posted = [] }
