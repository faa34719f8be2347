-- What is looked for by a key.
use Rattle.std.specs.Prelude.{ℕ, List, Some, string_bytes, true}
use Rattle.at_model.specs.Bodies.{named}
use Rattle.at_model.specs.Run.{Ref, Text, Truth, Value}
use Rattle.at_model.specs.Seeking.{is_in_drawer, those}
use Rattle.at_class.specs.Keys.{key_view}
use Rattle.at_rules.specs.declared.body.Sought.{Sought}
use Rattle.at_rules.specs.declared.body.Sought.TheVariants as sought
use Rattle.at_store.specs.Shown.{contents}
use Rattle.at_body.specs.declared.candidates.Candidates.{Candidates}
use Rattle.at_body.specs.declared.todo.Fold.{Fold}
use Rattle.at_body.specs.declared.todo.Fold.TheVariants as fold
use Rattle.at_body.specs.declared.todo.Search.{Search}
use Rattle.at_body.specs.declared.todo.Search.TheVariants as search

-- the value by which is looked for, where names stand for these
abbrev pub sought_in : Sought → List (Value ℕ) → Value ℕ
sought_in (sought.Text text) vs = Text (string_bytes text)
sought_in (sought.Name i) vs = named vs i

-- those of the children that stand under the mark
abbrev pub candidates : Candidates → ℕ → List ℕ
candidates c mark = those (is_in_drawer (contents c.store.now) (key_view c.lookup.now.key) mark) c.children.now

-- the fold that a search stands for
abbrev pub fold_of : Search → Fold
fold_of search.Any = fold.Exists
fold_of search.First = fold.First

-- what it comes to at a node of which its expression is true
abbrev pub found_by : Search → ℕ → Value ℕ
found_by search.Any n = Truth true
found_by search.First n = Ref (Some n)
