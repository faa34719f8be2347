-- What an edit touches, of the locations that a store's numbers have.
use Rattle.std.specs.Prelude.{◌≡◌, ℕ, Bool, Some}
use Rattle.at_model.specs.Paths.{Node}
use Rattle.at_model.specs.Run.{Location}
use Rattle.at_model.specs.Alike.{LocationLike, Names}
use Rattle.at_model.specs.Edits.{Edit}
use Rattle.at_model.specs.Touches.{node_of, touches_in}
use Rattle.at_store.specs.Shown.{Shown, path, tree}

-- the answer for a location is whether the edit touches it, where it is one of the tree
abbrev pub Touches : Shown → Edit → Location ℕ → Bool → Type 0
Touches s e l b = (m : Location Node) → LocationLike (Names (path s)) l m → touches_in (tree s) e m ≡ b

-- and its node is one of the tree
abbrev pub TouchesThere : Shown → Edit → Location ℕ → Bool → Type 0
TouchesThere s e l b = Touches s e l b × ((n : Node) × (path s (node_of l) ≡ Some n))
