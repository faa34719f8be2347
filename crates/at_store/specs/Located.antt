-- What a location stands for.
use Rattle.std.specs.Prelude.{ℕ}
use Rattle.at_model.specs.Run.{Location, Is, Tok, Slot, Up, Idx, Drawer}
use Rattle.at_class.specs.Keys.{key_view}
use Rattle.at_store.specs.declared.node.Loc.{Loc}
use Rattle.at_store.specs.declared.node.Loc.TheVariants as loc

abbrev pub loc_view : Loc → Location ℕ
loc_view (loc.Is node) = Is node
loc_view (loc.Tok node part) = Tok node part
loc_view (loc.Slot node part) = Slot node part
loc_view (loc.Up node) = Up node
loc_view (loc.Idx node) = Idx node
loc_view (loc.Drawer node part first token classes mark) = Drawer node part (key_view (record { first = first; token = token; classes = classes })) mark
