-- When two locations are the same.
use Rattle.std.specs.Prelude.{ℕ, List, [], ◌∷◌, Bool, ◌&&◌, nat_eq, bytes_eq}
use Rattle.at_model.specs.Run.{Location, Is, Tok, Slot, Up, Idx, Drawer}

-- the form of a location, its node, and its component or 0
abbrev pub form_of : Location ℕ → ℕ
form_of (Is n) = 0
form_of (Tok n part) = 1
form_of (Slot n part) = 2
form_of (Up n) = 3
form_of (Idx n) = 4
form_of (Drawer n part key mark) = 5

abbrev pub node_at : Location ℕ → ℕ
node_at (Is n) = n
node_at (Tok n part) = n
node_at (Slot n part) = n
node_at (Up n) = n
node_at (Idx n) = n
node_at (Drawer n part key mark) = n

abbrev pub part_at : Location ℕ → ℕ
part_at (Is n) = 0
part_at (Tok n part) = part
part_at (Slot n part) = part
part_at (Up n) = 0
part_at (Idx n) = 0
part_at (Drawer n part key mark) = part

-- the numbers of a drawer's key, and its mark: they tell it from others of the component
abbrev pub marks_at : Location ℕ → List ℕ
marks_at (Drawer n part key mark) = key.first ∷ key.classes ∷ key.token ∷ mark ∷ []
marks_at l = []

-- whether two locations are the same
abbrev pub same_location : Location ℕ → Location ℕ → Bool
same_location l m =
    nat_eq (form_of l) (form_of m) && (nat_eq (node_at l) (node_at m)
    && (nat_eq (part_at l) (part_at m) && bytes_eq (marks_at l) (marks_at m)))
