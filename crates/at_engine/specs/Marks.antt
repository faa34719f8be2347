-- Marks as they are held, and what they stand for.
use Rattle.std.specs.Prelude.{◌≡◌, ℕ, Bool, true, ◌&&◌, nat_eq, List, ◌++◌, map, Option, option_map, is_some, find, filter_map, bytes_eq}
use Rattle.std.specs.Cow.{cow_str_bytes}
use Rattle.std.specs.List.{AllByRecursion, list_any}
use Rattle.at_model.specs.Paths.{Node}
use Rattle.at_model.specs.Machine.{Marked, marks_named}
use Rattle.at_engine.specs.declared.marks.Key.{Key}

-- a session's name for the node of that number
pub record Mark : Type 0 where
  pub session : ℕ
  pub name : List ℕ
  pub node : ℕ

-- the mark that an entry of the map stands for, and those of all entries
abbrev pub mark_of : Key × ℕ → Mark
mark_of e = record { session = e.0.session; name = cow_str_bytes e.0.name; node = e.1 }

abbrev pub listed : List (Key × ℕ) → List Mark
listed es = map mark_of es

-- it is the session's mark of that name
abbrev pub is_named : ℕ → List ℕ → Mark → Bool
is_named session name m = nat_eq session m.session && bytes_eq name m.name

-- one of the marks is of the node of that number
abbrev pub has_node : List Mark → ℕ → Bool
has_node marks node = list_any (λ m. nat_eq node m.node) marks

-- the number that the session has marked by the name
abbrev pub number_marked : List Mark → ℕ → List ℕ → Option ℕ
number_marked marks session name = option_map (λ m. m.node) (find (is_named session name) marks)

-- the mark, of a node at that path
abbrev pub mark_at : Mark → Node → Marked
mark_at m n = record { session = m.session; name = m.name; node = n }

-- what the marks stand for whose numbers have these paths
abbrev pub marks_view : (ℕ → Option Node) → List Mark → List Marked
marks_view look marks = filter_map (λ m. option_map (mark_at m) (look m.node)) marks

-- the node of each mark is there
abbrev pub AreThere : (ℕ → Option Node) → List Mark → Type 0
AreThere look marks = AllByRecursion (λ m. is_some (look m.node) ≡ true) marks

-- the session has a mark of that name
abbrev pub has_mark : List Mark → ℕ → List ℕ → Bool
has_mark marks session name = is_some (number_marked marks session name)

-- behind the old copies stand those of the session's marks of these names
pub record Copies (session : ℕ) (names : List (List ℕ)) (marks old new : List Mark) : Type 0 where
  pub named : (look : ℕ → Option Node) → AreThere look marks → marks_view look new ≡ marks_view look old ++ marks_named (marks_view look marks) session names
  pub there : (look : ℕ → Option Node) → AreThere look marks → AreThere look old → AreThere look new
