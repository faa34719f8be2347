-- What each refusal says of an edit and of a line, in words of its own, and which comes first. `Edits` and `Machine` have the tests.
use Rattle.std.specs.Prelude.{◌≡◌, ◌⊎◌, ℕ, ◌≤◌, Bool, true, false, ◌&&◌, nat_eq, nat_le, List, [], ◌∷◌, length, count_by, Option, Some, None, option_and_then, option_map, is_some, IsSome, map}
use Rattle.std.specs.List.{flat_map}
use Rattle.at_model.specs.Classes.{Classes, Shape}
use Rattle.at_model.specs.Trees.{Tree, class_of, nodes}
use Rattle.at_model.specs.Terms.{Term}
use Rattle.at_model.specs.Paths.{Node, tree_at}
use Rattle.at_model.specs.Run.{Value}
use Rattle.at_model.specs.Rules.{Rules, attribute_asked}
use Rattle.at_model.specs.Meaning.{Among}
use Rattle.at_model.specs.Edits.{Edit, Refusal, has_component, fits_there, is_in_range, is_free, is_loose, is_removable, is_outside, is_within_limits, left_by, shape_at, class_asked, list_class, optional_class, token_kind}
use Rattle.at_model.specs.Edits as edit
use Rattle.at_model.specs.Shaping.{names_classes, shaped}
use Rattle.at_model.specs.Effects.{component_named}
use Rattle.at_model.specs.Lines.{Line, Place, Argument, Ref, Command, Ask, Set, Put, Drop, Insert, Token, Move, Show, Mark, Post, Wait, last_version, last_post}
use Rattle.at_model.specs.Replies.{Code}
use Rattle.at_model.specs.Replies as code
use Rattle.at_model.specs.Machine.{State, Posted, marked, marks_used, node_named, value_named, each, suit, is_read, is_posted, code_of, max_marks, max_posted}

-- the number of a code: the lower one is told of two that apply
abbrev pub number : Code → ℕ
number code.Syntax = 1
number (code.Stale version) = 2
number code.Mark = 3
number code.Path = 4
number code.Component = 5
number code.Class = 6
number code.Fit = 7
number code.Index = 8
number code.Taken = 9
number code.Fixed = 10
number code.Inside = 11
number code.Limit = 12
number code.Attribute = 13
number code.Arguments = 14
number code.Question = 15

-- edits ----------------------------------------------------------------------------------------------------------------

-- the number of the code by which a refused edit is answered
abbrev pub rank : Refusal → ℕ
rank r = number (code_of r)

-- there is that reason to refuse the edit
abbrev pub Breaks : Classes → Tree → Edit → Refusal → Type 0
Breaks classes t e edit.Component = has_component classes t e ≡ false
Breaks classes t e edit.Fit = fits_there classes t e ≡ false
Breaks classes t e edit.Index = is_in_range t e ≡ false
Breaks classes t e edit.Taken = is_free t e ≡ false
Breaks classes t e edit.Fixed = (is_loose classes t e && is_removable classes t e) ≡ false
Breaks classes t e edit.Inside = is_outside e ≡ false
Breaks classes t e edit.Limit = is_within_limits (left_by t e) ≡ false

-- the words of commands ------------------------------------------------------------------------------------------------

abbrev pub places_in : Argument → List Place
places_in (Ref place) = place ∷ []
places_in a = []

-- the places that a command names; those of a question that is posted are looked at later
abbrev pub places : Command → List Place
places (Ask place attribute arguments) = place ∷ flat_map places_in arguments
places (Set place t) = place ∷ []
places (Put place part t) = place ∷ []
places (Drop place) = place ∷ []
places (Insert place part index t) = place ∷ []
places (Token place part v) = place ∷ []
places (Move place to part index) = place ∷ to ∷ []
places (Show place) = place ∷ []
places (Mark name place) = place ∷ []
places command = []

-- a component that a command asks for: the place of its node, its name, and which shapes serve
pub record Asked : Type 0 where
  pub place : Place
  pub name : List ℕ
  pub serves : Shape → Bool

-- an optional to be filled, a list that is put into, a token
abbrev pub component_asked : Command → Option Asked
component_asked (Put place part t) = Some (record { place = place; name = part; serves = λ shape. is_some (optional_class shape) })
component_asked (Insert place part index t) = Some (record { place = place; name = part; serves = λ shape. is_some (list_class shape) })
component_asked (Token place part v) = Some (record { place = place; name = part; serves = λ shape. is_some (token_kind shape) })
component_asked (Move place to part index) = Some (record { place = to; name = part; serves = λ shape. is_some (list_class shape) })
component_asked command = None

-- the term that is to be written into the tree
abbrev pub term_in : Command → Option Term
term_in (Set place t) = Some t
term_in (Put place part t) = Some t
term_in (Insert place part index t) = Some t
term_in command = None

-- what they name -------------------------------------------------------------------------------------------------------

-- the shape of the component of that name of the node at the place
abbrev pub shape_named : Classes → State → ℕ → Place → List ℕ → Option Shape
shape_named classes s session place name =
    option_and_then (λ n. option_and_then (shape_at classes s.tree n) (component_named classes s.tree n name)) (node_named classes s session place)

-- the node has such a component
pub record HasComponent (classes : Classes) (s : State) (session : ℕ) (a : Asked) : Type 0 where
  pub shape : Shape
  pub there : shape_named classes s session a.place a.name ≡ Some shape
  pub serves : a.serves shape ≡ true

-- the class that is asked where the term is to stand
abbrev pub class_for : Classes → State → ℕ → Command → Option ℕ
class_for classes s session (Set place t) = option_and_then (class_asked classes s.tree) (node_named classes s session place)
class_for classes s session (Put place part t) = option_and_then optional_class (shape_named classes s session place part)
class_for classes s session (Insert place part index t) = option_and_then list_class (shape_named classes s session place part)
class_for classes s session command = None

-- the tree of that class that the term is
abbrev pub tree_for : Classes → State → ℕ → Command → Option Tree
tree_for classes s session command = option_and_then (λ t. option_and_then (shaped classes t) (class_for classes s session command)) (term_in command)

-- the edit of the node at the place and of its component of that name
abbrev pub with_part : Classes → State → ℕ → Place → List ℕ → (Node → ℕ → Edit) → Option Edit
with_part classes s session place name edit_of =
    option_and_then (λ n. option_map (edit_of n) (component_named classes s.tree n name)) (node_named classes s session place)

-- the edit that the command is, where all that it names is there
abbrev pub meant : Classes → State → ℕ → Command → Option Edit
meant classes s session (Set place t) =
    option_and_then (λ u. option_map (λ n. edit.Set n u) (node_named classes s session place)) (tree_for classes s session (Set place t))
meant classes s session (Put place part t) =
    option_and_then (λ u. with_part classes s session place part (λ n p. edit.Put n p u)) (tree_for classes s session (Put place part t))
meant classes s session (Drop place) = option_map (λ n. edit.Drop n) (node_named classes s session place)
meant classes s session (Insert place part index t) =
    option_and_then (λ u. with_part classes s session place part (λ n p. edit.Insert n p index u)) (tree_for classes s session (Insert place part index t))
meant classes s session (Token place part v) = with_part classes s session place part (λ n p. edit.Token n p v)
meant classes s session (Move place to part index) =
    option_and_then (λ n. with_part classes s session to part (λ m p. edit.Move n m p index)) (node_named classes s session place)
meant classes s session command = None

-- lines ----------------------------------------------------------------------------------------------------------------

-- the attribute of that name of the node, asked with so many arguments
abbrev pub attribute_at : Rules → Tree → Node → List ℕ → (count : ℕ) → Option ℕ
attribute_at rules t n name count = option_and_then (λ u. attribute_asked rules (class_of u) name count) (tree_at t n)

-- the line expects another version
abbrev pub ExpectsOther : Option ℕ → ℕ → Type 0
ExpectsOther expected version = (v : ℕ) × (expected ≡ Some v) × (v ≡ version → ⊥)

-- the line is that edit, and there is that reason to refuse it
abbrev pub IsRefusedAs : Rules → State → Line → Refusal → Type 0
IsRefusedAs rules s l r = (e : Edit) × (meant rules.classes s l.session l.command ≡ Some e) × Breaks rules.classes s.tree e r

-- the line is an edit that would leave more nodes than the tree may have
abbrev pub IsTooLarge : Rules → State → Line → Type 0
IsTooLarge rules s l = (e : Edit) × (meant rules.classes s l.session l.command ≡ Some e) × (nat_le (nodes (left_by s.tree e)) s.limit ≡ false)

-- the line is an edit of a tree of the last version
abbrev pub IsPastLast : Rules → State → Line → Type 0
IsPastLast rules s l = (e : Edit) × (meant rules.classes s l.session l.command ≡ Some e) × (s.version ≡ last_version)

-- the line makes a mark of a name that its session has
abbrev pub MarksAgain : State → Line → Type 0
MarksAgain s l = (name : List ℕ) × (place : Place) × (l.command ≡ Mark name place) × IsSome (marked s.marks l.session name)

-- the line makes a mark, and its session has as many as it may
abbrev pub MarksTooMany : State → Line → Type 0
MarksTooMany s l = (name : List ℕ) × (place : Place) × (l.command ≡ Mark name place) × (max_marks ≤ count_by (λ m. nat_eq l.session m.session) s.marks)

-- the line posts a question, and its session has as many open as it may, or there is no number left
abbrev pub PostsTooMany : State → Line → Type 0
PostsTooMany s l =
    (place : Place) × (name : List ℕ) × (arguments : List Argument) × (l.command ≡ Post place name arguments) ×
    ((max_posted ≤ count_by (λ q. nat_eq l.session q.session) s.posted) ⊎ (s.posts ≡ last_post))

-- the line asks of a node an attribute that it has not
pub record AsksNone (rules : Rules) (s : State) (l : Line) : Type 0 where
  pub place : Place
  pub name : List ℕ
  pub arguments : List Argument
  pub node : Node
  pub asks : l.command ≡ Ask place name arguments
  pub named : node_named rules.classes s l.session place ≡ Some node
  pub none : attribute_at rules s.tree node name (length arguments) ≡ None

-- the line asks an attribute for arguments that don't fit its parameters
pub record AsksAmiss (rules : Rules) (s : State) (l : Line) : Type 0 where
  pub place : Place
  pub name : List ℕ
  pub arguments : List Argument
  pub node : Node
  pub attribute : ℕ
  pub values : List (Value Node)
  pub asks : l.command ≡ Ask place name arguments
  pub named : node_named rules.classes s l.session place ≡ Some node
  pub found : attribute_at rules s.tree node name (length values) ≡ Some attribute
  pub told : each (map (value_named rules.classes s l.session) arguments) ≡ Some values
  pub amiss : suit rules s.tree attribute values ≡ false

-- the line waits for a question that its session has not open
abbrev pub WaitsForNone : State → Line → Type 0
WaitsForNone s l = (asked : ℕ) × (l.command ≡ Wait asked) × ((q : Posted) → Among q s.posted → is_posted l.session asked q ≡ true → ⊥)

-- there is that reason to refuse the line
abbrev pub Applies : Rules → State → Line → Code → Type 0
Applies rules s l code.Syntax = is_read rules l.command ≡ false
Applies rules s l (code.Stale version) = ExpectsOther l.expected s.version × (version ≡ s.version)
Applies rules s l code.Mark = (name : List ℕ) × Among name (marks_used l.command) × (marked s.marks l.session name ≡ None)
Applies rules s l code.Path = (place : Place) × Among place (places l.command) × (node_named rules.classes s l.session place ≡ None)
Applies rules s l code.Component = (a : Asked) × (component_asked l.command ≡ Some a) × (HasComponent rules.classes s l.session a → ⊥)
Applies rules s l code.Class = (t : Term) × (term_in l.command ≡ Some t) × (names_classes rules.classes t ≡ false)
Applies rules s l code.Fit = ((t : Term) × (term_in l.command ≡ Some t) × (tree_for rules.classes s l.session l.command ≡ None))
    ⊎ IsRefusedAs rules s l edit.Fit
Applies rules s l code.Index = IsRefusedAs rules s l edit.Index
Applies rules s l code.Taken = IsRefusedAs rules s l edit.Taken ⊎ MarksAgain s l
Applies rules s l code.Fixed = IsRefusedAs rules s l edit.Fixed
Applies rules s l code.Inside = IsRefusedAs rules s l edit.Inside
Applies rules s l code.Limit =
    IsRefusedAs rules s l edit.Limit ⊎ ((IsTooLarge rules s l ⊎ IsPastLast rules s l) ⊎ (MarksTooMany s l ⊎ PostsTooMany s l))
Applies rules s l code.Attribute = AsksNone rules s l
Applies rules s l code.Arguments = AsksAmiss rules s l
Applies rules s l code.Question = WaitsForNone s l
