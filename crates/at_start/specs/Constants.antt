-- Constants: nonterminal attributes whose trees are written down (JastAdd2 reference manual, "Nonterminal attributes"). One fills the
-- component of its name that stands between slashes in the grammar, or else its class has one more component, of the attribute's name. In
-- that component the tree, or the list of trees, is fixed.
use Rattle.std.specs.Prelude.{ℕ, zero, suc, ◌+◌, Bool, true, false, ◌&&◌, ◌==◌, not, nat_le, List, [], ◌∷◌, ◌++◌, map, length, filter_map, position, Option, Some, None, is_some, option_map, option_and_then, if◌then◌else◌}
use Rattle.std.specs.List.{filter, list_any, slice_get}
use Rattle.std.specs.Str.{bytes_eq}
use Rattle.at_model.specs.Classes.{Classes, class_of_name, parts}
use Rattle.at_model.specs.Declarations.{Declarations, Declaration, Form, PartDeclaration, Place, class_named, classes_of}
use Rattle.at_model.specs.Declarations as form
use Rattle.at_model.specs.Paths.{part_named}
use Rattle.at_model.specs.Shaping.{shaped, terms_shaped}
use Rattle.at_model.specs.SyntaxTrees.{Cell, cell_eq}
use Rattle.at_model.specs.SyntaxTrees as tree
use Rattle.at_model.specs.Trees.{cell_depth, cell_nodes}
use Rattle.at_model.specs.Edits.{usual_nodes}
use Rattle.at_model.specs.Terms.{max_depth}
use Rattle.at_model.specs.Terms as term
use Rattle.at_class.specs.Fixing.{Fixed, fixed_as}
use Rattle.at_class.specs.Grammar.{place_view}
use Rattle.at_java.specs.Declarations.{Constant}
use Rattle.at_java.specs.Files.{Contents}

-- a constant, and the number of the file in which it stands
pub record Placed : Type 0 where
  pub file : ℕ
  pub constant : Constant

abbrev pub in_file : (file : ℕ) → List Constant → List Placed
in_file file ks = map (λ k. record { file = file; constant = k }) ks

-- those of files, the first of which has this number
abbrev pub constants_from : (file : ℕ) → List Contents → List Placed
constants_from file [] = []
constants_from file (c ∷ cs) = in_file file c.constants ++ constants_from (file + 1) cs

-- ---- where components stand

-- the position of the component of that name
abbrev pub part_called : List ℕ → List PartDeclaration → Option ℕ
part_called name ps = position (λ p. bytes_eq name p.name) ps

abbrev pub parts_declared : Declarations → ℕ → List PartDeclaration
parts_declared ds c = elim (slice_get ds c) [ None ↦ [] | Some d ↦ d.parts ]

-- where its component stands: the class, and the position among the class's own
abbrev pub place_in : Declarations → Constant → Option (ℕ × ℕ)
place_in ds k = option_and_then (λ c. option_map (λ i. (c, i)) (part_called k.name.text (parts_declared ds c))) (class_named ds k.class.text)

-- the one that stands there
abbrev pub part_at : Declarations → ℕ × ℕ → Option PartDeclaration
part_at ds p = slice_get (parts_declared ds p.0) p.1

-- ---- components that constants fill

-- it stands between slashes: its place is among the marks of the grammar
abbrev pub is_marked : List Place → PartDeclaration → Bool
is_marked marks p = list_any (λ (m : Place). (m.0 == p.at.0) && (m.1 == p.at.1)) marks

abbrev pub if_marked : List Place → PartDeclaration → Option PartDeclaration
if_marked marks p = if is_marked marks p then Some p else None

-- the component that the constant fills: the one of its name that its class declares itself, if that is marked
abbrev pub filled : List Place → Declarations → Constant → Option PartDeclaration
filled marks ds k = option_and_then (if_marked marks) (option_and_then (part_at ds) (place_in ds k))

-- those that fill none
abbrev pub additions : List Place → Declarations → List Placed → List Placed
additions marks ds ks = filter (λ k. not (is_some (filled marks ds k.constant))) ks

-- the class without its marked components
abbrev pub bare_class : List Place → Declaration → Declaration
bare_class marks d = record {
  name = d.name;
  is_abstract = d.is_abstract;
  parent = d.parent;
  parts = filter (λ p. not (is_marked marks p)) d.parts;
  at = d.at;
}

abbrev pub bare : List Place → Declarations → Declarations
bare marks ds = map (bare_class marks) ds

-- ---- components of the others

-- how the component is written that such a cell fills
abbrev pub form_of : term.Cell → Form
form_of (term.One t) = form.One
form_of (term.Many ts) = form.Many
form_of term.Empty = form.Maybe
form_of (term.Holds v) = form.Tok

abbrev pub component : Constant → PartDeclaration
component k = record { name = k.name.text; kind = k.kind.text; form = form_of k.cell; at = place_view k.name.at }

-- the class declares it behind its own components
abbrev pub declaring : Declaration → Constant → Declaration
declaring d k = record { name = d.name; is_abstract = d.is_abstract; parent = d.parent; parts = d.parts ++ component k ∷ []; at = d.at }

-- the first class of its name declares it; where there is none nothing changes
abbrev pub with_component : Declarations → Constant → Declarations
with_component [] k = []
with_component (d ∷ ds) k = if bytes_eq k.class.text d.name then declaring d k ∷ ds else d ∷ with_component ds k

abbrev pub with_components : Declarations → List Placed → Declarations
with_components ds [] = ds
with_components ds (k ∷ ks) = with_components (with_component ds k.constant) ks

-- ---- what is fixed in them

-- it isn't larger than trees are where nothing else is said: a tree of classes with constants holds theirs, too
abbrev pub is_moderate : Cell → Bool
is_moderate c = nat_le (cell_nodes c) usual_nodes && nat_le (cell_depth c) max_depth

abbrev pub if_moderate : Cell → Option Cell
if_moderate c = if is_moderate c then Some c else None

-- the tree that a term makes of these classes, or the list that terms make, under that class
abbrev pub cell_under : Classes → term.Cell → ℕ → Option Cell
cell_under classes (term.One t) b = option_map (λ u. tree.One u) (shaped classes t b)
cell_under classes (term.Many ts) b = option_map (λ us. tree.Many us) (terms_shaped classes ts b)
cell_under classes term.Empty b = None
cell_under classes (term.Holds v) b = None

-- what is written of the constant makes this of these classes
abbrev pub made_over : Classes → Constant → Option Cell
made_over classes k = option_and_then (cell_under classes k.cell) (class_of_name classes k.kind.text)

-- and this, where it isn't too large
abbrev pub cell_over : Classes → Constant → Option Cell
cell_over classes k = option_and_then if_moderate (made_over classes k)

-- what is fixed in its component, where something is made of the classes below
abbrev pub fix_over : Classes → Declarations → Placed → Option Fixed
fix_over below ds k =
    option_and_then (λ p. option_map (λ d. record { class = p.0; part = p.1; cell = d }) (cell_over below k.constant)) (place_in ds k.constant)

abbrev pub fixes_over : Classes → Declarations → List Placed → List Fixed
fixes_over below ds ks = filter_map (fix_over below ds) ks

-- The classes in which constants are fixed whose trees nest less deep than so many: at each level those of which something is made of the
-- classes of the level below.
unfoldable pub level : Declarations → List Placed → ℕ → Classes
level ds ks zero = classes_of ds
level ds ks (suc n) = fixed_as (fixes_over (level ds ks n) ds ks) (classes_of ds)

-- The grammar with a component for each constant that fills none.
abbrev pub whole_grammar : List Place → Declarations → List Placed → Declarations
whole_grammar marks ds ks = with_components ds (additions marks ds ks)

-- The classes that it declares, in which all are fixed: none nests deeper than there are constants.
abbrev pub planted_classes : List Place → Declarations → List Placed → Classes
planted_classes marks ds ks = level (whole_grammar marks ds ks) ks (length ks)

-- what is fixed in its component
abbrev pub fixed_in : Classes → Constant → Option Cell
fixed_in classes k = option_and_then (λ c. option_and_then (λ i. option_and_then (λ p. p.fixed) (slice_get (parts classes c) i))
    (part_named classes c k.name.text)) (class_of_name classes k.class.text)

abbrev pub are_same : Option Cell → Option Cell → Bool
are_same (Some c) (Some d) = cell_eq c d
are_same (Some c) None = false
are_same None d = false

-- what is made of the classes is what is fixed in its component
abbrev pub stands : Classes → Constant → Bool
stands classes k = are_same (fixed_in classes k) (cell_over classes k)
