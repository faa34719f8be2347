-- What the values of this crate stand for.
use Rattle.std.specs.Prelude.{ℕ, map, List, Option, option_map, position, String, string_bytes}
use Rattle.std.specs.Str.{bytes_eq}
use Rattle.at_model.specs.Classes.{Classes, Class as ModelClass, Component, Shape, TokenKind as Kind}
use Rattle.at_model.specs.Classes as class
use Rattle.at_class.specs.declared.part.TokenKind.{TokenKind}
use Rattle.at_class.specs.declared.part.TokenKind.TheVariants.{Str, Int, Bool}
use Rattle.at_class.specs.declared.part.PartShape.{PartShape}
use Rattle.at_class.specs.declared.part.PartShape.TheVariants.{One, Many, Maybe, Tok}
use Rattle.at_class.specs.declared.part.Part.{Part}
use Rattle.at_class.specs.declared.class.Class.{Class}
use Rattle.at_class.specs.TreeView.{cell_view}

abbrev pub token_kind_view : TokenKind → Kind
token_kind_view Str = class.Text
token_kind_view Int = class.Int
token_kind_view Bool = class.Truth

abbrev pub shape_view : PartShape → Shape
shape_view (One c) = class.One c
shape_view (Many c) = class.Many c
shape_view (Maybe c) = class.Maybe c
shape_view (Tok kind) = class.Token (token_kind_view kind)

abbrev pub part_view : Part → Component
part_view p = record { name = string_bytes p.name; shape = shape_view p.shape; fixed = option_map cell_view p.fixed }

abbrev pub class_view : Class → ModelClass
class_view k = record { name = string_bytes k.name; is_abstract = k.is_abstract; parent = k.parent; own = map part_view k.own.items }

abbrev pub classes_view : List Class → Classes
classes_view ks = map class_view ks

-- the class that a name names, where these are the names in their order
abbrev pub named_in : {A : Type 0} → List (String A) → List ℕ → Option ℕ
named_in names name = position (λ n. bytes_eq name (string_bytes n)) names
