-- Accessors: what of a component the accessor of a name gets.
use Rattle.std.specs.Prelude.{ℕ, Bool, true, false, ◌||◌, ◌&&◌, List, ◌++◌, codes, position, Option, Some, None, is_some, option_map, option_and_then, slice_get}
use Rattle.std.specs.Option.{option_or}
use Rattle.std.specs.Str.{bytes_eq}
use Rattle.at_model.specs.Classes.{Classes, Component, Shape, TokenKind, parts}
use Rattle.at_model.specs.Classes as class
use Rattle.at_model.specs.Declarations.{first_given}
use Rattle.at_rules.specs.declared.body.Kind.{Kind}
use Rattle.at_rules.specs.declared.body.Kind.TheVariants as kind
use Rattle.at_kinds.specs.declared.accessors.Accessor.{Accessor}
use Rattle.at_kinds.specs.declared.accessors.Accessor.TheVariants as accessor

abbrev pub is_list : Shape → Bool
is_list (class.Many b) = true
is_list shape = false

abbrev pub is_optional : Shape → Bool
is_optional (class.Maybe b) = true
is_optional shape = false

-- the name is `get` and the component's name
abbrev pub is_got : List ℕ → Component → Bool
is_got name p = bytes_eq name (codes "get" ++ p.name)

-- `has` and the name of an optional
abbrev pub is_had : List ℕ → Component → Bool
is_had name p = is_optional p.shape && bytes_eq name (codes "has" ++ p.name)

-- `getNum` and the name of a list
abbrev pub is_counted : List ℕ → Component → Bool
is_counted name p = is_list p.shape && bytes_eq name (codes "getNum" ++ p.name)

-- `get`, the name of a list, and `List`
abbrev pub is_listed : List ℕ → Component → Bool
is_listed name p = is_list p.shape && bytes_eq name (codes "get" ++ p.name ++ codes "List")

-- the shape of one of the components
abbrev pub shape_of : List Component → ℕ → Option Shape
shape_of ps part = option_map (λ p. p.shape) (slice_get ps part)

abbrev pub token_kind : TokenKind → Kind
token_kind class.Int = kind.Int
token_kind class.Truth = kind.Bool
token_kind class.Text = kind.Text

-- what the accessor gets that is named after a component of that shape alone
abbrev pub getter : ℕ → Shape → Accessor
getter part (class.One b) = accessor.Child part b
getter part (class.Maybe b) = accessor.Child part b
getter part (class.Many b) = accessor.Element part b
getter part (class.Token k) = accessor.Token part (token_kind k)

-- the component of the class whose name stands behind `get`
abbrev pub accessed : Classes → ℕ → List ℕ → Option ℕ
accessed classes c name = position (is_got name) (parts classes c)

-- what the accessor gets that is named after that component alone
abbrev pub got_in : List Component → ℕ → Option Accessor
got_in ps part = option_map (getter part) (shape_of ps part)

-- the accessor of that name that is named after an optional or a list, and not alone; where the name is both the number of one list
-- and the list of another, it is the number
abbrev pub named_besides : List Component → List ℕ → Option Accessor
named_besides ps name =
    option_or (option_map accessor.Has (position (is_had name) ps))
    (option_or (option_map accessor.Count (position (is_counted name) ps))
    (option_map accessor.List (position (is_listed name) ps)))

abbrev pub got_or : List Component → Option Accessor → Option ℕ → Option Accessor
got_or ps other None = other
got_or ps other (Some part) = got_in ps part

-- the accessor of that name of nodes of class c
abbrev pub accessor_named : Classes → ℕ → List ℕ → Option Accessor
accessor_named classes c name = got_or (parts classes c) (named_besides (parts classes c) name) (accessed classes c name)

abbrev pub element_class : Shape → Option ℕ
element_class (class.Many b) = Some b
element_class shape = None

abbrev pub listed_in : List Component → ℕ → Option (ℕ × ℕ)
listed_in ps part = option_map (λ b. (part, b)) (option_and_then element_class (shape_of ps part))

-- the list of class c whose list accessor has that name, and the class of its elements
abbrev pub listed : Classes → ℕ → List ℕ → Option (ℕ × ℕ)
listed classes c name = option_and_then (listed_in (parts classes c)) (position (is_listed name) (parts classes c))

-- the accessors that every node has, and the method that every text has
abbrev pub is_common : List ℕ → Bool
is_common name = bytes_eq name (codes "equals") || bytes_eq name (codes "getParent") || bytes_eq name (codes "getChild") || bytes_eq name (codes "getNumChild")

-- a class has an accessor of that name
abbrev pub is_accessed : Classes → List ℕ → Bool
is_accessed classes name = is_some (first_given (λ c k. accessor_named classes c name) 0 classes)

-- a class has an accessor of that name, or each node or text a method
abbrev pub is_accessor : Classes → List ℕ → Bool
is_accessor classes name = is_common name || is_accessed classes name
