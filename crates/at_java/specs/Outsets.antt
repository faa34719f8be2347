-- The headings of constants: what is made, and of which component (JastAdd2 reference manual, nonterminal attributes).
use Rattle.std.specs.Prelude.{ℕ, List, [], ◌∷◌, ◌-◌, length, take, drop, Bool, true, false, cond, ◌&&◌, ◌||◌, nat_eq, Option, Some, None}
use Rattle.std.specs.List.{starts_with, ends_with}
use Rattle.std.specs.Str.{bytes_eq}
use lib.Chars.{codes}
use Rattle.at_text.specs.Symbols.{PlacedToken}
use Rattle.at_text.specs.Rows.{Row, is_sign, is_word, next_is}
use Rattle.at_text.specs.declared.place.Place.{Place}
use Rattle.at_jrag.specs.Syntax.{Word}
use Rattle.at_java.specs.Read.{Read, got, fails, here, at_place, then_read}
use Rattle.at_java.specs.Tokens.{sign_here, name}
use Rattle.at_java.specs.Next.{after_sign, other_code}
use Rattle.at_java.specs.Kinds.{goes_on}
use Rattle.at_java.specs.Constants.{sign_of, name_of}
use Rattle.at_java.specs.declared.JavaCode.TheVariants.{LeftOut}

-- ---- kinds

-- the kinds that are no classes
abbrev pub is_basic : PlacedToken → Bool
is_basic t = is_word (codes "int") t || (is_word (codes "boolean") t || is_word (codes "String") t)

-- the class of a tree, or of the elements of a list; and where the kind stands
pub record Shape : Type 0 where
  pub class : Word
  pub is_list : Bool
  pub at : Place

-- one that goes on is left out
abbrev pub whole_shape : Shape → Row → Read Shape
whole_shape s rest = cond (next_is goes_on rest) (fails (at_place LeftOut s.at)) (got s rest)

-- "<" name ">", behind the `List` at this place
abbrev pub element_class : Place → Row → Read Word
element_class at row = then_read (sign_of at (codes "<") row) (λ angle named. then_read (name_of at named) (λ w close.
    then_read (sign_of at (codes ">") close) (λ end left. got w left)))

-- the word is followed by the class of elements
abbrev pub opens_list : Word → Row → Bool
opens_list w rest = bytes_eq w.text (codes "List") && next_is (is_sign (codes "<")) rest

-- behind the first name
abbrev pub shape_of : Word → Row → Read Shape
shape_of w rest = cond (opens_list w rest)
    (then_read (element_class w.at rest) (λ class left. whole_shape (record { class = class; is_list = true; at = w.at }) left))
    (whole_shape (record { class = w; is_list = false; at = w.at }) rest)

-- name | "List" "<" name ">": another kind is left out
abbrev pub shape : Row → Read Shape
shape row = cond (next_is is_basic row) (fails (here LeftOut row)) (then_read (name row) shape_of)

-- ---- components

-- a component's name, and whether it is declared by its own accessor
pub record Component : Type 0 where
  pub name : Word
  pub is_accessor : Bool

abbrev pub if_any : List ℕ → Option (List ℕ)
if_any [] = None
if_any (c ∷ cs) = Some (c ∷ cs)

-- what stands behind `get`
abbrev pub behind_get : List ℕ → Option (List ℕ)
behind_get text = cond (starts_with nat_eq text (codes "get")) (if_any (drop 3 text)) None

-- what stands in front of `List`
abbrev pub before_list : List ℕ → Option (List ℕ)
before_list text = cond (ends_with nat_eq text (codes "List")) (if_any (take (length text - 4) text)) None

-- by the accessor of what is behind `get`, else by its name
abbrev pub tree_component : Word → Option (List ℕ) → Component
tree_component w (Some text) = record { name = record { text = text; at = w.at }; is_accessor = true }
tree_component w None = record { name = w; is_accessor = false }

-- a list is declared by its accessor alone, `get..List`: another name is left out where the kind stands
abbrev pub list_component : Place → Word → Option (List ℕ) → Row → Read Component
list_component at w (Some text) rest = got (record { name = record { text = text; at = w.at }; is_accessor = true }) rest
list_component at w None rest = fails (at_place LeftOut at)

abbrev pub list_name : Option (List ℕ) → Option (List ℕ)
list_name None = None
list_name (Some text) = before_list text

-- the one that the declared name is of; no token is read
abbrev pub component : Shape → Word → Row → Read Component
component s w rest = cond s.is_list (list_component s.at w (list_name (behind_get w.text)) rest) (got (tree_component w (behind_get w.text)) rest)

-- ---- headings

-- ")": parameters are left out
abbrev pub no_params : Row → Read Place
no_params row = after_sign (codes ")") row (λ end rest. got end rest) (fails (here (other_code row) row))

-- the component that is filled, by a tree of this kind or by a list of such trees, and the parenthesis behind the declared name
pub record Outset : Type 0 where
  pub kind : Word
  pub is_list : Bool
  pub class : Word
  pub name : Word
  pub is_accessor : Bool
  pub end : Place

-- "(" ")", behind the name of an attribute of the class
abbrev pub outset_end : Shape → Word → Component → Row → Read Outset
outset_end s class c row = then_read (sign_here (codes "(") row) (λ start inner. then_read (no_params inner) (λ end left.
    got (record { kind = s.class; is_list = s.is_list; class = class; name = c.name; is_accessor = c.is_accessor; end = end }) left))

-- shape name "." name "(" ")"
abbrev pub outset : Row → Read Outset
outset row = then_read (shape row) (λ s named. then_read (name named) (λ class dotted. then_read (sign_here (codes ".") dotted) (λ dot behind.
    then_read (name behind) (λ w declared. then_read (component s w declared) (λ c paren. outset_end s class c paren)))))
