-- What a grammar as written means.
use Rattle.std.specs.Prelude.{ℕ, List, [], map, Bool, Option, Some, None, String}
use Rattle.std.specs.Option.{is_some}
use Rattle.std.specs.Global.{Global}
use Rattle.std.specs.String.{string_bytes}
use lib.Chars.{codes}
use Rattle.at_text.specs.declared.place.Place.{Place}
use Rattle.at_grammar.specs.declared.syntax.PartDecl.{PartDecl}
use Rattle.at_grammar.specs.declared.syntax.ClassDecl.{ClassDecl}
use Rattle.at_grammar.specs.declared.syntax.Shape.{Shape}
use Rattle.at_grammar.specs.declared.syntax.Shape.TheVariants as shape
use Rattle.at_grammar.specs.Grammar.{Word, Typed, Part, Child, Children, Optional, Token, Declaration}

-- a component: its name, its class or the kind of its token, and the line and column of its name
pub record Component : Type 0 where
  pub name : List ℕ
  pub kind : List ℕ
  pub shape : Shape
  pub at : Place

-- a class: its name, its superclass, its own components in order, and the line and column of its name
pub record Class : Type 0 where
  pub name : List ℕ
  pub is_abstract : Bool
  pub parent : Option (List ℕ)
  pub parts : List Component
  pub at : Place

abbrev pub text_of : Option Word → Option (List ℕ)
text_of None = None
text_of (Some w) = Some w.text

-- the kind that is written, or else the other
abbrev pub kind_or : List ℕ → Option (List ℕ) → List ℕ
kind_or other None = other
kind_or other (Some k) = k

-- a component with no name of its own takes its class's name
abbrev pub child_means : Shape → Typed → Component
child_means s t = record { name = t.name.text; kind = kind_or t.name.text (text_of t.kind); shape = s; at = t.name.at }

-- a token without a kind is a String
abbrev pub token_means : Typed → Component
token_means t = record { name = t.name.text; kind = kind_or (codes "String") (text_of t.kind); shape = shape.Tok; at = t.name.at }

abbrev pub part_means : Part → Component
part_means (Child t) = child_means shape.One t
part_means (Children t) = child_means shape.Many t
part_means (Optional t) = child_means shape.Maybe t
part_means (Token t) = token_means t

abbrev pub body_means : Option (List Part) → List Component
body_means None = []
body_means (Some ps) = map part_means ps

abbrev pub class_means : Declaration → Class
class_means d = record { name = d.name.text; is_abstract = is_some d.abstract_at; parent = text_of d.parent; parts = body_means d.parts; at = d.name.at }

-- ---- what is answered, without where it lies in memory

abbrev pub bytes_of : Option (String Global) → Option (List ℕ)
bytes_of None = None
bytes_of (Some s) = Some (string_bytes s)

abbrev pub seen_part : PartDecl → Component
seen_part p = record { name = string_bytes p.name; kind = string_bytes p.kind; shape = p.shape; at = p.at }

abbrev pub seen_class : ClassDecl → Class
seen_class c = record { name = string_bytes c.name; is_abstract = c.is_abstract; parent = bytes_of c.parent; parts = map seen_part c.parts.items; at = c.at }
