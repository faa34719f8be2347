-- What rules are in the words of the model. Each map lists its entries in the order of the declarations.
use Rattle.std.specs.Prelude.{◌≡◌, ℕ, false, ◌&&◌, nat_eq, nat_lt, length, List, [], map, filter, option_map, Option, None, Some, String, string_bytes}
use Rattle.std.specs.List.{slice_get, list_any}
use Rattle.std.specs.Map.{lookup}
use Rattle.std.specs.Option.{option_eq, option_or}
use Rattle.std.specs.Str.{bytes_eq}
use Rattle.at_model.specs.Bodies.{Expr}
use Rattle.at_model.specs.Rules.{Attribute, OwnEquation, InheritedEquation}
use Rattle.at_rules.specs.Bodies.{body_view, kind_view}
use Rattle.at_rules.specs.declared.body.Body.{Body}
use Rattle.at_rules.specs.declared.rules.Attribute.{Attribute as AttributeValue}

-- the name of that number
abbrev pub text_of : {Z : Type 0} → List (String Z) → ℕ → List ℕ
text_of names number = elim (slice_get names number) [ None ↦ [] | Some text ↦ string_bytes text ]

-- an attribute stands by its class and the number of its name
abbrev pub attribute_view : {Z : Type 0} → List (String Z) → (ℕ × ℕ) × AttributeValue → Attribute
attribute_view names e = record {
  name = text_of names e.0.1;
  class = e.0.0;
  parameters = map kind_view e.1.params.items;
  result = kind_view e.1.result;
  is_lazy = e.1.is_lazy;
  is_inherited = e.1.is_inherited;
  start = e.1.start;
}

-- an equation for the class's own nodes stands by its class and attribute
abbrev pub own_view : (ℕ × ℕ) × Body → OwnEquation
own_view e = record { class = e.0.0; attribute = e.0.1; body = body_view e.1 }

-- an equation for the nodes below stands by its class, its component and the number of the name
abbrev pub inherited_view : {Z : Type 0} → List (String Z) → (ℕ × Option ℕ × ℕ) × Body → InheritedEquation
inherited_view names e = record { class = e.0.0; part = e.0.1; name = text_of names e.0.2; body = body_view e.1 }

-- the equations whose name has a number: there are no others, and none would be found
abbrev pub named : {Z : Type 0} → List (String Z) → List ((ℕ × Option ℕ × ℕ) × Body) → List ((ℕ × Option ℕ × ℕ) × Body)
named names es = filter (λ e. nat_lt e.0.2 (length names)) es

-- the name of an attribute, nothing where there is none
abbrev pub name_in : {Z : Type 0} → List (String Z) → List ((ℕ × ℕ) × AttributeValue) → ℕ → List ℕ
name_in names entries attribute = elim (slice_get entries attribute) [ None ↦ [] | Some e ↦ text_of names e.0.1 ]

-- no name is that text
abbrev pub LacksText : {Z : Type 0} → List (String Z) → List ℕ → Type 0
LacksText names text = list_any (λ k. bytes_eq text (string_bytes k)) names ≡ false

-- the equation of a class for a name, by its number, and a component, or for each component
abbrev pub by_number : List ((ℕ × Option ℕ × ℕ) × Body) → ℕ → Option ℕ → ℕ → Option Expr
by_number es n o c = option_map body_view (lookup (λ k. (nat_eq c k.0 && option_eq nat_eq o k.1) && nat_eq n k.2) es)

-- the one for the component comes before the one for each
abbrev pub numbered_in : List ((ℕ × Option ℕ × ℕ) × Body) → (n part c : ℕ) → Option Expr
numbered_in es n part c = option_or (by_number es n (Some part) c) (by_number es n None c)
