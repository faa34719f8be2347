-- The equations before a declaration, by their numbers.
use Rattle.std.specs.Prelude.{◌≡◌, ℕ, Bool, false, ◌&&◌, ◌||◌, nat_eq, List, [], ◌∷◌, ◌++◌, map, cond, Option, Some, None}
use Rattle.std.specs.Borrow.{Bor}
use Rattle.std.specs.List.{list_any}
use Rattle.std.specs.Str.{bytes_eq}
use Rattle.at_jrag.specs.Syntax.{Word}
use Rattle.at_typing.specs.Declaring.{is_own_equation, getter_in}
use Rattle.at_typing.specs.Numbering.{numbered_view, same_class}
use Rattle.at_typing.specs.declared.checks.equations.Before.{Before}
use Rattle.at_typing.specs.declared.numbered.NamedClass.{NamedClass}
use Rattle.at_typing.specs.declared.numbered.Numbered.{Numbered as NumberedValue}

-- equations for a class's own nodes, by class and name --------------------------------------------------------------

abbrev pub is_own : NumberedValue → Bool
is_own d = is_own_equation (numbered_view d).decl.form

abbrev pub own_keys : List NumberedValue → List (NamedClass × ℕ)
own_keys [] = []
own_keys (d ∷ ds) = cond (is_own d) ((d.class, d.name) ∷ own_keys ds) (own_keys ds)

abbrev pub is_own_key : NumberedValue → NamedClass × ℕ → Bool
is_own_key d k = same_class d.class k.0 && nat_eq d.name k.1

-- inherited equations, by class, getter and name ----------------------------------------------------------------------

abbrev pub getter_of : NumberedValue → Option Word
getter_of d = getter_in (numbered_view d).decl.form

abbrev pub inherited_keys_with : List (NamedClass × List ℕ × ℕ) → NumberedValue → Option Word → List (NamedClass × List ℕ × ℕ)
inherited_keys_with keys d None = keys
inherited_keys_with keys d (Some g) = (d.class, g.text, d.name) ∷ keys

abbrev pub inherited_keys : List NumberedValue → List (NamedClass × List ℕ × ℕ)
inherited_keys [] = []
inherited_keys (d ∷ ds) = inherited_keys_with (inherited_keys ds) d (getter_of d)

abbrev pub is_inherited_key : NumberedValue → Word → NamedClass × List ℕ × ℕ → Bool
is_inherited_key d g k = (same_class d.class k.0 && bytes_eq g.text k.1) && nat_eq d.name k.2

abbrev pub is_there : List (NamedClass × List ℕ × ℕ) → NumberedValue → Option Word → Bool
is_there keys d None = false
is_there keys d (Some g) = list_any (is_inherited_key d g) keys

-- with the getter's text itself
abbrev pub key_view : NamedClass × Bor (List ℕ) × ℕ → NamedClass × List ℕ × ℕ
key_view k = (k.0, k.1.now, k.2)

-- both kinds ----------------------------------------------------------------------------------------------------------

-- the declaration's equation is there already
abbrev pub has_equation : Before → NumberedValue → Bool
has_equation b d = (is_own d && list_any (is_own_key d) b.own.keys) || is_there (map key_view b.inherited.keys) d (getter_of d)

-- they are the equations of these declarations
pub record HasEquations (ds : List NumberedValue) (b : Before) : Type 0 where
  pub own : b.own.keys ≡ own_keys ds
  pub inherited : map key_view b.inherited.keys ≡ inherited_keys ds

-- that of the declaration is one more
pub record AddsEquation (d : NumberedValue) (old new : Before) : Type 0 where
  pub own : new.own.keys ≡ old.own.keys ++ own_keys (d ∷ [])
  pub inherited : map key_view new.inherited.keys ≡ map key_view old.inherited.keys ++ inherited_keys (d ∷ [])
