-- The names of the components of all classes, by what they are asked for.
use Rattle.std.specs.Prelude.{◌≡◌, ℕ, ◌+◌, Bool, false, ◌||◌, ◌&&◌, List, [], ◌∷◌, ◌++◌, codes}
use Rattle.std.specs.Borrow.{Bor}
use Rattle.std.specs.Str.{bytes_eq}
use Rattle.std.specs.List.{list_any}
use Rattle.at_model.specs.Classes.{Classes, Component, parts}
use Rattle.at_kinds.specs.Accessors.{is_optional, is_list}
use Rattle.at_typing.specs.declared.checks.accessor_names.Accessors.{Accessors}

abbrev pub same_name : Bor (List ℕ) → Bor (List ℕ) → Bool
same_name j k = bytes_eq j.now k.now

-- the test holds of a class, counted from k
abbrev pub any_class : (ℕ → Bool) → ℕ → Classes → Bool
any_class test k [] = false
any_class test k (c ∷ classes) = test k || any_class test (k + 1) classes

-- the test holds of a component of a class
abbrev pub any_part : (Component → Bool) → Classes → Bool
any_part test classes = any_class (λ c. list_any test (parts classes c)) 0 classes

abbrev pub any_component : Accessors → (List ℕ → Bool) → Bool
any_component a test = list_any (λ k. test k.now) a.components.texts.keys

abbrev pub any_optional : Accessors → (List ℕ → Bool) → Bool
any_optional a test = list_any (λ k. test k.now) a.optionals.texts.keys

abbrev pub any_list : Accessors → (List ℕ → Bool) → Bool
any_list a test = list_any (λ k. test k.now) a.lists.texts.keys

-- it is the number of a list, or all of it
abbrev pub is_of_list : Accessors → List ℕ → Bool
is_of_list a name = any_list a (λ k. bytes_eq name (codes "getNum" ++ k)) || any_list a (λ k. bytes_eq name (codes "get" ++ k ++ codes "List"))

-- or whether an optional is filled
abbrev pub is_of_shape : Accessors → List ℕ → Bool
is_of_shape a name = any_optional a (λ k. bytes_eq name (codes "has" ++ k)) || is_of_list a name

-- they are the names of the components of these classes, of the optionals and of the lists
pub record HasNames (classes : Classes) (a : Accessors) : Type 0 where
  pub components : (test : List ℕ → Bool) → any_component a test ≡ any_part (λ p. test p.name) classes
  pub optionals : (test : List ℕ → Bool) → any_optional a test ≡ any_part (λ p. is_optional p.shape && test p.name) classes
  pub lists : (test : List ℕ → Bool) → any_list a test ≡ any_part (λ p. is_list p.shape && test p.name) classes

-- the names of the components are added
pub record AddsNames (ps : List Component) (old new : Accessors) : Type 0 where
  pub components : (test : List ℕ → Bool) → any_component new test ≡ (any_component old test || list_any (λ p. test p.name) ps)
  pub optionals : (test : List ℕ → Bool) → any_optional new test ≡ (any_optional old test || list_any (λ p. is_optional p.shape && test p.name) ps)
  pub lists : (test : List ℕ → Bool) → any_list new test ≡ (any_list old test || list_any (λ p. is_list p.shape && test p.name) ps)
