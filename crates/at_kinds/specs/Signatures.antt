-- What is declared of attributes.
use Rattle.std.specs.Prelude.{◌≡◌, ℕ, Bool, false, ◌&&◌, List, map, position, Option, Some, None, String, string_bytes}
use Rattle.std.specs.List.{list_any}
use Rattle.std.specs.Str.{bytes_eq}
use Rattle.at_model.specs.Classes.{Classes, is_sub}
use Rattle.at_rules.specs.FirstNamed.{AreNoted}
use Rattle.at_rules.specs.Names.{number_in}
use Rattle.at_rules.specs.RulesView.{LacksText}
use Rattle.at_rules.specs.declared.first_named.FirstNamed.{FirstNamed}
use Rattle.at_kinds.specs.declared.signatures.WrittenKind.{WrittenKind}
use Rattle.at_kinds.specs.declared.signatures.Signature.{Signature}

-- an attribute's name, the class that has it, where that is there, and the kinds of its parameters and of its value
pub record Declared : Type 0 where
  pub name : List ℕ
  pub class : Option ℕ
  pub parameters : List WrittenKind
  pub result : WrittenKind

abbrev pub declared_view : Signature → Declared
declared_view s = record { name = string_bytes s.name; class = s.class; parameters = s.params.items; result = s.result }

-- the class is that one or below it
abbrev pub is_below : Classes → ℕ → Option ℕ → Bool
is_below classes c None = false
is_below classes c (Some b) = is_sub classes c b

-- the first attribute of that name that the class or one above it declares
abbrev pub declared_named : Classes → List Declared → ℕ → List ℕ → Option ℕ
declared_named classes ds c name = position (λ d. bytes_eq d.name name && is_below classes c d.class) ds

-- the index --------------------------------------------------------------------------------------------------------------

abbrev pub keyed : Option ℕ → Option ℕ → Option (ℕ × ℕ)
keyed None n = None
keyed (Some c) None = None
keyed (Some c) (Some n) = Some (c, n)

-- the attribute's class, where that is there, and the number of its name
abbrev pub key_in : {Z : Type 0} → List (String Z) → Declared → Option (ℕ × ℕ)
key_in names d = keyed d.class (number_in names d.name)

-- each attribute is noted by its class and the number of its name, and each has one of the names
pub record IsIndexed {Z : Type 0} (names : List (String Z)) (first : FirstNamed) (ds : List Declared) : Type 0 where
  pub noted : AreNoted (map (key_in names) ds) first
  pub named : (text : List ℕ) → LacksText names text → list_any (λ d. bytes_eq d.name text) ds ≡ false
