-- The classes that have an equation for the name of an inherited attribute, whatever its component.
use Rattle.std.specs.Prelude.{◌≡◌, ℕ, ◌&&◌, Bool, nat_eq, List, slice_get, Option, None, Some, option_map, option_and_then, Vec}
use Rattle.std.specs.List.{list_any}
use Rattle.at_model.specs.Classes.{Classes, chain}
use Rattle.at_model.specs.Rules.{first_answer}
use Rattle.at_rules.specs.declared.body.Body.{Body}
use Rattle.at_rules.specs.declared.dispatch.Cell.{Cell}
use Rattle.at_rules.specs.Dispatch.{cell_at, cell_view}
use Rattle.at_rules.specs.RulesView.{numbered_in}

-- the class and the name are among the keys
abbrev pub is_held : List (ℕ × ℕ) → (class name : ℕ) → Bool
is_held ks c n = list_any (λ key. nat_eq c key.0 && nat_eq n key.1) ks

-- the class has an equation for the name
abbrev pub has_equation : List (ℕ × Option ℕ × ℕ) → (class name : ℕ) → Bool
has_equation ks c n = list_any (λ key. nat_eq c key.0 && nat_eq n key.2) ks

-- the class of the key at a position
abbrev pub class_at : {V : Type 0} → List ((ℕ × ℕ) × V) → ℕ → Option ℕ
class_at held p = option_map (λ e. e.0.0) (slice_get held p)

-- upward from a class the same is found as from the other one, or nothing where there is no other
abbrev pub Leads : {B : Type 0} → (ℕ → Option B) → Classes → ℕ → Option ℕ → Type 0
Leads f classes c None = first_answer f (chain classes c) ≡ None
Leads f classes c (Some b) = first_answer f (chain classes c) ≡ first_answer f (chain classes b)

-- each cell of the table leads to the class that it tells of, for each component
abbrev pub AreHolders : {V Z : Type 0} → Classes → List ((ℕ × Option ℕ × ℕ) × Body) → List ((ℕ × ℕ) × V) → List (Vec Cell Z) → Type 0
AreHolders classes es held rows = (c n part : ℕ) (cell : Cell) → cell_at rows c n ≡ Some cell
    → Leads (numbered_in es n part) classes c (option_and_then (class_at held) (cell_view cell))
