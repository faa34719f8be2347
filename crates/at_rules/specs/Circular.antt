-- Circular attributes among rules.
use Rattle.std.specs.Prelude.{◌≡◌, ℕ, Bool, true, None, Some}
use Rattle.at_model.specs.Rules.{Rules, is_lazy, start_of}

-- no attribute is circular
abbrev pub HasNoneCircular : Rules → Type 0
HasNoneCircular rules = (attribute : ℕ) → start_of rules attribute ≡ None

-- the circular ones are lazy
abbrev pub AreCircularLazy : Rules → Type 0
AreCircularLazy rules = (attribute : ℕ) (b : Bool) → start_of rules attribute ≡ Some b → is_lazy rules attribute ≡ true
