use Rattle.std.specs.Prelude.{◌≡◌, ◌<◌, ℕ, false, Some, slice_get}
use Rattle.std.specs.List.{list_any}
use Rattle.at_rules.specs.Bodies.{is_numeric}
use Rattle.at_rules.specs.declared.rules.Attribute.{Attribute}
use Rattle.at_rules.proofs.rules.have_numbers.Given as goal

-- none of those before has such a parameter
abbrev pub invariant-loop-position : goal.invariant-loop-position
invariant-loop-position l = (i : ℕ) (e : (ℕ × ℕ) × Attribute) → i < l.position → slice_get l.attributes.entries i ≡ Some e → list_any is_numeric e.1.params.items ≡ false
