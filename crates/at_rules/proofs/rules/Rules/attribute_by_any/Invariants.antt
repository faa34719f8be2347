use Rattle.std.proofs.Common.{◌≡◌, ◌<◌, ℕ, None}
use Rattle.at_model.specs.Rules.{attribute_named, name_by}
use Rattle.at_rules.proofs.rules.Rules.attribute_by_any.Given as goal

-- there is none with fewer parameters
abbrev pub invariant-loop-count : goal.invariant-loop-count
invariant-loop-count l = (i : ℕ) → i < l.count → attribute_named l.self l.class (name_by l.name i) ≡ None
