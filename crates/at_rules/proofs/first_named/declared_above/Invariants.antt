use Rattle.std.proofs.Common.{◌≡◌, length, ◌-◌, Some}
use Rattle.std.specs.Map.{keys_of}
use Rattle.at_model.specs.Classes.{chain_within}
use Rattle.at_rules.specs.Upward.{earlier, declared_in}
use Rattle.at_rules.proofs.first_named.declared_above.Given as goal

abbrev pub invariant-loop-step : goal.invariant-loop-step
invariant-loop-step g l = declared_in (keys_of l.keys.entries) l.name (chain_within (length l.classes) l.classes (Some l.fn.class)) ≡ earlier l.found (declared_in (keys_of l.keys.entries) l.name (chain_within (length l.classes - l.step) l.classes l.next))
