use Rattle.std.proofs.Common.{◌≡◌, ◌<◌, ℕ, true}
use Rattle.at_model.specs.Classes.{fits}
use Rattle.at_class.specs.Keys.{key_view}
use Rattle.at_seek.specs.Sought.{HasTest}
use Rattle.at_seek.proofs.keys.all_test.Given as goal

abbrev pub invariant-loop-position : goal.invariant-loop-position
invariant-loop-position l = (c : ℕ) → c < l.position → fits l.rules.classes c l.above ≡ true → HasTest l.rules (key_view l.key) l.attribute c
