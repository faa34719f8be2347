use Rattle.std.proofs.Common.{◌≡◌, ◌<◌, ℕ, false}
use Rattle.std.specs.Str.{bytes_eq}
use Rattle.at_model.specs.Rules.{name_by}
use Rattle.at_rules.specs.RulesView.{text_of}
use Rattle.at_rules.proofs.counted.below.Given as goal

-- it is none of those before
abbrev pub invariant-loop-number : goal.invariant-loop-number
invariant-loop-number l = (n : ℕ) → n < l.number → bytes_eq (name_by l.name l.count) (text_of l.names.keys n) ≡ false
