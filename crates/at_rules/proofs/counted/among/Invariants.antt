use Rattle.std.proofs.Common.{◌≡◌, ◌<◌, ℕ, false, get_or}
use Rattle.std.specs.Str.{bytes_eq}
use Rattle.at_model.specs.Rules.{name_by}
use Rattle.at_rules.specs.RulesView.{text_of}
use Rattle.at_rules.proofs.counted.among.Given as goal

-- it is none of those before
abbrev pub invariant-loop-place : goal.invariant-loop-place
invariant-loop-place l = (i : ℕ) → i < l.place → bytes_eq (name_by l.name l.count) (text_of l.names.keys
    (get_or l.numbers i 0)) ≡ false
