use Rattle.std.proofs.Common.{◌≡◌, ◌<◌, ℕ, List, true, nat_eq}
use Rattle.std.specs.List.{list_any}
use Rattle.at_model.specs.Rules.{name_by}
use Rattle.at_rules.specs.RulesView.{text_of}
use Rattle.at_rules.proofs.counted.counted_in.Given as goal

-- those before that have a count are noted
abbrev pub invariant-loop-number : goal.invariant-loop-number
invariant-loop-number l = (n : ℕ) (name : List ℕ) (count : ℕ) → n < l.number
    → text_of l.names.keys n ≡ name_by name count → list_any (nat_eq n) l.numbers.items ≡ true
