-- A command to which words are added one at a time.
use Rattle.std.proofs.Common.{◌≡◌, ap, List, [], ◌∷◌}
use Rattle.std.proofs.lemmas.List.{append-nil, append_assoc}
use Rattle.clap.specs.Words.{App, Rule, with_rule}
use Rattle.attrd.specs.CommandLine.{with_words}

-- one word at a time
pub one_more : (a : App) (r : Rule) (rs : List Rule) → with_words (with_rule a r) rs ≡ with_words a (r ∷ rs)
one_more a r rs = ap (λ rules. record a { top = record a.top { rules = rules } }) (append_assoc a.top.rules (r ∷ []) rs)

-- and no more
pub none_more : (a : App) → with_words a [] ≡ a
none_more a = ap (λ rules. record a { top = record a.top { rules = rules } }) (append-nil a.top.rules)
