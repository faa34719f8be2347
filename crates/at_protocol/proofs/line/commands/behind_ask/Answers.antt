use Rattle.std.proofs.Common.{◌≡◌, ◌≢◌, ◌++◌, ℕ, List, Option, Some, None, MatchOption, Bor}
use Rattle.std.specs.Prelude.{codes}
use Rattle.std.specs.Str.{IsUtf8}
use Rattle.at_text.proofs.Fronts.{front_stripped}
use Rattle.at_protocol.proofs.line.commands.behind_ask.Goals as goal

cut : (text front : List ℕ) (result : Option (Bor (List ℕ))) → MatchOption result ((rest : List ℕ) → text ≢ front ++ rest) (λ after. (text ≡ front ++ after.now) × IsUtf8 after.now)
    → MatchOption result ((rest : List ℕ) → text ≢ front ++ rest) (λ after. text ≡ front ++ after.now)
cut text front None h = h
cut text front (Some after) h = h.0

pub returns : goal.returns
returns c = cut c.args.text.now (codes "ask ") c.strip_prefix.result (front_stripped c.args.text.now (codes "ask ") c.strip_prefix.result c.strip_prefix.ensures.cases c.utf8.text)
