use Rattle.std.proofs.Common.{◌∷◌, [], ap, ◌∙◌, sym}
use Rattle.at_model.specs.Follow.{Has}
use Rattle.at_body.proofs.Waiting.{waits, goes_past}
use Rattle.at_body.proofs.laws.passes.Goals as goal

pub returns : goal.returns
returns c = λ tree known r s js ls seen end j k v past e is. let (new, grows, on) = waits tree (Has known) seen s j k v (ap (λ p. p.0) e) is in (new, sym (ap (λ p. p.1) e) ∙ grows, goes_past tree (Has known) r s (k v) js (j ∷ []) ls new past on)
