use Rattle.std.proofs.Common.{ap, ◌∙◌, sym}
use Rattle.at_model.specs.Run.{Demands}
use Rattle.at_model.specs.Follow.{Has}
use Rattle.at_body.proofs.Waiting.{stands, then_stands}
use Rattle.at_body.proofs.laws.comes.Goals as goal

pub returns : goal.returns
returns c = λ tree known r s js ls seen end j k past e. let (new, grows, on) = stands tree (Has known) seen s j k (ap (λ p. p.0) e) in (new, sym (ap (λ p. p.1) e) ∙ grows, then_stands tree (Has known) r s (Demands j k) js ls new past on)
