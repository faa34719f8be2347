use Rattle.std.proofs.Common.{ap, ◌∙◌, sym}
use Rattle.at_model.specs.Run.{Gives}
use Rattle.at_model.specs.Follow.{Has}
use Rattle.at_body.proofs.Waiting.{gives_there, then_stands}
use Rattle.at_body.proofs.laws.gives.Goals as goal

pub returns : goal.returns
returns c = λ tree known r s js ls seen end v past e. let (new, grows, on) = gives_there tree (Has known) seen s v (ap (λ p. p.0) e) in (new, sym (ap (λ p. p.1) e) ∙ grows, then_stands tree (Has known) r s (Gives v) js ls new past on)
