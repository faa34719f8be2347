use Rattle.std.proofs.Common.{ap, ◌∙◌, sym}
use Rattle.at_model.specs.Run.{Fails}
use Rattle.at_model.specs.Follow.{Has}
use Rattle.at_body.proofs.Waiting.{fails_there, then_stands}
use Rattle.at_body.proofs.laws.fails.Goals as goal

pub returns : goal.returns
returns c = λ tree known r s js ls seen end f past e. let (new, grows, on) = fails_there tree (Has known) seen s f (ap (λ p. p.0) e) in (new, sym (ap (λ p. p.1) e) ∙ grows, then_stands tree (Has known) r s (Fails f) js ls new past on)
