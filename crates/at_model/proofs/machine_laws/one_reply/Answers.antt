use Rattle.std.proofs.Common.{Bool, ap, refl}
use Rattle.at_model.specs.Replies.{Reply}
use Rattle.at_model.proofs.of_machines.Steps.{answers_once}
use Rattle.at_model.proofs.of_machines.OneOutput.{handles_once}
use Rattle.at_model.proofs.machine_laws.one_reply.Goals as goal

pub returns : goal.returns
returns c = λ rules old bytes new other b reply told h k. let both = handles_once rules (answers_once rules) old bytes
    new other (b, reply) (b, told) h k refl in (both.0, ap (λ (x : Bool × Reply). x.1) both.1)
