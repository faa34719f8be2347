use Rattle.at_model.proofs.of_machines.OneOutput.{refused_bytes}
use Rattle.at_model.proofs.machine_laws.a_refused_line_changes_nothing.Goals as goal

pub returns : goal.returns
returns c = λ rules old bytes new b reply refusal h. refused_bytes rules old bytes new (b, reply) refusal h
