use Rattle.at_model.proofs.of_machines.MarkPaths.{where_step, where_text}
use Rattle.at_model.proofs.command_laws.the_path_of_a_mark_leads_back.Goals as goal

pub returns-clause-path : goal.returns-clause-path
returns-clause-path c = λ rules old l new reply name path apart sound is h form. let (n, there, leads, can) = where_step rules old l new reply name path apart sound is h form in (n, there, leads)

pub returns-clause-text : goal.returns-clause-text
returns-clause-text c = where_text
