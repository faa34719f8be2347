use Rattle.at_model.proofs.PathsBack.{path_back}
use Rattle.at_model.proofs.machine_laws.the_path_of_a_node_leads_back.Goals as goal

pub returns : goal.returns
returns c = path_back
