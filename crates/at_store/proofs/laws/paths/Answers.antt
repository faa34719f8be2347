use Rattle.at_store.proofs.Found.{number_found, named, path_injective}
use Rattle.at_store.proofs.laws.paths.Goals as goal

pub returns-clause-injective : goal.returns-clause-injective
returns-clause-injective c = path_injective

pub returns-clause-found : goal.returns-clause-found
returns-clause-found c = number_found

pub returns-clause-named : goal.returns-clause-named
returns-clause-named c = named
