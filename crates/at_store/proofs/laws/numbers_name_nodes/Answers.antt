use Rattle.at_store.specs.Memory.{class_in}
use Rattle.at_store.specs.Shown.{numbers}
use Rattle.at_store.specs.View.{memory_of}
use Rattle.at_store.proofs.Found.{path_injective}
use Rattle.at_store.proofs.Reading.{shown_named, shown_there}
use Rattle.at_store.proofs.Relabelled.{contents_alike}
use Rattle.at_store.proofs.laws.numbers_name_nodes.Goals as goal

pub returns-clause-injective : goal.returns-clause-injective
returns-clause-injective c = λ s. path_injective (numbers s)

pub returns-clause-found : goal.returns-clause-found
returns-clause-found c = λ s k n p. let (u, is, number, there) = shown_there s k n p in (_, there)

pub returns-clause-named : goal.returns-clause-named
returns-clause-named c = shown_named

pub returns-clause-alike : goal.returns-clause-alike
returns-clause-alike c = λ s h l. contents_alike (class_in (memory_of s.slab)) (numbers s) h.keeps.apart l
