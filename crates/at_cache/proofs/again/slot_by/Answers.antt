use Rattle.at_cache.proofs.Common.{ap, option_map, Entry}
use Rattle.at_cache.proofs.again.slot_by.Goals as goal

pub returns-in-Some : goal.returns-in-Some
returns-in-Some c = ap (option_map (λ (e : Entry). e.slot)) c.in-Some.ensures.value

pub returns-in-None : goal.returns-in-None
returns-in-None c = ap (option_map (λ (e : Entry). e.slot)) c.in-None.ensures.value
