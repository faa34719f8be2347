use Rattle.at_cache.proofs.Common.{ℕ, Option, ap, is_some, option_map, Instance, Entry, info}
use Rattle.at_cache.proofs.table.Table.is_taken.Goals as goal

pub returns-in-Some : goal.returns-in-Some
returns-in-Some c = ap (λ (o : Option (Instance ℕ × Entry)). is_some (option_map info o)) c.in-Some.ensures

pub returns-in-None : goal.returns-in-None
returns-in-None c = ap (λ (o : Option (Instance ℕ × Entry)). is_some (option_map info o)) c.in-None.ensures
