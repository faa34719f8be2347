use Rattle.at_cache.proofs.again.its_at.Goals as goal

pub returns-then-is_its : goal.returns-then-is_its
returns-then-is_its c = c.is_its.ensures c.if-is_its.true
