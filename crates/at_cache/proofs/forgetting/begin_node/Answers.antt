use Rattle.at_cache.proofs.Common.{refl}
use Rattle.at_cache.proofs.Naming.{goes_both}
use Rattle.at_cache.proofs.forgetting.begin_node.Goals as goal

pub returns : goal.returns
returns g c = goes_both (λ l. refl) (goes_both (λ l. refl) c.begin_drawers-drawers.ensures (rw c.as_slice.ensures.value at c.begin_own-own.ensures)) c.begin_over.ensures
