use Rattle.std.proofs.Common.{refl}
use Rattle.at_store.proofs.store.Store.mark_leaving.Goals as goal

pub returns : goal.returns
returns c = ((c.mark.ensures.stays, refl, refl, refl), refl, c.mark.ensures.marks)
