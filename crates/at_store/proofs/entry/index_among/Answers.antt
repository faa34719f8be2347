use Rattle.at_store.proofs.Arranged.{arranged_kept, found_here, found_nowhere}
use Rattle.at_store.proofs.entry.index_among.Goals as goal
