use Rattle.at_index.proofs.Common.{ap, edges_along}
use Rattle.at_index.proofs.Listing.{kept_on}
use Rattle.at_index.proofs.linking.make_room.Goals as goal

pub returns-in_err-reserve : goal.returns-in_err-reserve
returns-in_err-reserve g c = kept_on c.purge.ensures (ap edges_along c.reserve.ensures.items)

pub returns-in_ok-reserve : goal.returns-in_ok-reserve
returns-in_ok-reserve g c = kept_on c.purge.ensures (ap edges_along c.reserve.ensures.items)

pub returns-else-count-capacity : goal.returns-else-count-capacity
returns-else-count-capacity g c = c.purge.ensures
