use Rattle.at_cache.proofs.of_cut.Slotted.{held_at, none_held}
use Rattle.at_cache.proofs.cut.Cut.is_held.Goals as goal

pub returns-in-Some : goal.returns-in-Some
returns-in-Some c = held_at c.args.self.now.entries c.args.instance.now c.args.self.now.standings.items _ _
    c.in-Some.ensures (rw c.as_slice.ensures.value at c.standing_at.ensures)

pub returns-in-None : goal.returns-in-None
returns-in-None c = none_held c.args.self.now.entries c.args.instance.now c.args.self.now.standings.items c.in-None.ensures
