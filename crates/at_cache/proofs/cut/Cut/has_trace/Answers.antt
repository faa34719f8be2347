use Rattle.at_cache.proofs.of_cut.EnteredHeld.{is_slot}
use Rattle.at_cache.proofs.of_cut.Slotted.{has_slot, no_slot}
use Rattle.at_cache.proofs.of_cut.Spared.{untraced_at, untraced_none}
use Rattle.at_cache.proofs.cut.Cut.has_trace.Goals as goal

pub returns-in-Some : goal.returns-in-Some
returns-in-Some c = λ lists off. untraced_at lists c.args.self.now.entries c.args.self.now.standings.items
    c.args.instance.now _
    (is_slot c.args.self.now.entries c.args.instance.now _ (has_slot c.args.self.now.entries c.args.instance.now _
    c.in-Some.ensures))
    (c.is_traced.ensures off)

pub returns-in-None : goal.returns-in-None
returns-in-None c = λ lists off. untraced_none lists c.args.self.now.entries c.args.self.now.standings.items
    c.args.instance.now
    (no_slot c.args.self.now.entries c.args.instance.now c.in-None.ensures)
