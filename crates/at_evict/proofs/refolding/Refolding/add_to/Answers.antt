use Rattle.at_evict.proofs.Common.{ap, option_map, sym, refl, on_ok_weaker, info, memory_of, current}
use Rattle.at_evict.proofs.of_folding.Rerun.{reaches_gone, reaches_one}
use Rattle.at_evict.proofs.refolding.Refolding.add_to.Goals as goal

pub returns-in-Some : goal.returns-in-Some
returns-in-Some c =
    let there = ap (option_map info) (sym c.in-Some.ensures) in
    on_ok_weaker c.add_near.result
    (λ covers. reaches_one (memory_of c.args.self.now.entries.now) c.args.reach.now (record { slot = c.args.slot; stamp = c.in-Some.entry.now.stamp }) _ _
    (current (memory_of c.args.self.now.entries.now) _ _ there refl) covers) c.add_near.ensures

pub returns-in-None : goal.returns-in-None
returns-in-None c = reaches_gone (memory_of c.args.self.now.entries.now) c.args.reach.now c.args.slot _ (ap (option_map info) (sym c.in-None.ensures))
