use Rattle.std.specs.Map.{keys_of}
use Rattle.at_rules.specs.Dispatch.{found_up}
use Rattle.at_rules.proofs.Dispatching.{pushed}
use Rattle.at_rules.proofs.dispatch.Dispatch.row.Goals as goal

pub loop-number-preserved : goal.loop-number-preserved
loop-number-preserved g c =
    pushed (found_up c.args.precedence (keys_of c.args.keys.now.entries) c.args.classes.now c.args.class) c.loop-number.row.items c.push.new.self.items c.loop-number.number c.in-Some.cell c.loop-number.invariant.0 c.loop-number.invariant.1 c.in-Some.ensures c.in_ok-push.ensures.items
