use Rattle.std.specs.Map.{keys_of}
use Rattle.at_rules.specs.Dispatch.{found_up}
use Rattle.at_rules.proofs.dispatch.Dispatch.fill_row.Goals as goal

pub returns : goal.returns
returns g c = c.put.ensures (found_up c.args.precedence (keys_of c.args.keys.now.entries) c.args.classes.now) c.requires.right c.in_ok-row.ensures
