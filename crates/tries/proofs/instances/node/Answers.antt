use Rattle.at_tree.specs.PathView.{steps_view}
use Rattle.tries.proofs.WorldsLemmas.{led_there}
use Rattle.tries.proofs.instances.node.Goals as goal

pub returns-in-Some : goal.returns-in-Some
returns-in-Some c = led_there c.args.world.now.store c.classes.result.now (steps_view c.deref.result.now) c.root.result c.in-Some.node c.resolve.result c.root.ensures c.resolve.ensures c.in-Some.is
