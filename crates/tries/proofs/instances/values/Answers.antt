use Rattle.tries.specs.Worlds.{RefersThere}
use Rattle.tries.proofs.Fitted.{all_more, all_none}
use Rattle.tries.proofs.instances.values.Goals as goal

pub loop-argument-init : goal.loop-argument-init
loop-argument-init c = all_none (RefersThere c.args.world.now) c.new-values.result.items c.new-values.ensures.items

pub loop-argument-preserved : goal.loop-argument-preserved
loop-argument-preserved c = all_more (RefersThere c.args.world.now) c.loop-argument.values.items c.push.new.self.items c.in_ok-value_of.field-0 c.in_ok-push.ensures.items c.loop-argument.invariant c.in_ok-value_of.ensures
