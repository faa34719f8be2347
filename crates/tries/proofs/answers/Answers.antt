use Rattle.tries.specs.Worlds.{classes_at}
use Rattle.tries.proofs.answers.Goals as goal

pub loop-line-init : goal.loop-line-init
loop-line-init c = c.new-known.ensures c.args.world.now.rules (classes_at c.args.world.now)
