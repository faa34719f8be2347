use Rattle.tries.specs.Worlds.{classes_at}
use Rattle.tries.proofs.learn.Goals as goal

pub returns : goal.returns
returns c = c.in_ok-learn.ensures c.args.world.now.rules (classes_at c.args.world.now) c.requires.known c.in_ok-value.ensures

pub returns-in_err-learn : goal.returns-in_err-learn
returns-in_err-learn c = c.in_err-learn.ensures c.args.world.now.rules (classes_at c.args.world.now) c.requires.known c.in_ok-value.ensures
