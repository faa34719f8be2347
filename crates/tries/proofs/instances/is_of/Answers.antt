use Rattle.tries.specs.Worlds.{classes_at}
use Rattle.tries.proofs.instances.is_of.Goals as goal

pub returns-in-Int : goal.returns-in-Int
returns-in-Int c h = rw c.in-Int.is (c.is_int.ensures c.args.world.now.rules.classes (classes_at c.args.world.now) h)

pub returns-in-Bool : goal.returns-in-Bool
returns-in-Bool c h = rw c.in-Bool.is (c.is_truth.ensures c.args.world.now.rules.classes (classes_at c.args.world.now) h)

pub returns-in-Text : goal.returns-in-Text
returns-in-Text c h = rw c.in-Text.is (c.is_text.ensures c.args.world.now.rules.classes (classes_at c.args.world.now) h)

pub returns-in-Class : goal.returns-in-Class
returns-in-Class c h = rw c.in-Class.is (c.is_at.ensures h)
