use Rattle.std.proofs.Common.{sym}
use Rattle.at_store.specs.Shown.{path}
use Rattle.at_engine.specs.Marks.{listed}
use Rattle.at_engine.proofs.of_marks.Leaving.{all_live}
use Rattle.at_engine.proofs.marks.Marks.keep_live.Goals as goal

pub returns-else-any_gone : goal.returns-else-any_gone
returns-else-any_gone c = sym (all_live (path c.args.there.now.store.now) (listed c.args.self.now.items.entries) (c.requires c.if-any_gone.false))
