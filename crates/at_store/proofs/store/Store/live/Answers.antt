use Rattle.std.proofs.Common.{◌∙◌}
use Rattle.at_store.proofs.Reading.{there}
use Rattle.at_store.proofs.store.Store.live.Goals as goal

pub returns : goal.returns
returns c = c.is_there.ensures ∙ there c.args.self.now c.requires c.args.node
