use Rattle.at_store.proofs.Reading.{root_path}
use Rattle.at_store.proofs.store.Store.root.Goals as goal

pub returns : goal.returns
returns c = root_path c.args.self.now c.requires
