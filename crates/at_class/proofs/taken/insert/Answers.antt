use Rattle.at_class.proofs.Taking.{begins_insert, inserted}
use Rattle.at_class.proofs.taken.insert.Goals as goal

pub returns : goal.returns
returns c = (
  begins_insert c.args.set.now.keys c.insert_full.new.self.keys c.args.text c.in_ok-insert_full.ensures.keys,
  inserted c.args.set.now.keys c.insert_full.new.self.keys c.args.text c.in_ok-insert_full.ensures.keys,
)
