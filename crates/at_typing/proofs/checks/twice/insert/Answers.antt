use Rattle.at_typing.proofs.Keys.{key_inserted}
use Rattle.at_typing.proofs.checks.twice.insert.Goals as goal

pub returns : goal.returns
returns c = key_inserted c.args.keys.now.keys _ c.args.class c.args.name c.in_ok-insert.ensures.updates.0
