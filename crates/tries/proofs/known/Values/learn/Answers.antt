use Rattle.tries.proofs.Noted.{more_noted, still_noted}
use Rattle.tries.proofs.known.Values.learn.Goals as goal

pub returns : goal.returns
returns c rules at h its = more_noted rules at c.args.self.now.values.entries c.insert.new.self.entries c.args.inst c.args.value c.in_ok-insert.ensures.updates.0 its h

pub returns-in_err-insert : goal.returns-in_err-insert
returns-in_err-insert c rules at h its = still_noted rules at c.args.self.now.values.entries c.insert.new.self.entries c.in_err-insert.ensures.err h
