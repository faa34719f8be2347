use Rattle.std.proofs.Common.{sym}
use Rattle.at_store.proofs.Slots.{set_changed, none_changed}
use Rattle.at_store.proofs.changes.set_number.Goals as goal

pub returns-in-Some : goal.returns-in-Some
returns-in-Some c = set_changed c.args.kids.now.items c.args.index c.args.new

pub returns-in_default : goal.returns-in_default
returns-in_default c = sym (none_changed (λ old. c.args.new) c.args.kids.now.items c.args.index (c.in_default.ensures {u = tt}).item.3)
