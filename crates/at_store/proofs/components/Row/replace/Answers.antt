use Rattle.std.proofs.Common.{take, slice_set, ap, ◌∙◌}
use Rattle.at_store.proofs.PutBack.{take_set}
use Rattle.at_store.proofs.components.Row.replace.Goals as goal

pub returns-clause-put : goal.returns-clause-put
returns-clause-put g c = take_set c.args.count c.args.self.now.places c.args.part _ ∙ ap (slice_set (take c.args.count c.args.self.now.places) c.args.part) c.replace.ensures.after
