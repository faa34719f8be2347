use Rattle.std.proofs.Common.{sym, ◌∙◌}
use Rattle.at_store.specs.View.{memory_of}
use Rattle.at_store.proofs.of_edits.Spared.{around_named, nothing_around}
use Rattle.at_store.proofs.places.around.Goals as goal

pub returns-in-Some : goal.returns-in-Some
returns-in-Some c = around_named (memory_of c.args.slab.now) c.args.node c.in-Some.place c.component.result (sym c.up_at.ensures ∙ c.in-Some.is) c.component.ensures

pub returns-in-None : goal.returns-in-None
returns-in-None c = nothing_around (memory_of c.args.slab.now) c.args.node (sym c.up_at.ensures ∙ c.in-None.is)
