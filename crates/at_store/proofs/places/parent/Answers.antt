use Rattle.std.proofs.Common.{sym, ◌∙◌}
use Rattle.at_store.specs.View.{memory_of}
use Rattle.at_store.proofs.of_edits.Spared.{no_parent_named, parent_named}
use Rattle.at_store.proofs.places.parent.Goals as goal

pub returns-in-Some : goal.returns-in-Some
returns-in-Some c = parent_named (memory_of c.args.slab.now) c.args.node c.in-Some.place c.alone.result (sym c.up_at.ensures ∙ c.in-Some.is) c.alone.ensures

pub returns-in-None : goal.returns-in-None
returns-in-None c = no_parent_named (memory_of c.args.slab.now) c.args.node (sym c.up_at.ensures ∙ c.in-None.is)
