use Rattle.std.proofs.Common.{refl}
use Rattle.at_store.specs.View.{memory_of}
use Rattle.at_store.proofs.of_edits.Spared.{component_named}
use Rattle.at_store.proofs.places.component.Goals as goal

pub returns : goal.returns
returns c = component_named (memory_of c.args.slab.now) c.args.node c.args.part (record { node = c.args.node; children = c.kids_at.result }) refl c.kids_at.ensures
