use Rattle.std.specs.Prelude.{map}
use Rattle.std.proofs.Common.{ap, ◌∙◌}
use Rattle.at_store.specs.Held.{held}
use Rattle.at_store.specs.View.{kept_view}
use Rattle.at_store.proofs.Slots.{set_mapped}
use Rattle.at_store.proofs.changes.set_slot.Goals as goal

pub returns : goal.returns
returns c = ap (map kept_view) c.put.ensures ∙ set_mapped kept_view (held c.args.cells.now) c.args.part c.args.new
