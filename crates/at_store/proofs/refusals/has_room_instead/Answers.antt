use Rattle.std.proofs.Common.{sym, ap, ◌∙◌}
use Rattle.slab.specs.Slab.{slab_len}
use Rattle.at_model.specs.Terms.{max_depth}
use Rattle.at_tree.specs.TreeView.{tree_view}
use Rattle.at_store.specs.Told.{allowed_nodes, level_told, size_told}
use Rattle.at_store.specs.View.{memory_of}
use Rattle.at_store.proofs.Spent.{room_beside_fewer}
use Rattle.at_store.proofs.refusals.has_room_instead.Goals as goal

pub returns-then-has_room : goal.returns-then-has_room
returns-then-has_room c =
    let memory = memory_of c.args.slab.now in
    sym (room_beside_fewer (allowed_nodes c.args.limit) (slab_len c.args.slab.now) (size_told memory max_depth c.args.node)
    (level_told memory max_depth c.args.node) (tree_view c.args.tree.now) (rw (c.len.ensures, c.level_at-level.ensures) at (sym c.has_room.ensures ∙ c.if-has_room.true)))
