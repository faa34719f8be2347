use Rattle.std.proofs.Common.{ap, ap₂, is_some, ◌-◌, ◌∙◌}
use Rattle.at_tree.specs.TreeView.{tree_view}
use Rattle.at_store.specs.Spending.{left_by_tree}
use Rattle.at_store.specs.Told.{allowed_nodes}
use Rattle.at_store.proofs.Spent.{left_in_room}
use Rattle.at_store.proofs.refusals.has_room.Goals as goal

pub returns : goal.returns
returns c =
    let tree = tree_view c.args.tree.now in
    let room = c.saturating_sub-room.ensures ∙ ap (λ most. most - c.args.others) c.allowed_nodes.ensures.told in
    c.is_some.ensures ∙ ap is_some (c.left_after.ensures ∙ ap₂ (left_by_tree tree) room c.saturating_sub-levels.ensures)
    ∙ left_in_room (allowed_nodes c.args.limit) c.args.others c.args.level tree
