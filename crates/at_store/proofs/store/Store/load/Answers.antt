use Rattle.std.proofs.Common.{None, sym, refl, ap, is_some, ◌∙◌}
use Rattle.at_model.proofs.Options.{both}
use Rattle.at_tree.specs.TreeView.{tree_view}
use Rattle.at_store.specs.Shown.{Shown}
use Rattle.at_store.specs.View.{memory_of, stored_of}
use Rattle.at_store.proofs.Arranged.{planted_arranged}
use Rattle.at_store.proofs.of_planting.Loaded.{loaded_tree, loaded_idle, empty_memory, empty_unmarked}
use Rattle.at_store.proofs.of_planting.MarkedLemmas.{unmarked_still}
use Rattle.at_store.proofs.store.Store.load.Goals as goal

pub returns-clause-loaded : goal.returns-clause-loaded
returns-clause-loaded c =
    let s : Shown = record { slab = c.plant.new.slab; root = c.in_ok-root.root; waiting = None; leaving = None; limit = c.args.limit } in
    let within = both _ _ (sym c.nodes_within_limits.ensures.within ∙ ap is_some c.in-Some.is) in
    loaded_tree s (tree_view c.args.tree) (record {
      waiting = refl;
      leaving = refl;
      before = memory_of c.in_ok-slab.slab;
      free = empty_memory c.in_ok-slab.slab c.in_ok-slab.ensures.empty;
      planted = (let (w, number, planted) = c.in_ok-root.ensures.planted in (w, number, planted_arranged (stored_of c.in_ok-slab.slab) (stored_of c.plant.new.slab) (tree_view c.args.tree) w planted));
      unmarked = unmarked_still c.in_ok-slab.slab c.plant.new.slab c.plant.ensures.marks (empty_unmarked c.in_ok-slab.slab c.in_ok-slab.ensures.empty);
      limits = within.1;
      allowed = within.0;
    })

pub returns-clause-idle : goal.returns-clause-idle
returns-clause-idle c =
    let s : Shown = record { slab = c.plant.new.slab; root = c.in_ok-root.root; waiting = None; leaving = None; limit = c.args.limit } in
    let within = both _ _ (sym c.nodes_within_limits.ensures.within ∙ ap is_some c.in-Some.is) in
    loaded_idle s (tree_view c.args.tree) (record {
      waiting = refl;
      leaving = refl;
      before = memory_of c.in_ok-slab.slab;
      free = empty_memory c.in_ok-slab.slab c.in_ok-slab.ensures.empty;
      planted = (let (w, number, planted) = c.in_ok-root.ensures.planted in (w, number, planted_arranged (stored_of c.in_ok-slab.slab) (stored_of c.plant.new.slab) (tree_view c.args.tree) w planted));
      unmarked = unmarked_still c.in_ok-slab.slab c.plant.new.slab c.plant.ensures.marks (empty_unmarked c.in_ok-slab.slab c.in_ok-slab.ensures.empty);
      limits = within.1;
      allowed = within.0;
    })
