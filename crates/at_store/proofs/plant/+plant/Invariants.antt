use Rattle.std.proofs.Common.{◌≡◌, length, map}
use Rattle.std.specs.Iterator.Adapters.{enumerate_source, enumerate_count}
use Rattle.std.specs.Vec.Iter.{into_iter_items, into_iter_len}
use Rattle.at_tree.specs.TreeView.{cell_view, tree_view}
use Rattle.at_class.specs.declared.tree.Tree.{out-Tree}
use Rattle.at_store.specs.View.{MarksNoMore, stored_of}
use Rattle.at_store.proofs.of_planting.Gains.{HasFirstCells, HasFirstTrees}
use Rattle.at_store.proofs.plant.+plant.Given as goal

abbrev pub invariant-plant-loop-part : goal.invariant-plant-loop-part
invariant-plant-loop-part l = record {
  len : into_iter_len (enumerate_source l.part-iterator) ≡ length (into_iter_items (enumerate_source l.part-iterator));
  has : HasFirstCells l.node (out-Tree l.fn.tree).class (l.fn.up, l.fn.index) (map cell_view
      (out-Tree l.fn.tree).cells.items) (map cell_view (into_iter_items (enumerate_source l.part-iterator)))
      (enumerate_count l.part-iterator) (stored_of l.fn.slab) (stored_of l.slab);
  marks : MarksNoMore l.fn.slab l.slab;
}

abbrev pub invariant-plant_list-loop-index : goal.invariant-plant_list-loop-index
invariant-plant_list-loop-index l = record {
  len : into_iter_len (enumerate_source l.index-iterator) ≡ length (into_iter_items (enumerate_source l.index-iterator));
  has : HasFirstTrees l.node l.part (map tree_view l.fn.trees.items) (map tree_view (into_iter_items
      (enumerate_source l.index-iterator))) (enumerate_count l.index-iterator) (stored_of l.fn.slab) (stored_of l.slab);
  marks : MarksNoMore l.fn.slab l.slab;
}
