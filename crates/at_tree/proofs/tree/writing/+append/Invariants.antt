use Rattle.std.proofs.Common.{◌≡◌, ◌≤◌, ◌++◌, [], ◌∷◌, length, map}
use Rattle.at_model.specs.Classes.{name_of}
use Rattle.at_class.specs.View.{part_view}
use Rattle.at_class.specs.declared.tree.Tree.{out-Tree}
use Rattle.at_tree.proofs.TreeTexts.{cells_so_far, trees_so_far, written_so_far}
use Rattle.at_tree.proofs.tree.writing.+append.Given as goal

abbrev pub invariant-append_tree-loop-i : goal.invariant-append_tree-loop-i
invariant-append_tree-loop-i l =
    (l.out.items ≡ l.fn.out.items ++ ((name_of l.classes (out-Tree l.tree).class ++ 40 ∷ []) ++ cells_so_far l.classes (map part_view l.parts) l.cell-items l.i))
    × (l.written ≡ length (written_so_far l.classes (map part_view l.parts) l.cell-items l.i)) × (l.written ≤ l.i)

abbrev pub invariant-append_list-loop-i : goal.invariant-append_list-loop-i
invariant-append_list-loop-i l = l.out.items ≡ l.fn.out.items ++ (91 ∷ trees_so_far l.classes l.trees l.i)
