-- The two lists of a move that is accepted, by their numbers.
use Rattle.std.proofs.Common.{◌≡◌, ℕ, ◌≤◌, true, length, Option, Some, None, sym, ap, ◌∙◌, option_map}
use Rattle.at_model.specs.Classes.{Classes}
use Rattle.at_model.specs.Trees.{Tree, Cell, Trees, One, Many, Empty, Filled, Holds, class_of, from_trees, conforms}
use Rattle.at_model.specs.Paths.{Node, tree_at, cell_at, parent_of}
use Rattle.at_model.specs.Edits.{Move, list_class, taken_out, past_taking, past_drop, without_child, with_cell, with_node, moved_under}
use Rattle.at_model.proofs.of_edits.Conforming.{IsAccepted}
use Rattle.at_model.proofs.of_edits.Moving.{Way}
use Rattle.at_model.proofs.of_edits.Untouching.{component_there, list_cell}
use Rattle.at_model.proofs.of_edits.Surviving.{parent_is}
use Rattle.at_model.proofs.of_edits.Ways.{drop_keeps, drop_way}
use Rattle.at_model.proofs.of_edits.Untouched.{FitsAt, local, local_class, tree_moved}
use Rattle.at_store.specs.Numbers.{relabel, relabel_cell, path_in, IsApart}
use Rattle.at_store.specs.Memory.{Info, Keeps}
use Rattle.at_store.proofs.of_edits.Carrying.{move, moved_numbers, taken_is, taker_list}
use Rattle.at_store.proofs.of_edits.Commits.{one_cell}
use Rattle.at_store.proofs.Counts.{of_cell}
use Rattle.at_store.proofs.of_edits.Edited.{drop_fits}
use Rattle.at_store.proofs.Found.{number_found}
use Rattle.at_store.proofs.Relabelled.{relabelled-tree_at, relabelled-cell_at}
use Rattle.at_store.proofs.Sizes.{above_there}

-- what is taken out, and the list in which it comes
pub record Takes (s : Tree) (n m : Node) (part index : ℕ) : Type 0 where
  pub above : Node
  pub way : ℕ × ℕ
  pub parent : Tree
  pub cell : Cell
  pub moved : Tree
  pub goes : Node
  pub taker : Tree
  pub elements : Trees
  pub under : parent_of n ≡ Some (above, way)
  pub found : tree_at s above ≡ Some parent
  pub here : cell_at parent way.0 ≡ Some cell
  pub there : tree_at s n ≡ Some moved
  pub loose : (t : Tree) → cell ≡ One t → ⊥
  pub outside : past_taking n m ≡ Some goes
  pub takes : tree_at (taken_out s n) goes ≡ Some taker
  pub list : cell_at taker part ≡ Some (Many elements)
  pub bound : index ≤ length (from_trees elements)

no_one : (f : ℕ → ℕ) (c : Cell) (us : Trees) → relabel_cell f c ≡ Many us → (t : Tree) → c ≡ One t → ⊥
no_one f (One t) us e y one = absurd cc
no_one f (Many ts) us e y one = absurd cc
no_one f Empty us e y one = absurd cc
no_one f (Filled t) us e y one = absurd cc
no_one f (Holds v) us e y one = absurd cc

pub move_does : (classes : Classes) (f : ℕ → ℕ) (s : Tree) (ok : conforms classes (relabel f s) 0 ≡ true)
    (apart : IsApart s) (n m : Node) (part index : ℕ) (u : Tree)
    → IsAccepted classes (relabel f s) (Move n m part index) u → Takes s n m part index
move_does classes f s ok apart n m part index u made =
    let mv = move classes f s ok apart n m part index u made in
    let place = mv.place in
    let (y, there, same) = moved_numbers classes f s ok apart n m part index u made in
    let (v, found, child) = above_there s place.0 place.1 y (sym (ap (tree_at s) (parent_is n place mv.above)) ∙ there) in
    let (c, here, in_it) = of_cell (cell_at v place.1.0) place.1.1 y child in
    let shown : tree_at (relabel f s) place.0 ≡ Some (relabel f v) = relabelled-tree_at f s place.0 ∙ ap (option_map (relabel f)) found in
    let shown_cell : cell_at (relabel f v) place.1.0 ≡ Some (relabel_cell f c) = relabelled-cell_at f v place.1.0 ∙ ap (option_map (relabel_cell f)) here in
    let (shape, some, conf) = component_there classes (relabel f s) ok list_class place.0 place.1.0 (relabel f v) (relabel_cell f c) mv.listed shown shown_cell in
    let (us, many) = list_cell classes (relabel_cell f c) shape some conf in
    let (w, ts, at_q, list, bound) = taker_list classes f s ok apart n m part index u made in
    record {
      above = place.0;
      way = place.1;
      parent = v;
      cell = c;
      moved = y;
      goes = mv.target;
      taker = w;
      elements = ts;
      under = mv.above;
      found = found;
      here = here;
      there = there;
      loose = no_one f c us many;
      outside = mv.goes;
      takes = ap (λ (z : Tree). tree_at z mv.target) (taken_is classes f s ok apart n m part index u made) ∙ at_q;
      list = list;
      bound = bound;
    }

module _ (memory : ℕ → Option Info) (s : Tree) (h : Keeps memory s None) (n m : Node) (part index : ℕ) (d : Takes s n m part index) where
  abbrev g : Cell → Cell
  g = without_child d.way.1

  not_one : (v : Tree) (b : Cell) → tree_at s d.above ≡ Some v → cell_at v d.way.0 ≡ Some b → (t : Tree) → b ≡ One t → ⊥
  not_one v b is at' t one = d.loose t (one_cell s d.parent d.above d.way.0 d.cell d.found d.here v b is at' ∙ one)

  fits : FitsAt g d.way.0 (past_drop d.way) s d.above
  fits v b is at' r y same e = drop_fits d.way r y b (not_one v b is at') same (drop_way d.way r y e)

  moves : moved_under d.above (past_drop d.way) m ≡ Some d.goes
  moves = sym (ap (λ (o : Option (Node × Way)). elim o as (λ _. Option Node) [ None ↦ None | Some p ↦ moved_under p.0 (past_drop p.1) m ]) d.under) ∙ d.outside

  taken : taken_out s n ≡ with_node (with_cell g d.way.0) s d.above
  taken = ap (λ (o : Option (Node × Way)). elim o as (λ _. Tree) [ None ↦ s | Some p ↦ with_node (with_cell (without_child p.1.1) p.1.0) s p.0 ]) d.under

  -- the target as it was, and as it is then
  taker_local : (v : Tree) → tree_at s m ≡ Some v → d.taker ≡ local g d.way.0 (past_drop d.way) d.above m v
  taker_local v at_m =
      let e : tree_at (with_node (with_cell g d.way.0) s d.above) d.goes ≡ Some (local g d.way.0 (past_drop d.way) d.above m v) =
      tree_moved g d.way.0 (past_drop d.way) (drop_keeps d.way) d.above m d.goes s fits moves ∙ ap (option_map (local g d.way.0 (past_drop d.way) d.above m)) at_m in
      let f : Some d.taker ≡ Some (local g d.way.0 (past_drop d.way) d.above m v) = sym d.takes ∙ ap (λ (z : Tree). tree_at z d.goes) taken ∙ e in cc

  pub taker_is : (to : ℕ) → path_in to s ≡ Some m → class_of d.taker ≡ to
  taker_is to q =
      let (v, at_m, number) = number_found s to m q in
      ap class_of (taker_local v at_m) ∙ local_class g d.way.0 (past_drop d.way) (drop_keeps d.way) d.above m v ∙ number
