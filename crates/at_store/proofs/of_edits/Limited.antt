-- There is room for what an edit brings exactly where the tree that it leaves is within the limits.
use Rattle.std.proofs.Common.{◌≡◌, ◌≤◌, ◌<◌, ℕ, suc, ◌-◌, Bool, true, false, ◌&&◌, nat_le, if◌then◌else◌, Some, length, refl, sym, ap, ◌∙◌, arith, option_map}
use Rattle.std.proofs.lemmas.Bool.{leb-true}
use Rattle.std.proofs.lemmas.Bool.Decides.{nat_tests}
use Rattle.slab.specs.Slab.{Slab, slab_len}
use Rattle.at_model.specs.Classes.{Classes}
use Rattle.at_model.specs.Terms.{max_depth}
use Rattle.at_model.specs.Trees.{Tree, class_of, conforms, depth, nodes}
use Rattle.at_model.specs.Paths.{Node, tree_at}
use Rattle.at_model.specs.Edits.{is_within_nodes, left_by, max_nodes, tokens_short}
use Rattle.at_model.proofs.Options.{both}
use Rattle.at_tree.specs.Token.{token_view}
use Rattle.at_tree.specs.TreeView.{tree_view}
use Rattle.at_store.specs.Memory.{class_in}
use Rattle.at_store.specs.Numbers.{path_in, relabel}
use Rattle.at_store.specs.Refusing.{IsAllowed, IsSettled, edit_at, node_of, target_of}
use Rattle.at_store.specs.Shown.{IsIdle, Shown, numbers, tree as shown_tree}
use Rattle.at_store.specs.Told.{allowed_nodes, level_told, low_told, room, size_told, within_told}
use Rattle.at_store.specs.View.{memory_of}
use Rattle.at_store.specs.declared.edit.Edit.{Edit}
use Rattle.at_store.specs.declared.edit.Edit.TheVariants.{Set, Put, Drop, Insert, Token, Move}
use Rattle.at_store.specs.declared.entry.Entry.{Entry}
use Rattle.at_store.proofs.Classes.{depth_relabelled, nodes_relabelled}
use Rattle.at_store.proofs.Counted.{slab_counted}
use Rattle.at_store.proofs.Depths.{level_within}
use Rattle.at_store.proofs.Found.{number_found}
use Rattle.at_store.proofs.Levels.{level_is}
use Rattle.at_store.proofs.Relabelled.{relabelled-tree_at}
use Rattle.at_store.proofs.of_edits.Room.{in_bounds, set_room, put_room, insert_room, token_room, drop_room}
use Rattle.at_store.proofs.of_edits.Moved.{move_room}
use Rattle.at_store.proofs.Low.{low_told_is}
use Rattle.at_store.proofs.Sized.{size_is}

-- at most both is at most the lesser of the two
both_most : (a n m : ℕ) → nat_le a (if nat_le n m then n else m) ≡ (nat_le a n && nat_le a m)
both_most a n m = by_tests (nat_le n m) (nat_le a n) (nat_le a m) refl refl refl
  where
    by_tests : (x p q : Bool) → nat_le n m ≡ x → nat_le a n ≡ p → nat_le a m ≡ q →
        nat_le a (if x then n else m) ≡ (p && q)
    by_tests true true true f g h = g
    by_tests true false q f g h = g
    by_tests true true false f g h =
        absurd (let less : n ≤ m = grind (arith, nat_tests) in let few : a ≤ n = grind (arith, nat_tests) in let many : m < a = grind (arith, nat_tests) in omega (arith, less, few, many))
    by_tests false true q f g h = h
    by_tests false false true f g h =
        absurd (let less : m < n = grind (arith, nat_tests) in let few : a ≤ m = grind (arith, nat_tests) in let many : n < a = grind (arith, nat_tests) in omega (arith, less, few, many))
    by_tests false false false f g h = h

and_in_front : (a b c d : Bool) → (a && b && c && d) ≡ (a && (b && c && d))
and_in_front true b c d = refl
and_in_front false b c d = refl

-- a tree that may have so many nodes is within the limits, and has at most so many
pub in_bounds_is : (n : ℕ) (t : Tree) → in_bounds (allowed_nodes n) t ≡ is_within_nodes n t
in_bounds_is n t =
    ap (λ (b : Bool). b && nat_le (depth t) max_depth && tokens_short t) (both_most (nodes t) n max_nodes) ∙
    and_in_front (nat_le (nodes t) n) (nat_le (nodes t) max_nodes) (nat_le (depth t) max_depth) (tokens_short t)

and_both : (a b : Bool) → a ≡ true → b ≡ true → (a && b) ≡ true
and_both true b e f = f
and_both false b e f = e

module _ (classes : Classes) (limit : ℕ) (slab : Slab Entry) (s : Tree) (h : IsSettled classes limit slab s) where
  abbrev shown : Tree
  shown = relabel (class_in (memory_of slab)) s

  abbrev most : ℕ
  most = allowed_nodes limit

  within : in_bounds most shown ≡ true
  within = in_bounds_is limit shown ∙ and_both _ _ h.allowed h.within

  low : depth s ≤ max_depth
  low =
      let f = leb-true (depth shown) max_depth (both _ _ (both _ _ h.within).0).1 in
      let g = depth_relabelled (class_in (memory_of slab)) s in
      omega (arith, f, g)

  there : (n : Node) (u : Tree) → tree_at s n ≡ Some u → tree_at shown n ≡ Some (relabel (class_in (memory_of slab)) u)
  there n u is = relabelled-tree_at (class_in (memory_of slab)) s n ∙ ap (option_map (relabel (class_in (memory_of slab)))) is

  count_is : slab_len slab ≡ nodes shown
  count_is = slab_counted slab s h.keeps ∙ sym (nodes_relabelled (class_in (memory_of slab)) s)

  level : (k : ℕ) (n : Node) → path_in k s ≡ Some n → level_told (memory_of slab) max_depth k ≡ length n
  level k n p =
      let (u, is, number) = number_found s k n p in
      let f = level_within s n u is in
      level_is (memory_of slab) s h.keeps max_depth k n p (omega (arith, f, low))

  size : (k : ℕ) (n : Node) (u : Tree) → tree_at s n ≡ Some u → class_of u ≡ k → size_told (memory_of slab) max_depth k ≡ nodes (relabel (class_in (memory_of slab)) u)
  size k n u is number =
      let f = level_within s n u is in
      ap (size_told (memory_of slab) max_depth) (sym number) ∙ size_is (memory_of slab) s h.keeps max_depth n u is (omega (arith, f, low)) ∙ sym (nodes_relabelled (class_in (memory_of slab)) u)

  bounded : (e : Edit) (n m : Node) → path_in (node_of e) s ≡ Some n → path_in (target_of e) s ≡ Some m →
      IsAllowed classes shown (edit_at n m e) →
      within_told most (slab_len slab) (memory_of slab) e ≡ in_bounds most (left_by shown (edit_at n m e))
  bounded (Set node tree) n m p q allowed =
      let (u, is, number) = number_found s node n p in
      (λ i. room most (count_is i - size node n u is number i) (level node n p i) (tree_view tree)) ∙ set_room classes
      shown h.conforming most within n (tree_view tree) (relabel (class_in (memory_of slab)) u) (there n u is)
  bounded (Put node part tree) n m p q allowed =
      let (u, is, number) = number_found s node n p in
      (λ i. room most (count_is i) (suc (level node n p i)) (tree_view tree)) ∙ put_room classes shown h.conforming most
      within n part (tree_view tree) (relabel (class_in (memory_of slab)) u) (there n u is) allowed
  bounded (Drop node) n m p q allowed =
      let (u, is, number) = number_found s node n p in
      drop_room classes shown h.conforming most within n (relabel (class_in (memory_of slab)) u) (there n u is) allowed.removable
  bounded (Insert node part index tree) n m p q allowed =
      let (u, is, number) = number_found s node n p in
      (λ i. room most (count_is i) (suc (level node n p i)) (tree_view tree)) ∙ insert_room classes shown h.conforming
      most within n part index (tree_view tree) (relabel (class_in (memory_of slab)) u) (there n u is) allowed.component allowed.index
  bounded (Token node part value) n m p q allowed =
      let (u, is, number) = number_found s node n p in
      token_room classes shown h.conforming most within n part (token_view value) (relabel (class_in (memory_of slab)) u) (there n u is) allowed
  bounded (Move node to part index) n m p q allowed =
      let (u, is, number) = number_found s node n p in
      let low_is = low_told_is (memory_of slab) s h.keeps (max_depth - suc (length m)) n u is in
      (λ i. low_told (memory_of slab) (max_depth - suc (level to m q i)) node) ∙ ap (low_told (memory_of slab) (max_depth - suc (length m))) (sym number) ∙ low_is ∙
      ap (λ d. nat_le d (max_depth - suc (length m))) (sym (depth_relabelled (class_in (memory_of slab)) u)) ∙
      move_room classes shown h.conforming most within n m part index (relabel (class_in (memory_of slab)) u) (there n u is) allowed

  pub limited : (e : Edit) (n m : Node) → path_in (node_of e) s ≡ Some n → path_in (target_of e) s ≡ Some m →
      IsAllowed classes shown (edit_at n m e) →
      within_told most (slab_len slab) (memory_of slab) e ≡ is_within_nodes limit (left_by shown (edit_at n m e))
  limited e n m p q allowed = bounded e n m p q allowed ∙ in_bounds_is limit (left_by shown (edit_at n m e))

-- so it is of an idle store
pub settled : (classes : Classes) (s : Shown) → IsIdle s → conforms classes (shown_tree s) 0 ≡ true →
    IsSettled classes s.limit s.slab (numbers s)
settled classes s idle ok = record { keeps = idle.keeps; conforming = ok; within = idle.limits; allowed = idle.allowed }
