-- Where numbers stand after an edit that is accepted.
use Rattle.std.proofs.Common.{◌≡◌, ◌≤◌, ℕ, length, Bool, true, false, ◌∷◌, ◌++◌, Option, Some, None, Ok, refl, sym, ap, ◌∙◌, subst, option_and_then, option_map, is_some}
use Rattle.std.specs.Prelude.{is_none}
use Rattle.std.specs.List.{slice_get, insert}
use Rattle.at_model.specs.Classes.{Classes}
use Rattle.at_model.specs.Trees.{Tree, Cell, Trees, Many, from_trees, conforms}
use Rattle.at_model.specs.Paths.{Node, tree_at, cell_at, is_within, parent_of}
use Rattle.at_model.specs.Edits.{Edit, Set, Put, Drop, Insert, Token, Move, shape_at, list_class, has_component, is_in_range, is_plain, with_cell, with_node, without_child, with_one_more, taken_out, past_taking, put_in, left_by, edited, moved_under, past_drop, past_insert, carried}
use Rattle.at_model.proofs.Options.{mapped}
use Rattle.at_model.proofs.of_edits.Conforming.{IsAccepted, accepted, wanted, lives}
use Rattle.at_model.proofs.of_edits.Moving.{Way}
use Rattle.at_model.proofs.of_edits.Surviving.{out_taken}
use Rattle.at_model.proofs.of_edits.Untouched.{tree_at-append, from_to_trees}
use Rattle.at_model.proofs.of_edits.Untouching.{moved_nowhere, not_false}
use Rattle.at_model.proofs.of_edits.Edited.{IsMove, is_move}
use Rattle.at_model.proofs.of_edits.Moves.{goes_along, goes_apart, taken_outside}
use Rattle.at_model.proofs.of_edits.Moved.{part_there, between, ok1, has1, range1, taking_is, plain}
use Rattle.at_store.specs.Numbers.{relabel, relabel_edit, path_in, path_in_new, IsApart, IsFreshTree, IsFresh}
use Rattle.at_store.proofs.of_edits.Commits.{one_there}
use Rattle.at_store.proofs.Depths.{there_after}
use Rattle.at_store.proofs.of_edits.Edited.{Goes, IsAfter, set_after, put_after, drop_after, drop_goes, insert_after, insert_cell, token_after}
use Rattle.at_store.proofs.Found.{number_found, named, met}
use Rattle.at_store.proofs.Relabelled.{relabelled-left, relabelled-tree_at, relabelled-cell_at}
use Rattle.at_store.proofs.of_edits.Removed.{subtree_apart}
use Rattle.at_store.proofs.Within.{stands_within, within_rest}

-- a number stands in what is moved exactly where its node is that or stands below it
module _ (s x : Tree) (node : Node) (apart : IsApart s) (there : tree_at s node ≡ Some x) where
  pub out_of_it : (k : ℕ) (n : Node) → path_in k s ≡ Some n → is_within node n ≡ false → path_in k x ≡ None
  out_of_it k n is outside =
      let (v, found, number) = number_found s k n is in
      none (path_in k x) (ap (λ j. is_some (path_in j x)) (sym number) ∙ stands_within s x node apart there n v found ∙ outside)
    where
      none : (o : Option Node) → is_some o ≡ false → o ≡ None
      none None e = refl
      none (Some r) e = absurd cc

  pub nowhere_in_it : (k : ℕ) → path_in k s ≡ None → path_in k x ≡ None
  nowhere_in_it k e = by_path (path_in k x) refl
    where
      by_path : (o : Option Node) → path_in k x ≡ o → o ≡ None
      by_path None is = refl
      by_path (Some r) is =
          let (v, found, number) = number_found x k r is in
          let stood : tree_at s (node ++ r) ≡ Some v = tree_at-append s node r ∙ ap (option_and_then (λ z. tree_at z r)) there ∙ found in
          let f : true ≡ false = sym (met k s (node ++ r) (v, stood, number)) ∙ ap is_some e in absurd cc

module _ (classes : Classes) (f : ℕ → ℕ) (s : Tree) (ok : conforms classes (relabel f s) 0 ≡ true) (apart : IsApart s) where
  module _ (node to : Node) (part index : ℕ) (u : Tree) (made : IsAccepted classes (relabel f s) (Move node to part index) u) where
    abbrev pub move : IsMove classes (relabel f s) node to part index
    move = is_move classes (relabel f s) node to part index made.fit made.removable made.outside

    -- what is moved, by its numbers
    pub moved_numbers : (x : Tree) × (tree_at s node ≡ Some x) × (relabel f x ≡ move.moved)
    moved_numbers = mapped (relabel f) (tree_at s node) move.moved (sym (relabelled-tree_at f s node) ∙ move.found)

    abbrev pub x : Tree
    x = moved_numbers.0

    abbrev pub p : Node × Way
    p = move.place

    abbrev pub q : Node
    q = move.target

    -- the numbers when it is taken out
    abbrev pub mid : Tree
    mid = with_node (with_cell (without_child p.1.1) p.1.0) s p.0

    pub taken_is : taken_out s node ≡ mid
    taken_is = ap (λ (o : Option (Node × Way)). elim o as (λ _. Tree) [ None ↦ s | Some p ↦ with_node (with_cell (without_child p.1.1) p.1.0) s p.0 ]) move.above

    pub mid_classes : relabel f mid ≡ between classes (relabel f s) ok node to part index made.loose move.moved move.found p move.above move.listed q move.goes made.component made.fit made.index
    mid_classes = ap (relabel f) (sym taken_is) ∙ relabelled-left f s (Drop node)
        ∙ ap (λ (o : Option (Node × Way)). elim o as (λ _. Tree) [
          | None ↦ relabel f s
          | Some p ↦
              with_node (with_cell (without_child p.1.1) p.1.0) (relabel f s) p.0
        ]) move.above

    mid_goes : Goes classes f s ok apart (moved_under p.0 (past_drop p.1)) mid (λ k. None)
    mid_goes = drop_goes classes f s ok apart p
        (plain classes (relabel f s) ok node to part index made.loose move.moved move.found p move.above move.listed q move.goes made.component made.fit made.index)

    mid_ok : conforms classes (relabel f mid) 0 ≡ true
    mid_ok = ap (λ z. conforms classes z 0) mid_classes ∙ ok1 classes (relabel f s) ok
        node to part index made.loose move.moved move.found p move.above move.listed q move.goes made.component made.fit made.index

    pub mid_has : has_component classes (relabel f mid) (Insert q part index x) ≡ true
    mid_has = ap (λ z. has_component classes z (Insert q part index x)) mid_classes ∙ has1 classes (relabel f s) ok
        node to part index made.loose move.moved move.found p move.above move.listed q move.goes made.component made.fit made.index

    mid_range : is_in_range (relabel f mid) (Insert q part index x) ≡ true
    mid_range = ap (λ z. is_in_range z (Insert q part index x)) mid_classes ∙ range1 classes (relabel f s) ok
        node to part index made.loose move.moved move.found p move.above move.listed q move.goes made.component made.fit made.index

    taking : (n : Node) → past_taking node n ≡ moved_under p.0 (past_drop p.1) n
    taking = taking_is classes (relabel f s) ok node to part index made.loose move.moved move.found p move.above move.listed q move.goes made.component made.fit made.index

    fresh : IsFreshTree mid x
    fresh = (subtree_apart s node x apart moved_numbers.1, λ k m is. out k m is (path_in k s) refl)
      where
        out : (k : ℕ) (m : Node) → path_in k mid ≡ Some m → (o : Option Node) → path_in k s ≡ o → path_in k x ≡ None
        out k m is None none = nowhere_in_it s x node apart moved_numbers.1 k none
        out k m is (Some n) some =
            let goes : moved_under p.0 (past_drop p.1) n ≡ Some m = ap (option_and_then (moved_under p.0 (past_drop p.1))) (sym some) ∙ sym (mid_goes.1 k refl) ∙ is in
            out_of_it s x node apart moved_numbers.1 k n some (taken_outside node n m (taking n ∙ goes))

    put : IsAfter classes f mid mid_ok mid_goes.0 (Insert q part index x)
    put = insert_after classes f mid mid_ok mid_goes.0 q part index x mid_has mid_range fresh

    -- the list in which it stands then
    pub taker_there : (w : Tree) × (c : Cell) × (tree_at mid q ≡ Some w) × (cell_at w part ≡ Some c)
    taker_there =
        let (shape, sees) = wanted classes list_class (shape_at classes (relabel f mid) q part) mid_has in
        let (w, at_q) = lives classes (relabel f mid) q part shape sees in
        let (y, there, same) = mapped (relabel f) (tree_at mid q) w (sym (relabelled-tree_at f mid q) ∙ at_q) in
        by_cell y there (cell_at y part) refl
      where
        by_cell : (y : Tree) → tree_at mid q ≡ Some y → (o : Option Cell) → cell_at y part ≡ o → (w : Tree) × (c : Cell) × (tree_at mid q ≡ Some w) × (cell_at w part ≡ Some c)
        by_cell y there (Some c) here = (y, c, there, here)
        by_cell y there None here = absurd (no_cell y there here)
          where
            no_cell : (y : Tree) → tree_at mid q ≡ Some y → cell_at y part ≡ None → ⊥
            no_cell y there here =
                let (shape, sees) = wanted classes list_class (shape_at classes (relabel f mid) q part) mid_has in
                part_there classes (relabel f mid) mid_ok q part (relabel f y) shape (relabelled-tree_at f mid q
                ∙ ap (option_map (relabel f)) there) sees (relabelled-cell_at f y part ∙ ap (option_map _) here)

    pub taker_list : (w : Tree) × (ts : Trees) × (tree_at mid q ≡ Some w) × (cell_at w part ≡ Some (Many ts)) × (index ≤ length (from_trees ts))
    taker_list =
        let (w, c, there, here) = taker_there in
        let (ts, many, bound) = insert_cell classes f mid mid_ok mid_goes.0 q part index x mid_has mid_range w c there here in
        (w, ts, there, here ∙ ap Some many, bound)

    new_there : (rest : Node) (v : Tree) → tree_at x rest ≡ Some v → tree_at (put_in mid q part index x) (q ++ (part, index) ∷ rest) ≡ Some v
    new_there rest v is =
        let (w, c, there, here) = taker_there in
        let (ts, many, bound) = insert_cell classes f mid mid_ok mid_goes.0 q part index x mid_has mid_range w c there here in
        there_after (with_one_more x index) part index mid x w (Many ts) q rest there (here ∙ ap Some many)
        (ap (λ us. slice_get us index) (from_to_trees (insert (from_trees ts) index x))
        ∙ one_there (from_trees ts) index x bound) ∙ is

    left_move : left_by s (Move node to part index) ≡ put_in mid q part index x
    left_move =
        ap (λ (o : Option Tree). elim o as (λ _. Tree) [ None ↦ s | Some u ↦ elim (past_taking node to) [ None ↦ s | Some q ↦ put_in (taken_out s node) q part index u ] ]) moved_numbers.1 ∙
        ap (λ (o : Option Node). elim o as (λ _. Tree) [ None ↦ s | Some q ↦ put_in (taken_out s node) q part index x ]) move.goes ∙ ap (λ z. put_in z q part index x) taken_is

    move_goes : (k : ℕ) → path_in k (put_in mid q part index x) ≡ option_and_then (carried (Move node to part index)) (path_in k s)
    move_goes k = by_path (path_in k s) refl
      where
        elsewhere : path_in k x ≡ None → path_in k (put_in mid q part index x) ≡ option_and_then (moved_under q
            (past_insert (part, index))) (option_and_then (moved_under p.0 (past_drop p.1)) (path_in k s))
        elsewhere none = put.goes k none ∙ ap (option_and_then (moved_under q (past_insert (part, index)))) (mid_goes.1 k refl)

        by_taken : (n : Node) → (o : Option Node) → past_taking node n ≡ o → is_none o ≡ false
            → option_and_then (moved_under q (past_insert (part, index))) (moved_under p.0 (past_drop p.1) n)
            ≡ carried (Move node to part index) n
        by_taken n None taken out = absurd cc
        by_taken n (Some j) taken out = ap (option_and_then (moved_under q (past_insert (part, index)))) (sym (taking n) ∙ taken) ∙ sym (goes_apart node to part index q n j move.goes taken)

        within : (n : Node) → path_in k s ≡ Some n → (b : Bool) → is_within node n ≡ b → path_in k (put_in mid q part index x) ≡ carried (Move node to part index) n
        within n is false out =
            elsewhere (out_of_it s x node apart moved_numbers.1 k n is out) ∙ ap (λ o. option_and_then
            (moved_under q (past_insert (part, index))) (option_and_then (moved_under p.0 (past_drop p.1)) o)) is ∙
            by_taken n (past_taking node n) refl (out_taken node n ∙ out)
        within n is true inside =
            let (rest, ends) = within_rest node n inside in
            let (v, found, number) = number_found s k n is in
            let below : tree_at x rest ≡ Some v = sym (ap (option_and_then (λ z. tree_at z rest)) moved_numbers.1) ∙ sym (tree_at-append s node rest) ∙ ap (tree_at s) (sym ends) ∙ found in
            ap (λ j. path_in j (put_in mid q part index x)) (sym number) ∙ named (put_in mid q part index x) put.apart_then (q ++ (part, index) ∷ rest) v (new_there rest v below) ∙
            sym (ap (carried (Move node to part index)) ends ∙ goes_along node to part index q rest move.goes)

        by_path : (o : Option Node) → path_in k s ≡ o → path_in k (put_in mid q part index x) ≡ option_and_then (carried (Move node to part index)) o
        by_path None is = elsewhere (nowhere_in_it s x node apart moved_numbers.1 k is) ∙ ap (λ o. option_and_then
            (moved_under q (past_insert (part, index))) (option_and_then (moved_under p.0 (past_drop p.1)) o)) is
        by_path (Some n) is = within n is (is_within node n) refl

    pub move_after : Goes classes f s ok apart (carried (Move node to part index)) (left_by s (Move node to part index)) (λ k. None)
    move_after = subst (λ (z : Tree). Goes classes f s ok apart (carried (Move node to part index)) z (λ k. None)) (sym left_move) (put.apart_then, λ k none. move_goes k)

  left_after : (e : Edit) (u : Tree) → IsAccepted classes (relabel f s) (relabel_edit f e) u → IsFresh s e → Goes classes f s ok apart (carried e) (left_by s e) (λ k. path_in_new k e)
  left_after (Set node new) u made is_new = set_after classes f s ok apart node new (parent_of node) refl is_new
  left_after (Put node part new) u made is_new = put_after classes f s ok apart node part new is_new
  left_after (Drop node) u made is_new = drop_after classes f s ok apart node (parent_of node) (not_false (is_plain classes (relabel f s) node) made.removable)
  left_after (Insert node part index new) u made is_new = let a = insert_after classes f s ok apart node part index new made.component made.index is_new in (a.apart_then, a.goes)
  left_after (Token node part v) u made is_new =
      let same : moved_under node (λ (w : Way). Some w) ≡ carried (Token node part v) = λ i n. moved_nowhere node n i in
      subst (λ (carry : Node → Option Node). Goes classes f s ok apart carry (left_by s (Token node part v)) (λ k. None)) same (token_after classes f s ok apart node part v made.component)
  left_after (Move node to part index) u made is_new = move_after node to part index u made

  pub edited_after : (e : Edit) (t : Tree) → edited classes (relabel f s) (relabel_edit f e) ≡ Ok t → IsFresh s e → Goes classes f s ok apart (carried e) (left_by s e) (λ k. path_in_new k e)
  edited_after e t is fresh = left_after e t (accepted classes (relabel f s) (relabel_edit f e) t is) fresh
