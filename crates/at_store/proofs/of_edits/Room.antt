-- A tree that is within the limits is so after an edit exactly where there is room for what the edit brings.
use Rattle.std.proofs.Common.{◌≡◌, ◌≤◌, ◌<◌, ℕ, zero, suc, ◌+◌, ◌-◌, Bool, true, false, ◌&&◌, nat_le, List, [], ◌∷◌, length, Option, Some, None, refl, sym, ap, ◌∙◌, subst, arith, option_and_then, option_map, is_some}
use Rattle.std.specs.List.{slice_get}
use Rattle.std.proofs.lemmas.Bool.{leb-true, eqb-true}
use Rattle.std.proofs.lemmas.Bool.Decides.{nat_tests}
use Rattle.at_model.specs.Classes.{Classes, Component, Shape, parts}
use Rattle.at_model.specs.Classes as class
use Rattle.at_model.specs.Terms.{max_depth}
use Rattle.at_model.specs.Trees.{Tree, Cells, Cell, Trees, Node as branch, no_cells, cell, One, Many, Empty, Filled, Holds, class_of, children, from_cells, from_trees, nodes, depth, conforms, cells_conform, cell_conforms}
use Rattle.at_model.specs.Trees as trees
use Rattle.at_model.specs.Paths.{Node, tree_at, cell_at, children_at, parent_of}
use Rattle.at_model.specs.Edits.{Set, Put, Drop, Insert, Token, shape_at, plain_class, list_class, optional_class, token_kind, has_component, is_in_range, is_plain, is_removable, children_of, with_cell, with_node, without_child, left_by, tokens_short, is_short}
use Rattle.at_model.proofs.Complete.{conforms_at}
use Rattle.at_model.proofs.of_texts.ConformingParts.{conforming_parts}
use Rattle.at_model.proofs.Options.{both}
use Rattle.at_model.proofs.of_edits.Surviving.{parent_is}
use Rattle.at_model.proofs.of_edits.Untouching.{shape_there, list_cell, plain_cell, selected, not_false}
use Rattle.at_store.specs.Told.{room}
use Rattle.at_store.specs.Refusing.{IsAllowed}
use Rattle.at_store.proofs.Counts.{of_cell, count_set, count_put, count_insert, count_token, count_drop}
use Rattle.at_store.proofs.Depths.{depth_set, depth_put, depth_insert, depth_token, depth_drop}
use Rattle.at_store.proofs.ShortTokens.{node_changed, at_cell, one_more, one_less}
use Rattle.at_store.proofs.Sizes.{below_smaller, above_there}

same_le : (a b c : ℕ) → (a ≤ c → b ≤ c) → (b ≤ c → a ≤ c) → nat_le a c ≡ nat_le b c
same_le a b c there back = by_tests (nat_le a c) (nat_le b c) refl refl
  where
    by_tests : (p q : Bool) → nat_le a c ≡ p → nat_le b c ≡ q → p ≡ q
    by_tests true true e g = refl
    by_tests false false e g = refl
    by_tests true false e g = let h : b ≤ c = there (leb-true a c e) in let k : c < b = grind (arith, nat_tests) in absurd (omega arith)
    by_tests false true e g = let h : a ≤ c = back (leb-true b c g) in let k : c < a = grind (arith, nat_tests) in absurd (omega arith)

pub true_le : (a c : ℕ) → a ≤ c → nat_le a c ≡ true
true_le a c h = grind (arith, nat_tests)

-- the tree has at most so many nodes, is at most so deep, and no text in it is too long
abbrev pub in_bounds : ℕ → Tree → Bool
in_bounds most t = nat_le (nodes t) most && nat_le (depth t) max_depth && tokens_short t

same_room : (most : ℕ) (l x : Tree) (others level : ℕ) → nodes l ≡ others + nodes x →
    (depth l ≤ max_depth → level + depth x ≤ max_depth) × (level + depth x ≤ max_depth → depth l ≤ max_depth) →
    tokens_short l ≡ tokens_short x →
    room most others level x ≡ in_bounds most l
same_room most l x others level count deep short =
    let d = same_le (level + depth x) (depth l) max_depth deep.1 deep.0 in λ i. nat_le (sym count i) most && d i && sym short i

less : (a b c d : ℕ) → a + b ≡ c → c ≤ d → a ≤ d
less a b c d e h = omega arith

some_cell : (classes : Classes) (cs : Cells) (ps : List Component) (part : ℕ) (q : Component) → cells_conform classes cs
    ps ≡ true → slice_get ps part ≡ Some q → (c : Cell) × (slice_get (from_cells cs) part ≡ Some c)
some_cell classes no_cells [] part q e g = absurd cc
some_cell classes no_cells (p ∷ ps) part q e g = absurd cc
some_cell classes (cell c cs) [] part q e g = absurd cc
some_cell classes (cell c cs) (p ∷ ps) zero q e g = (c, refl)
some_cell classes (cell c cs) (p ∷ ps) (suc part) q e g = some_cell classes cs ps part q (both _ _ e).1 g

pub empty_cell : (classes : Classes) (c : Cell) (shape : Shape) → is_some (optional_class shape) ≡ true → cell_conforms classes c shape ≡ true → length (children c) ≡ 0 → c ≡ Empty
empty_cell classes c (class.One b) h e z = absurd cc
empty_cell classes c (class.Many b) h e z = absurd cc
empty_cell classes (One t) (class.Maybe b) h e z = absurd cc
empty_cell classes (Many ts) (class.Maybe b) h e z = absurd cc
empty_cell classes Empty (class.Maybe b) h e z = refl
empty_cell classes (Filled t) (class.Maybe b) h e z = absurd cc
empty_cell classes (Holds v) (class.Maybe b) h e z = absurd cc
empty_cell classes c (class.Token kind) h e z = absurd cc

pub holds_cell : (classes : Classes) (c : Cell) (shape : Shape) → is_some (token_kind shape) ≡ true → cell_conforms classes c shape ≡ true → (v : trees.Token) × (c ≡ Holds v)
holds_cell classes c (class.One b) h e = absurd cc
holds_cell classes c (class.Many b) h e = absurd cc
holds_cell classes c (class.Maybe b) h e = absurd cc
holds_cell classes (One t) (class.Token kind) h e = absurd cc
holds_cell classes (Many ts) (class.Token kind) h e = absurd cc
holds_cell classes Empty (class.Token kind) h e = absurd cc
holds_cell classes (Filled t) (class.Token kind) h e = absurd cc
holds_cell classes (Holds v) (class.Token kind) h e = (v, refl)

module _ (classes : Classes) (t : Tree) (ok : conforms classes t 0 ≡ true) (most : ℕ) (within : in_bounds most t ≡ true) where
  few : nodes t ≤ most
  few = leb-true (nodes t) most (both _ _ (both _ _ within).0).0

  low : depth t ≤ max_depth
  low = leb-true (depth t) max_depth (both _ _ (both _ _ within).0).1

  short : tokens_short t ≡ true
  short = (both _ _ within).1

  pub set_room : (n : Node) (x u : Tree) → tree_at t n ≡ Some u →
      room most (nodes t - nodes u) (length n) x ≡ in_bounds most (left_by t (Set n x))
  set_room n x u found =
      let f = count_set t x n u found in
      let g = below_smaller t n u found in
      let count : nodes (left_by t (Set n x)) ≡ (nodes t - nodes u) + nodes x = omega arith in
      same_room most (left_by t (Set n x)) x (nodes t - nodes u) (length n) count (depth_set max_depth t low x u n found) (node_changed (λ u. x) t n u short found).0

  -- a component that a node has holds a cell of its shape
  pub held : {A : Type 0} (select : Shape → Option A) (n : Node) (part : ℕ) (u : Tree) → is_some (option_and_then select (shape_at classes t n part)) ≡ true → tree_at t n ≡ Some u →
      (c : Cell) × (shape : Shape) × (cell_at u part ≡ Some c) × (is_some (select shape) ≡ true) × (cell_conforms classes c shape ≡ true)
  held {A} select n part (branch k cells) has found = by_part (slice_get (parts classes k) part) refl
    where
      by_part : (o : Option Component) → slice_get (parts classes k) part ≡ o
          → (c : Cell) × (shape : Shape) × (slice_get (from_cells cells) part ≡ Some c)
          × (is_some (select shape) ≡ true) × (cell_conforms classes c shape ≡ true)
      by_part None e =
          let f : is_some (option_and_then select (option_map (λ p. p.shape) (slice_get (parts classes k) part))) ≡ true =
          sym (ap (λ (o : Option Tree). is_some (option_and_then select (option_and_then (λ u. option_map (λ p. p.shape) (slice_get (parts classes (class_of u)) part)) o))) found) ∙ has in
          let g : false ≡ true = sym (ap (λ (o : Option Component). is_some (option_and_then select (option_map (λ p. p.shape) o))) e) ∙ f in absurd cc
      by_part (Some q) e =
          let (b, conf) = conforms_at classes t 0 n (branch k cells) ok found in
          let (c, here) = some_cell classes cells (parts classes k) part q (conforming_parts classes k cells b conf).1 e in
          let (shape, sees, fits) = shape_there classes t n part (branch k cells) c ok found here in
          (c, shape, here, selected select (shape_at classes t n part) true shape sees has, fits)

  pub children_are : (n : Node) (part : ℕ) (u : Tree) (c : Cell) → tree_at t n ≡ Some u → cell_at u part ≡ Some c → children_of t n part ≡ children c
  children_are n part u c found here =
      ap (λ (o : Option Tree). elim o as (λ _. List Tree) [ None ↦ [] | Some x ↦ children_at x part ]) found
      ∙ ap (λ (o : Option Cell). elim o as (λ _. List Tree) [ None ↦ [] | Some c ↦ children c ]) here

  pub put_room : (n : Node) (part : ℕ) (x u : Tree) → tree_at t n ≡ Some u → IsAllowed classes t (Put n part x) →
      room most (nodes t) (suc (length n)) x ≡ in_bounds most (left_by t (Put n part x))
  put_room n part x u found allowed =
      let (c, shape, here, some, conf) = held optional_class n part u allowed.component found in
      let zero_long : length (children_of t n part) ≡ 0 = eqb-true (length (children_of t n part)) 0 allowed.empty in
      let empty : c ≡ Empty = empty_cell classes c shape some conf (sym (ap length (children_are n part u c found here)) ∙ zero_long) in
      let there : cell_at u part ≡ Some Empty = here ∙ ap Some empty in
      same_room most (left_by t (Put n part x)) x (nodes t) (suc (length n)) (count_put t x n part u found there)
      (depth_put max_depth t low x u n part Empty found there)
      (at_cell (λ c. Filled x) part t n u Empty short found there).0

  pub insert_room : (n : Node) (part index : ℕ) (x u : Tree) → tree_at t n ≡ Some u →
      has_component classes t (Insert n part index x) ≡ true → is_in_range t (Insert n part index x) ≡ true →
      room most (nodes t) (suc (length n)) x ≡ in_bounds most (left_by t (Insert n part index x))
  insert_room n part index x u found has range =
      let (c, shape, here, some, conf) = held list_class n part u has found in
      let (ts, many) = list_cell classes c shape some conf in
      let there : cell_at u part ≡ Some (Many ts) = here ∙ ap Some many in
      let count : length (children_of t n part) ≡ length (from_trees ts) = ap length (children_are n part u (Many ts) found there) in
      let bounded : index ≤ length (children_of t n part) = leb-true index (length (children_of t n part)) range in
      let bound : index ≤ length (from_trees ts) = omega arith in
      same_room most (left_by t (Insert n part index x)) x (nodes t) (suc (length n)) (count_insert t x n part index u
      ts found there bound) (depth_insert max_depth t low x u n part index ts found there bound)
      (one_more t x part index n u ts short found there bound)

  pub token_room : (n : Node) (part : ℕ) (v : trees.Token) (u : Tree) → tree_at t n ≡ Some u →
      IsAllowed classes t (Token n part v) → is_short v ≡ in_bounds most (left_by t (Token n part v))
  token_room n part v u found allowed =
      let (c, shape, here, some, conf) = held token_kind n part u allowed.component found in
      let (old, holds) = holds_cell classes c shape some conf in
      let there : cell_at u part ≡ Some (Holds old) = here ∙ ap Some holds in
      let count = true_le (nodes (left_by t (Token n part v))) most (subst (λ z. z ≤ most) (sym (count_token t n part old v u found there)) few) in
      let deep = true_le (depth (left_by t (Token n part v))) max_depth (depth_token max_depth t low n part v) in
      let tokens = (at_cell (λ c. Holds v) part t n u (Holds old) short found there).0 in
      λ i. sym count i && sym deep i && sym tokens i

  pub drop_room : (n : Node) (x : Tree) → tree_at t n ≡ Some x → is_removable classes t (Drop n) ≡ true →
      true ≡ in_bounds most (left_by t (Drop n))
  drop_room n x found removable = by_parent (parent_of n) refl (not_false (is_plain classes t n) removable)
    where
      by_parent : (o : Option (Node × (ℕ × ℕ))) → parent_of n ≡ o →
          elim o as (λ _. Bool) [ None ↦ true | Some p ↦ is_some (option_and_then plain_class (shape_at classes t p.0 p.1.0)) ] ≡ false →
          true ≡ in_bounds most (left_by t (Drop n))
      by_parent None e plain = absurd cc
      by_parent (Some (p, place)) e plain =
          let (u, there, child) = above_there t p place x (sym (ap (tree_at t) (parent_is n (p, place) e)) ∙ found) in
          let (c, here, in_it) = of_cell (cell_at u place.0) place.1 x child in
          let (shape, sees, conf) = shape_there classes t p place.0 u c ok there here in
          let not_one : (y : Tree) → c ≡ One y → ⊥ = λ y one.
          plain_cell classes y shape (selected plain_class (shape_at classes t p place.0) false shape sees plain)
          (subst (λ (z : Cell). cell_conforms classes z shape ≡ true) one conf) in
          let f = count_drop t n p place u x c e found there here not_one in
          let g = few in
          let fewer : nodes (left_by t (Drop n)) ≤ most = less (nodes (left_by t (Drop n))) (nodes x) (nodes t) most f g in
          let count = true_le (nodes (left_by t (Drop n))) most fewer in
          let deep = true_le (depth (left_by t (Drop n))) max_depth (depth_drop max_depth t low n p place u c e there here not_one) in
          let left : left_by t (Drop n) ≡ with_node (with_cell (without_child place.1) place.0) t p =
          ap (λ (o : Option (Node × (ℕ × ℕ))). elim o as (λ _. Tree)
          [ None ↦ t | Some p ↦ with_node (with_cell (without_child p.1.1) p.1.0) t p.0 ]) e in
          let cell_short = at_cell (without_child place.1) place.0 t p u c short there here in
          let tokens : tokens_short (left_by t (Drop n)) ≡ true = ap tokens_short left ∙ cell_short.0 ∙ one_less place.1 c cell_short.1 in
          λ i. sym count i && sym deep i && sym tokens i
