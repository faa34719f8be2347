-- A move leaves the tree alike at all that it doesn't touch, and conforming, and each node is there again.
use Rattle.std.proofs.Common.{◌≡◌, ℕ, zero, suc, ◌+◌, ◌-◌, ◌≤◌, Bool, true, false, cond, ◌&&◌, ◌||◌, nat_eq, nat_le, List, [], ◌∷◌, ◌++◌, length, Option, Some, None, refl, sym, ap, ◌∙◌, subst, arith, append_assoc, append-nil, option_map, option_and_then, ◌⊎◌, inl, inr, is_some}
use Rattle.std.specs.List.{slice_get, insert, remove}
use Rattle.std.proofs.lemmas.Bool.Decides.{nat_tests}
use Rattle.at_model.specs.Classes.{Classes, Component, Shape, fits, parts}
use Rattle.at_model.specs.Classes as class
use Rattle.at_model.specs.Trees.{Tree, Cell, Trees, Node as branch, One, Many, Empty, Filled, Holds, no_trees, tree, class_of, to_trees, from_trees, children, conforms, cells_conform, cell_conforms}
use Rattle.at_model.specs.Trees as trees
use Rattle.at_model.specs.Paths.{Node, cell_at, children_at, tree_at, node_eq, is_within, is_child, parent_of}
use Rattle.at_model.specs.Drawers.{Key}
use Rattle.at_model.specs.Run.{Location, Is, Tok, Slot, Up, Idx, Drawer}
use Rattle.at_model.specs.Meaning.{token_in, is_marked, child_nodes, chosen_nodes, content}
use Rattle.at_model.specs.Alike.{OptionLike, ListLike, LocationLike, ContentLike, Names, AlikeAt}
use Rattle.at_model.specs.Alike as alike
use Rattle.at_model.specs.Edits.{Drop, Insert, Move, shape_at, plain_class, list_class, fits_class, fits_as, has_component, is_in_range, is_fixed_part, is_planted, is_planted_in, is_loose, children_of, with_cell, with_node, without_child, with_one_more, taken_out, past_taking, put_in, left_by, moved_under, past_drop, past_insert, carried}
use Rattle.at_model.specs.Touches.{touches, shifts, node_of, is_up, is_slot, is_index, is_slot_around, is_index_around, is_drawer}
use Rattle.at_model.proofs.Options.{both, and_true, led, mapped, neither, not_off, or_off}
use Rattle.at_model.proofs.Nodes.{step_eq-refl, node_eq-refl, node_eq-sound}
use Rattle.at_model.proofs.of_texts.ConformingParts.{conforming_parts}
use Rattle.at_model.proofs.Complete.{conforms_at, cells_there}
use Rattle.at_model.proofs.of_edits.Conforming.{part_changed, loose_above, one_more, one_less, seen, wanted, lives}
use Rattle.at_model.proofs.WayUp.{snoc, parent_of-snoc}
use Rattle.at_model.proofs.of_edits.Moving.{Way}
use Rattle.at_model.proofs.of_edits.Ways.{same_some, insert_keeps, drop_keeps}
use Rattle.at_model.proofs.of_edits.Untouched.{in_cell, local, local_class, local_told, tree_moved, tree_at-append, changed_there, cell_there, cell-same, true_if, child-length, from_to_trees, planted_moved}
use Rattle.at_model.proofs.of_edits.Drawn.{chosen_alike, each_there}
use Rattle.at_model.proofs.of_edits.Drawing.{none_of}
use Rattle.at_model.proofs.of_edits.Untouching.{drop_alike, drop_fits, insert_alike, insert_fits, list_cell, component_there, counted, false_or, not_both}
use Rattle.at_model.proofs.of_edits.Surviving.{parent_is}
use Rattle.at_model.proofs.of_edits.Carried.{IsThere, IsElsewhere}
use Rattle.at_model.proofs.of_edits.Moves.{Goes, along, apart, goes, goes_along, goes_apart, taken_outside, taken_same, taken_child, taken_within, both_off}

-- options and lists ---------------------------------------------------------------------------------------------------

inserted-there : {A : Type 0} (xs : List A) (i : ℕ) (a : A) → i ≤ length xs → slice_get (insert xs i a) i ≡ Some a
inserted-there [] zero a h = refl
inserted-there [] (suc i) a h = let f : suc i ≤ 0 = h in absurd (omega arith)
inserted-there (x ∷ xs) zero a h = refl
inserted-there (x ∷ xs) (suc i) a h = let f : suc i ≤ suc (length xs) = h in inserted-there xs i a (omega arith)

removed-length : {A : Type 0} (xs : List A) (i : ℕ) (a : A) → slice_get xs i ≡ Some a → length (remove xs i) + 1 ≡ length xs
removed-length [] i a e = absurd cc
removed-length (x ∷ xs) zero a e = omega arith
removed-length (x ∷ xs) (suc i) a e = let f = removed-length xs i a e in omega (arith, f)

-- what is alike twice is alike
lists_on : {A B C : Type 0} {R : A → B → Type 0} {S : B → C → Type 0} {T : A → C → Type 0}
    → ((a : A) (b : B) (c : C) → R a b → S b c → T a c) → {as' : List A} {bs : List B} {cs : List C} → ListLike R as' bs
    → ListLike S bs cs → ListLike T as' cs
lists_on h alike.end alike.end = alike.end
lists_on h (alike.more r rs) (alike.more s ss) = alike.more (h _ _ _ r s) (lists_on h rs ss)

options_on : {A B C : Type 0} {R : A → B → Type 0} {S : B → C → Type 0} {T : A → C → Type 0}
    → ((a : A) (b : B) (c : C) → R a b → S b c → T a c) → {o : Option A} {p : Option B} {q : Option C}
    → OptionLike R o p → OptionLike S p q → OptionLike T o q
options_on h alike.neither alike.neither = alike.neither
options_on h (alike.both r) (alike.both s) = alike.both (h _ _ _ r s)

-- a node that is an element of a list is not a plain child
listed_plain : (shape : Shape) → is_some (list_class shape) ≡ true → is_some (plain_class shape) ≡ false
listed_plain (class.One b) e = absurd cc
listed_plain (class.Many b) e = refl
listed_plain (class.Maybe b) e = absurd cc
listed_plain (class.Token kind) e = absurd cc

element_plain : (o : Option Shape) → is_some (option_and_then list_class o) ≡ true → is_some (option_and_then plain_class o) ≡ false
element_plain None e = absurd cc
element_plain (Some shape) e = listed_plain shape e

all_off : (a b c d e : Bool) → (a || b || c || d || e) ≡ false → (a ≡ false) × (b ≡ false) × (c ≡ false) × (d ≡ false) × (e ≡ false)
all_off true b c d e h = absurd cc
all_off false true c d e h = absurd cc
all_off false false true d e h = absurd cc
all_off false false false true e h = absurd cc
all_off false false false false true h = absurd cc
all_off false false false false false h = (refl, refl, refl, refl, refl)

-- the tree conforms to a class that its own fits, if it does to any
refitted : (classes : Classes) (u : Tree) (b c : ℕ) → conforms classes u b ≡ true → fits classes (class_of u) c ≡ true → conforms classes u c ≡ true
refitted classes (branch k cells) b c ok fit = and_true _ _ fit (both (fits classes k b) _ ok).1

same_then : {A B : Type 0} (f : A → Option B) (h : A → A) (o : Option A) → ((v : A) → f (h v) ≡ f v) → option_and_then f (option_map h o) ≡ option_and_then f o
same_then f h None same = refl
same_then f h (Some v) same = same v

-- where the shape of a component is seen, its cell is there
pub part_there : (classes : Classes) (t : Tree) → conforms classes t 0 ≡ true → (n : Node) (part : ℕ) (w : Tree)
    (shape : Shape) → tree_at t n ≡ Some w → shape_at classes t n part ≡ Some shape → cell_at w part ≡ None → ⊥
part_there classes t ok n part (branch k cells) shape there is none =
    let (b, conf) = conforms_at classes t 0 n (branch k cells) ok there in
    let e : option_map (λ c. c.shape) (slice_get (parts classes k) part) ≡ Some shape = sym (ap (option_and_then
    (λ x. option_map (λ c. c.shape) (slice_get (parts classes (class_of x)) part))) there) ∙ is in
    let (c, here, f) = mapped (λ (c : Component). c.shape) (slice_get (parts classes k) part) shape e in
    cells_there classes cells (parts classes k) part c (conforming_parts classes k cells b conf).1 here none

-- what stands at the node whose cell is changed
local_here : (g : Cell → Cell) (part : ℕ) (past : Way → Option Way) (p : Node) (v : Tree) → local g part past p p v ≡ with_cell g part v
local_here g part past [] v = refl
local_here g part past (a ∷ p) v = ap (λ (b : Bool). cond b (local g part past p p v) v) (step_eq-refl a) ∙ local_here g part past p v

less_none : (a : ℕ) → a ≡ a - 0
less_none a = omega arith

fewer : (a b : ℕ) → a + 1 ≡ b → a ≡ b - 1
fewer a b e = omega (arith, e)

module _ (classes : Classes) (t : Tree) (ok : conforms classes t 0 ≡ true) (node to : Node) (part index : ℕ)
    (loose : is_loose classes t (Move node to part index) ≡ true) (u : Tree) (found : tree_at t node ≡ Some u)
    (p : Node × Way) (above : parent_of node ≡ Some p) (listed : is_some (option_and_then list_class (shape_at classes t p.0 p.1.0)) ≡ true)
    (q : Node) (target : past_taking node to ≡ Some q)
    (has : is_some (option_and_then list_class (shape_at classes t to part)) ≡ true) (fit : fits_as classes t node (option_and_then list_class (shape_at classes t to part)) ≡ true)
    (range : nat_le index (length (children_of t to part) - cond (is_child to part node) 1 0) ≡ true) where
  -- the tree without the node, and with it in its new place
  abbrev pub between : Tree
  between = with_node (with_cell (without_child p.1.1) p.1.0) t p.0

  abbrev pub after : Tree
  after = put_in between q part index u

  pub taking_is : (n : Node) → past_taking node n ≡ moved_under p.0 (past_drop p.1) n
  taking_is n = ap (λ (o : Option (Node × Way)). elim o [ None ↦ None | Some p ↦ moved_under p.0 (past_drop p.1) n ]) above

  pub left_is : left_by t (Move node to part index) ≡ after
  left_is =
      ap (λ (o : Option Tree). elim o [ None ↦ t | Some u ↦ elim (past_taking node to) [ None ↦ t | Some q ↦ put_in (taken_out t node) q part index u ] ]) found ∙
      ap (λ (o : Option Node). elim o [ None ↦ t | Some q ↦ put_in (taken_out t node) q part index u ]) target ∙
      ap (λ (o : Option (Node × Way)). put_in (elim o [ None ↦ t | Some p ↦ with_node (with_cell (without_child p.1.1) p.1.0) t p.0 ]) q part index u) above

  pub plain : is_some (option_and_then plain_class (shape_at classes t p.0 p.1.0)) ≡ false
  plain = element_plain (shape_at classes t p.0 p.1.0) listed

  pub ok1 : conforms classes between 0 ≡ true
  ok1 = part_changed classes (without_child p.1.1) t p.0 p.1.0 (loose_above classes t node p above (neither _ _ (not_off _ loose)).0) (λ c shape sees. one_less classes p.1.1 c shape) 0 ok

  -- what stands in the tree between
  pub found_between : (n k : Node) → past_taking node n ≡ Some k → tree_at between k ≡ option_map (local (without_child p.1.1) p.1.0 (past_drop p.1) p.0 n) (tree_at t n)
  found_between n k taken = tree_moved (without_child p.1.1) p.1.0 (past_drop p.1) (drop_keeps p.1) p.0 n k t (drop_fits classes t ok p plain) (sym (taking_is n) ∙ taken)

  pub shape_same : shape_at classes between q part ≡ shape_at classes t to part
  shape_same =
      let see : Tree → Option Shape = λ x. option_map (λ c. c.shape) (slice_get (parts classes (class_of x)) part) in
      ap (option_and_then see) (found_between to q target) ∙
      same_then see (local (without_child p.1.1) p.1.0 (past_drop p.1) p.0 to) (tree_at t to)
      (λ v. ap (λ c. option_map (λ x. x.shape) (slice_get (parts classes c) part))
      (local_class (without_child p.1.1) p.1.0 (past_drop p.1) (drop_keeps p.1) p.0 to v))

  pub has1 : has_component classes between (Insert q part index u) ≡ true
  has1 = ap (λ (o : Option Shape). is_some (option_and_then list_class o)) shape_same ∙ has

  pub fit1 : fits_class classes u (option_and_then list_class (shape_at classes between q part)) ≡ true
  fit1 = ap (λ (o : Option Shape). fits_class classes u (option_and_then list_class o)) shape_same ∙ by_class (option_and_then list_class (shape_at classes t to part)) fit
    where
      by_class : (o : Option ℕ) → fits_as classes t node o ≡ true → fits_class classes u o ≡ true
      by_class None e = absurd cc
      by_class (Some b) e =
          let f : fits classes (class_of u) b ≡ true = sym (ap (λ (o : Option Tree). elim o [ None ↦ false | Some x ↦ fits classes (class_of x) b ]) found) ∙ e in
          let (c, conf) = conforms_at classes t 0 node u ok found in
          refitted classes u c b conf f

  -- the component into which it is put isn't fixed
  loose1 : is_planted_in classes between q part ≡ false
  loose1 =
      let (above, here) = neither (is_planted classes t to) _ (neither _ _ (not_off _ loose)).1 in
      let same = planted_moved (without_child p.1.1) p.1.0 (past_drop p.1) (drop_keeps p.1) classes p.0 to q t (drop_fits classes t ok p plain) (sym (taking_is to) ∙ target) in
      let found = found_between to q target in
      or_off _ _ (same ∙ above)
      (ap (λ (o : Option Tree). elim o as (λ _. Bool) [ None ↦ false | Some v ↦ is_fixed_part classes (class_of v) part ]) found
      ∙ local_part (tree_at t to) ∙ here)
    where
      local_part : (o : Option Tree) → elim (option_map (local (without_child p.1.1) p.1.0 (past_drop p.1) p.0 to) o) as (λ _. Bool) [
        | None ↦ false
        | Some v ↦ is_fixed_part classes (class_of v) part
      ] ≡ elim o as (λ _. Bool) [ None ↦ false | Some v ↦ is_fixed_part classes (class_of v) part ]
      local_part None = refl
      local_part (Some v) = ap (λ c. is_fixed_part classes c part) (local_class (without_child p.1.1) p.1.0 (past_drop p.1) (drop_keeps p.1) p.0 to v)

  -- how many children the target's list has, when the node is taken out
  pub count_is : length (children_of between q part) ≡ length (children_of t to part) - cond (is_child to part node) 1 0
  count_is =
      let (shape, is) = wanted classes list_class (shape_at classes t to part) has in
      let (v, at') = lives classes t to part shape is in
      let now : tree_at between q ≡ Some (local (without_child p.1.1) p.1.0 (past_drop p.1) p.0 to v) =
      found_between to q target ∙ ap (option_map (local (without_child p.1.1) p.1.0 (past_drop p.1) p.0 to)) at' in
      let child : is_child to part node ≡ (node_eq to p.0 && nat_eq part p.1.0) = ap (λ (o : Option (Node × Way)). elim o [ None ↦ false | Some x ↦ node_eq to x.0 && nat_eq part x.1.0 ]) above in
      ap (λ (o : Option Tree). length (elim o as (λ _. List Tree) [ None ↦ [] | Some x ↦ children_at x part ])) now ∙
      by_list v at' (is_child to part node) child ∙
      sym (ap (λ (o : Option Tree). length (elim o as (λ _. List Tree) [ None ↦ [] | Some x ↦ children_at x part ]) - cond (is_child to part node) 1 0) at')
    where
      by_list : (v : Tree) → tree_at t to ≡ Some v → (b : Bool) → b ≡ (node_eq to p.0 && nat_eq part p.1.0)
          → length (children_at (local (without_child p.1.1) p.1.0 (past_drop p.1) p.0 to v) part)
          ≡ length (children_at v part) - cond b 1 0
      by_list v at' false differ =
          local_told (without_child p.1.1) p.1.0 (past_drop p.1) (drop_keeps p.1) (λ o. length (in_cell o)) (λ k i c. child-length k i c) p.0 to v part
          (λ same c here. absurd (turned same)) ∙ less_none (length (children_at v part))
        where
          turned : (node_eq p.0 to && nat_eq p.1.0 part) ≡ true → ⊥
          turned same =
              let (x, y) = both (node_eq p.0 to) (nat_eq p.1.0 part) same in
              let e = node_eq-sound p.0 to x in
              let f : p.1.0 ≡ part = grind (arith, nat_tests) in
              let g : (node_eq to p.0 && nat_eq part p.1.0) ≡ true = and_true _ _ (subst (λ (z : Node). node_eq to z ≡ true) (sym e) (node_eq-refl to)) (true_if part p.1.0 (sym f)) in
              not_both _ g (sym differ)
      by_list v at' true same =
          let (x, y) = both (node_eq to p.0) (nat_eq part p.1.0) (sym same) in
          let e : to ≡ p.0 = node_eq-sound to p.0 x in
          let f : p.1.0 ≡ part = grind (arith, nat_tests) in
          let found' : tree_at t p.0 ≡ Some v = subst (λ (z : Node). tree_at t z ≡ Some v) e at' in
          let child : slice_get (children_at v p.1.0) p.1.1 ≡ Some u = in_list v found' in
          ap (λ (z : Node). length (children_at (local (without_child p.1.1) p.1.0 (past_drop p.1) p.0 z v) part)) e ∙
          ap (λ x. length (children_at x part)) (local_here (without_child p.1.1) p.1.0 (past_drop p.1) p.0 v) ∙
          subst (λ (z : ℕ). length (children_at (with_cell (without_child p.1.1) p.1.0 v) z) ≡ length (children_at v z) - 1) f
          (ap (λ o. length (in_cell o)) (cell-same (without_child p.1.1) p.1.0 v) ∙ by_cell v found' (cell_at v p.1.0) refl child)
        where
          in_list : (v : Tree) → tree_at t p.0 ≡ Some v → slice_get (children_at v p.1.0) p.1.1 ≡ Some u
          in_list v there =
              let e : tree_at t (p.0 ++ p.1 ∷ []) ≡ Some u = subst (λ (z : Node). tree_at t z ≡ Some u) (parent_is node p above) found in
              let f : option_and_then (λ x. tree_at x (p.1 ∷ [])) (tree_at t p.0) ≡ Some u = sym (tree_at-append t p.0 (p.1 ∷ [])) ∙ e in
              let g : option_and_then (λ x. Some x) (slice_get (children_at v p.1.0) p.1.1) ≡ Some u = sym (ap (option_and_then (λ x. tree_at x (p.1 ∷ []))) there) ∙ f in
              let (x, h, k) = led (λ (x : Tree). Some x) (slice_get (children_at v p.1.0) p.1.1) u g in h ∙ k

          by_cell : (v : Tree) → tree_at t p.0 ≡ Some v → (o : Option Cell) → cell_at v p.1.0 ≡ o → slice_get (in_cell
              o) p.1.1 ≡ Some u → length (in_cell (option_map (without_child p.1.1) o)) ≡ length (in_cell o) - 1
          by_cell v there None here child = absurd cc
          by_cell v there (Some c) here child =
              let (shape, sees, conf) = component_there classes t ok list_class p.0 p.1.0 v c listed there here in
              let (ts, is) = list_cell classes c shape sees conf in
              let child' : slice_get (from_trees ts) p.1.1 ≡ Some u = subst (λ (z : Cell). slice_get (children z) p.1.1 ≡ Some u) is child in
              subst (λ (z : Cell). length (children (without_child p.1.1 z)) ≡ length (children z) - 1) (sym is)
              (ap length (from_to_trees (remove (from_trees ts) p.1.1)) ∙ fewer _ _ (removed-length (from_trees ts) p.1.1 u child'))

  pub range1 : is_in_range between (Insert q part index u) ≡ true
  range1 = ap (nat_le index) count_is ∙ range

  pub move_conforms : conforms classes after 0 ≡ true
  move_conforms = part_changed classes (with_one_more u index) between q part loose1
      (λ c shape sees. one_more classes u index c shape
      (seen classes list_class (fits_class classes u) (shape_at classes between q part) shape sees fit1)) 0 ok1

  -- what stands at the new place and below it
  pub new_place : (rest : Node) → tree_at after (q ++ (part, index) ∷ rest) ≡ tree_at u rest
  new_place rest =
      let (shape, is) = wanted classes list_class (shape_at classes between q part) has1 in
      let (w, at') = lives classes between q part shape is in
      tree_at-append after q ((part, index) ∷ rest) ∙
      ap (option_and_then (λ x. tree_at x ((part, index) ∷ rest))) (changed_there (with_cell (with_one_more u index) part) between q ∙ ap (option_map (with_cell (with_one_more u index) part)) at') ∙
      ap (option_and_then (λ x. tree_at x rest)) (in_list w at')
    where
      by_cell : (w : Tree) → tree_at between q ≡ Some w → (o : Option Cell) → cell_at w part ≡ o → slice_get (in_cell (option_map (with_one_more u index) o)) index ≡ Some u
      by_cell w there (Some c) here =
          let (shape, sees, conf) = component_there classes between ok1 list_class q part w c has1 there here in
          let (ts, is) = list_cell classes c shape sees conf in
          let count : length (children_of between q part) ≡ length (from_trees ts) = ap length (counted classes between ok1 q part w ts there (here ∙ ap Some is)) in
          let bound : index ≤ length (children_of between q part) = within index _ range1 in
          subst (λ (x : Cell). slice_get (children (with_one_more u index x)) index ≡ Some u) (sym is)
          (ap (λ xs. slice_get xs index) (from_to_trees (insert (from_trees ts) index u)) ∙ inserted-there (from_trees ts) index u (at_most index _ _ bound count))
        where
          within : (a b : ℕ) → nat_le a b ≡ true → a ≤ b
          within a b e = grind (arith, nat_tests)

          at_most : (a b c : ℕ) → a ≤ b → b ≡ c → a ≤ c
          at_most a b c h e = omega (arith, h, e)
      by_cell w there None here = absurd (no_list w there here)
        where
          no_list : (w : Tree) → tree_at between q ≡ Some w → cell_at w part ≡ None → ⊥
          no_list w there here = let (shape, is) = wanted classes list_class (shape_at classes between q part) has1 in part_there classes between ok1 q part w shape there is here

      in_list : (w : Tree) → tree_at between q ≡ Some w → slice_get (children_at (with_cell (with_one_more u index) part w) part) index ≡ Some u
      in_list w there = ap (λ o. slice_get (in_cell o) index) (cell-same (with_one_more u index) part w) ∙ by_cell w there (cell_at w part) refl

  -- below what is moved stands the same tree as before
  pub same_along : (rest : Node) → tree_at t (node ++ rest) ≡ tree_at after (q ++ (part, index) ∷ rest)
  same_along rest = tree_at-append t node rest ∙ ap (option_and_then (λ x. tree_at x rest)) found ∙ sym (new_place rest)

  pub move_there : (n m : Node) (v : Tree) → Goes node q part index n m → tree_at t n ≡ Some v → IsThere after m v (IsElsewhere (to ∷ p.0 ∷ []) n)
  move_there n m v (along rest is ends) there =
      record {
        now = v;
        there = ap (tree_at after) ends ∙ sym (same_along rest) ∙ ap (tree_at t) (sym is) ∙ there;
        class_same = refl;
        same = λ h. refl;
      }
  move_there n m v (apart k taken put) there =
      let (w, here, class, same) = cell_there (without_child p.1.1) p.1.0 (past_drop p.1) (drop_keeps p.1) t p.0 n k v (drop_fits classes t ok p plain) (sym (taking_is n) ∙ taken) there in
      let (x, now, also, still) = cell_there (with_one_more u index) part (past_insert (part, index)) (insert_keeps
      (part, index)) between q k m w (insert_fits classes between ok1 q part index u has1 range1) put here in
      record {
        now = x;
        there = now;
        class_same = also ∙ class;
        same = λ h. let (a, b) = false_or (is_within n to) (is_within n p.0 || false) h in still (taken_within node n to k q taken target ∙ a) ∙ same (false_or (is_within n p.0) false b).0;
      }

  -- how a node goes
  pub way : (n m : Node) → carried (Move node to part index) n ≡ Some m → Goes node q part index n m
  way n m e = let (r, is, g) = goes node to part index n m e in subst (λ (x : Node). Goes node x part index n m) (same_some r q (sym is ∙ target)) g

  joins : (a b c : Node) → moved_under p.0 (past_drop p.1) a ≡ Some b → moved_under q (past_insert (part, index)) b ≡ Some c → carried (Move node to part index) a ≡ Some c
  joins a b c e f = goes_apart node to part index q a b target (taking_is a ∙ e) ∙ f

  rides : (rest : Node) → carried (Move node to part index) (node ++ rest) ≡ Some (q ++ (part, index) ∷ rest)
  rides rest = goes_along node to part index q rest target

  -- the tests of the two steps
  slot_around_is : (l : Location Node) → is_slot_around node l ≡ is_slot p.0 p.1.0 l
  slot_around_is l = ap (λ (o : Option (Node × Way)). elim o [ None ↦ false | Some x ↦ is_slot x.0 x.1.0 l ]) above

  index_around_is : (l : Location Node) → is_index_around node l ≡ is_index p.0 p.1.0 l
  index_around_is l = ap (λ (o : Option (Node × Way)). elim o [ None ↦ false | Some x ↦ is_index x.0 x.1.0 l ]) above

  off_three : (a b c : Bool) → a ≡ false → b ≡ false → c ≡ false → (a || b || c) ≡ false
  off_three a b c e f g = rw (e, f, g) refl

  off_two : (a b : Bool) → a ≡ false → b ≡ false → (a || b) ≡ false
  off_two a b e f = rw (e, f) refl

  -- a location that the move doesn't touch is not touched by taking the node out
  first_step : (n k : Node) (l : Location Node) → past_taking node n ≡ Some k → node_of l ≡ n → touches (Move node to part index) l ≡ false → touches (Drop node) l ≡ false
  first_step n k l taken is free =
      let (a, b, c, d, e) = all_off (is_up node l) (is_slot_around node l) (is_slot to part l) (is_index_around node l) (is_index to part l) free in
      let outside : is_within node (node_of l) ≡ false = ap (is_within node) is ∙ taken_outside node n k taken in
      rw (outside, b, d) refl

  is_free : (n k : Node) → past_taking node n ≡ Some k → touches (Move node to part index) (Is n) ≡ false → touches (Insert q part index u) (Is k) ≡ false
  is_free n k taken free = refl

  slot_free : (n k : Node) (r : ℕ) → past_taking node n ≡ Some k → touches (Move node to part index) (Slot n r) ≡ false → touches (Insert q part index u) (Slot k r) ≡ false
  slot_free n k r taken free =
      let (a, b, c, d, e) = all_off (is_up node (Slot n r)) (is_slot_around node (Slot n r)) (is_slot to part (Slot n r)) (is_index_around node (Slot n r)) (is_index to part (Slot n r)) free in
      off_two _ false (both_off (node_eq to n) (node_eq q k) (nat_eq part r) c (λ off. taken_same node to n q k target taken off)) refl

  index_free : (n k : Node) → past_taking node n ≡ Some k → touches (Move node to part index) (Idx n) ≡ false → touches (Insert q part index u) (Idx k) ≡ false
  index_free n k taken free =
      let (a, b, c, d, e) = all_off (is_up node (Idx n)) (is_slot_around node (Idx n)) (is_slot to part (Idx n)) (is_index_around node (Idx n)) (is_index to part (Idx n)) free in
      taken_child node to n q k part target taken e

  -- what the move doesn't shift isn't shifted by taking the node out, nor by putting it in
  not_drawn : (l : Location Node) → shifts t (Move node to part index) l ≡ false → shifts t (Drop node) l ≡ false
  not_drawn l hs = (false_or _ _ hs).0

  drawer_free : (n k : Node) (r : ℕ) (key : Key) (mark : ℕ) → past_taking node n ≡ Some k → shifts t (Move node to part index) (Drawer n r key mark) ≡ false
      → shifts between (Insert q part index u) (Drawer k r key mark) ≡ false
  drawer_free n k r key mark taken hs =
      let off : is_drawer to part u (Drawer n r key mark) ≡ false = none_of (λ (x : Tree). is_drawer to part x (Drawer n r key mark)) (tree_at t node) u found (false_or _ _ hs).1 in
      both_off (node_eq to n && nat_eq part r) (node_eq q k && nat_eq part r) (is_marked key mark u) off
      (λ none. both_off (node_eq to n) (node_eq q k) (nat_eq part r) none (λ differs. taken_same node to n q k target taken differs))

  -- the children of a node that is moved along
  children_along : (rest : Node) (r : ℕ) (xs : List Tree) (i : ℕ) → ListLike (Names (carried (Move node to part index)))
      (child_nodes (node ++ rest) r i xs) (child_nodes (q ++ (part, index) ∷ rest) r i xs)
  children_along rest r [] i = alike.end
  children_along rest r (x ∷ xs) i =
      let e : carried (Move node to part index) ((node ++ rest) ++ (r, i) ∷ []) ≡ Some ((q ++ (part, index) ∷ rest) ++ (r, i) ∷ []) =
      ap (carried (Move node to part index)) (append_assoc node rest ((r, i) ∷ [])) ∙ rides (rest ++ (r, i) ∷ []) ∙ ap Some (sym (append_assoc q ((part, index) ∷ rest) ((r, i) ∷ []))) in
      alike.more e (children_along rest r xs (suc i))

  child_rides : (rest : Node) (r i : ℕ) → carried (Move node to part index) ((node ++ rest) ++ (r, i) ∷ []) ≡ Some ((q ++ (part, index) ∷ rest) ++ (r, i) ∷ [])
  child_rides rest r i =
      ap (carried (Move node to part index)) (append_assoc node rest ((r, i) ∷ [])) ∙ rides (rest ++ (r, i) ∷ []) ∙ ap Some (sym (append_assoc q ((part, index) ∷ rest) ((r, i) ∷ [])))

  chosen_along : (rest : Node) (r : ℕ) (f : Tree → Bool) (xs : List Tree) → ListLike (Names (carried (Move node to part index)))
      (chosen_nodes f (node ++ rest) r 0 xs) (chosen_nodes f (q ++ (part, index) ∷ rest) r 0 xs)
  chosen_along rest r f xs =
      let going : ℕ → ℕ → Type 0 = λ i j. carried (Move node to part index) ((node ++ rest) ++ (r, i) ∷ []) ≡ Some ((q ++ (part, index) ∷ rest) ++ (r, j) ∷ []) in
      chosen_alike f going (Names (carried (Move node to part index))) (node ++ rest) (q ++ (part, index) ∷ rest) r (λ i j e. e) 0 xs 0 xs
      (each_there f going 0 xs xs (λ k. refl) (λ k x e. inl (child_rides rest r (0 + k))))

  abbrev drawn_in : Node → ℕ → Key → ℕ → Option Tree → List Node
  drawn_in n r key mark o = elim o [ None ↦ [] | Some x ↦ chosen_nodes (is_marked key mark) n r 0 (children_at x r) ]

  drawers_along : (rest : Node) (r : ℕ) (key : Key) (mark : ℕ) (o : Option Tree) → ListLike (Names (carried (Move node to part index)))
      (drawn_in (node ++ rest) r key mark o) (drawn_in (q ++ (part, index) ∷ rest) r key mark o)
  drawers_along rest r key mark None = alike.end
  drawers_along rest r key mark (Some x) = chosen_along rest r (is_marked key mark) (children_at x r)

  abbrev seen_in : Node → ℕ → Option Tree → List Node
  seen_in n r o = elim o [ None ↦ [] | Some x ↦ child_nodes n r 0 (children_at x r) ]

  slots_along : (rest : Node) (r : ℕ) (o : Option Tree) → ListLike (Names (carried (Move node to part index))) (seen_in (node ++ rest) r o) (seen_in (q ++ (part, index) ∷ rest) r o)
  slots_along rest r None = alike.end
  slots_along rest r (Some x) = children_along rest r (children_at x r) 0

  abbrev up_of : Option (Node × Way) → Option (Node × ℕ)
  up_of o = option_map (λ (x : Node × Way). let y : Node × ℕ = (x.0, x.1.0) in y) o

  abbrev SameUp : Option (Node × ℕ) → Option (Node × ℕ) → Type 0
  SameUp = OptionLike (λ (x y : Node × ℕ). Names (carried (Move node to part index)) x.0 y.0 × (x.1 ≡ y.1))

  ups_along : (rest : Node) → touches (Move node to part index) (Up (node ++ rest)) ≡ false → SameUp (up_of (parent_of (node ++ rest))) (up_of (parent_of (q ++ (part, index) ∷ rest)))
  ups_along rest free = by_end (snoc rest)
    where
      by_end : (rest ≡ []) ⊎ ((y : Node) × (s : Way) × (rest ≡ y ++ s ∷ [])) → SameUp (up_of (parent_of (node ++ rest))) (up_of (parent_of (q ++ (part, index) ∷ rest)))
      by_end (inl none) =
          let e : node_eq node (node ++ rest) ≡ true = subst (λ (x : Node). node_eq node x ≡ true) (sym (ap (λ x. node ++ x) none ∙ append-nil node)) (node_eq-refl node) in
          absurd (not_both _ e (all_off (is_up node (Up (node ++ rest))) _ _ _ _ free).0)
      by_end (inr (y, s, ends)) =
          let before : parent_of (node ++ rest) ≡ Some (node ++ y, s) = ap (λ x. parent_of (node ++ x)) ends ∙ ap parent_of (sym (append_assoc node y (s ∷ []))) ∙ parent_of-snoc (node ++ y) s in
          let now : parent_of (q ++ (part, index) ∷ rest) ≡ Some (q ++ (part, index) ∷ y, s) =
          ap (λ x. parent_of (q ++ (part, index) ∷ x)) ends ∙ ap parent_of
          (sym (append_assoc q ((part, index) ∷ y) (s ∷ []))) ∙ parent_of-snoc (q ++ (part, index) ∷ y) s in
          subst (λ (x : Option (Node × Way)). SameUp (up_of x) (up_of (parent_of (q ++ (part, index) ∷ rest)))) (sym before)
          (subst (λ (x : Option (Node × Way)). SameUp (Some (node ++ y, s.0)) (up_of x)) (sym now) (alike.both (rides y, refl)))

  abbrev index_of : Option (Node × Way) → ℕ
  index_of o = elim o [ None ↦ 0 | Some x ↦ x.1.1 ]

  indexes_along : (rest : Node) → touches (Move node to part index) (Idx (node ++ rest)) ≡ false → index_of (parent_of (node ++ rest)) ≡ index_of (parent_of (q ++ (part, index) ∷ rest))
  indexes_along rest free = by_end (snoc rest)
    where
      by_end : (rest ≡ []) ⊎ ((y : Node) × (s : Way) × (rest ≡ y ++ s ∷ [])) → index_of (parent_of (node ++ rest)) ≡ index_of (parent_of (q ++ (part, index) ∷ rest))
      by_end (inl none) =
          let same : node ++ rest ≡ node = ap (λ x. node ++ x) none ∙ append-nil node in
          let e : is_index_around node (Idx node) ≡ true = index_around_is (Idx node) ∙ ap (λ (o : Option (Node × Way)).
          elim o [ None ↦ false | Some x ↦ node_eq p.0 x.0 && nat_eq p.1.0 x.1.0 ]) above
          ∙ and_true _ _ (node_eq-refl p.0) (true_if p.1.0 p.1.0 refl) in
          let f = (all_off (is_up node (Idx (node ++ rest))) (is_slot_around node (Idx (node ++ rest)))
          (is_slot to part (Idx (node ++ rest))) (is_index_around node (Idx (node ++ rest)))
          (is_index to part (Idx (node ++ rest))) free).3 in
          absurd (not_both _ (subst (λ (x : Node). is_index_around node (Idx x) ≡ true) (sym same) e) f)
      by_end (inr (y, s, ends)) =
          ap (λ x. index_of (parent_of (node ++ x))) ends ∙ ap (λ x. index_of (parent_of x)) (sym (append_assoc node y (s ∷ []))) ∙ ap index_of (parent_of-snoc (node ++ y) s) ∙
          sym (ap (λ x. index_of (parent_of (q ++ (part, index) ∷ x))) ends ∙ ap (λ x. index_of (parent_of x)) (sym
          (append_assoc q ((part, index) ∷ y) (s ∷ []))) ∙ ap index_of (parent_of-snoc (q ++ (part, index) ∷ y) s))

  abbrev First : Node → Node → Type 0
  First = Names (moved_under p.0 (past_drop p.1))

  abbrev Second : Node → Node → Type 0
  Second = Names (moved_under q (past_insert (part, index)))

  first_alike : (l l' : Location Node) → touches (Drop node) l ≡ false → shifts t (Drop node) l ≡ false → (s : LocationLike First l l') → ContentLike First s (content t l) (content between l')
  first_alike l l' free hs s = drop_alike classes t ok node p above plain l l' free hs s

  second_alike : (l' m : Location Node) → touches (Insert q part index u) l' ≡ false → shifts between (Insert q part index u) l' ≡ false → (s : LocationLike Second l' m) → ContentLike Second s (content between l') (content after m)
  second_alike l' m free hs s = insert_alike classes between ok1 q part index u has1 range1 l' m free hs s

  pub move_alike : (l m : Location Node) → touches (Move node to part index) l ≡ false → shifts t (Move node to part index) l ≡ false → (s : LocationLike (Names (carried (Move node to part index))) l m) →
      ContentLike (Names (carried (Move node to part index))) s (content t l) (content after m)
  move_alike l m free hs (alike.is {n = n} {m = k} r) = by_way (way n k r)
    where
      by_way : Goes node q part index n k → content t (Is n) ≡ content after (Is k)
      by_way (along rest is ends) = ap (λ x. content t (Is x)) is ∙ ap (λ (o : Option Tree). elim o as (λ _. ℕ)
          [ None ↦ 0 | Some x ↦ class_of x ]) (same_along rest) ∙ sym (ap (λ x. content after (Is x)) ends)
      by_way (apart j taken put) = first_alike (Is n) (Is j) (first_step n j (Is n) taken refl free) (not_drawn (Is n) hs) (alike.is (sym (taking_is n) ∙ taken)) ∙ second_alike (Is j) (Is k) refl refl (alike.is put)
  move_alike l m free hs (alike.tok {n = n} {m = k} r e) = by_way (way n k e)
    where
      by_way : Goes node q part index n k → content t (Tok n r) ≡ content after (Tok k r)
      by_way (along rest is ends) = ap (λ x. content t (Tok x r)) is ∙ ap (λ (o : Option Tree).
          elim o as (λ _. trees.Token) [ None ↦ trees.Truth false | Some x ↦ token_in (cell_at x r) ]) (same_along rest)
          ∙ sym (ap (λ x. content after (Tok x r)) ends)
      by_way (apart j taken put) = first_alike (Tok n r) (Tok j r) (first_step n j (Tok n r) taken refl free) (not_drawn (Tok n r) hs)
          (alike.tok r (sym (taking_is n) ∙ taken)) ∙ second_alike (Tok j r) (Tok k r) refl refl (alike.tok r put)
  move_alike l m free hs (alike.slot {n = n} {m = k} r e) = by_way (way n k e)
    where
      by_way : Goes node q part index n k → ListLike (Names (carried (Move node to part index))) (content t (Slot n r)) (content after (Slot k r))
      by_way (along rest is ends) =
          subst (λ (x : Node). ListLike (Names (carried (Move node to part index))) (content t (Slot x r)) (content after (Slot k r))) (sym is)
          (subst (λ (x : Node). ListLike (Names (carried (Move node to part index))) (content t (Slot (node ++ rest) r)) (content after (Slot x r))) (sym ends)
          (subst (λ (o : Option Tree). ListLike (Names (carried (Move node to part index))) (seen_in (node ++ rest) r
          (tree_at t (node ++ rest))) (seen_in (q ++ (part, index) ∷ rest) r o)) (same_along rest)
          (slots_along rest r (tree_at t (node ++ rest)))))
      by_way (apart j taken put) =
          lists_on joins (first_alike (Slot n r) (Slot j r) (first_step n j (Slot n r) taken refl free) (not_drawn (Slot n r) hs) (alike.slot r (sym (taking_is n) ∙ taken)))
          (second_alike (Slot j r) (Slot k r) (slot_free n j r taken free) refl (alike.slot r put))
  move_alike l m free hs (alike.up {n = n} {m = k} e) = by_way (way n k e)
    where
      by_way : Goes node q part index n k → SameUp (content t (Up n)) (content after (Up k))
      by_way (along rest is ends) =
          subst (λ (x : Node). SameUp (up_of (parent_of x)) (up_of (parent_of k))) (sym is)
          (subst (λ (x : Node). SameUp (up_of (parent_of (node ++ rest))) (up_of (parent_of x))) (sym ends)
          (ups_along rest (subst (λ (x : Node). touches (Move node to part index) (Up x) ≡ false) is free)))
      by_way (apart j taken put) =
          options_on (λ a b c (r, e) (s, f). (joins a.0 b.0 c.0 r s, e ∙ f)) (first_alike (Up n) (Up j) (first_step n j (Up n) taken refl free) (not_drawn (Up n) hs) (alike.up (sym (taking_is n) ∙ taken)))
          (second_alike (Up j) (Up k) refl refl (alike.up put))
  move_alike l m free hs (alike.idx {n = n} {m = k} e) = by_way (way n k e)
    where
      by_way : Goes node q part index n k → content t (Idx n) ≡ content after (Idx k)
      by_way (along rest is ends) =
          ap (λ x. index_of (parent_of x)) is ∙ indexes_along rest (subst (λ (x : Node). touches (Move node to part index) (Idx x) ≡ false) is free) ∙ sym (ap (λ x. index_of (parent_of x)) ends)
      by_way (apart j taken put) =
          first_alike (Idx n) (Idx j) (first_step n j (Idx n) taken refl free) (not_drawn (Idx n) hs) (alike.idx (sym (taking_is n) ∙ taken)) ∙
          second_alike (Idx j) (Idx k) (index_free n j taken free) refl (alike.idx put)
  move_alike l m free hs (alike.drawer {n = n} {m = k} r key mark e) = by_way (way n k e)
    where
      by_way : Goes node q part index n k → ListLike (Names (carried (Move node to part index))) (content t (Drawer n r key mark)) (content after (Drawer k r key mark))
      by_way (along rest is ends) =
          subst (λ (x : Node). ListLike (Names (carried (Move node to part index))) (content t (Drawer x r key mark)) (content after (Drawer k r key mark))) (sym is)
          (subst (λ (x : Node). ListLike (Names (carried (Move node to part index))) (content t (Drawer (node ++ rest) r key mark)) (content after (Drawer x r key mark))) (sym ends)
          (subst (λ (o : Option Tree). ListLike (Names (carried (Move node to part index))) (drawn_in (node ++ rest) r key mark
          (tree_at t (node ++ rest))) (drawn_in (q ++ (part, index) ∷ rest) r key mark o)) (same_along rest)
          (drawers_along rest r key mark (tree_at t (node ++ rest)))))
      by_way (apart j taken put) =
          lists_on joins (first_alike (Drawer n r key mark) (Drawer j r key mark) (first_step n j (Drawer n r key mark) taken refl free) (not_drawn (Drawer n r key mark) hs)
          (alike.drawer r key mark (sym (taking_is n) ∙ taken)))
          (second_alike (Drawer j r key mark) (Drawer k r key mark) refl (drawer_free n j r key mark taken hs) (alike.drawer r key mark put))
