-- Each edit leaves the tree alike at all that it doesn't touch.
use Rattle.std.proofs.Common.{◌≡◌, ℕ, zero, suc, ◌<◌, ◌≤◌, Bool, true, false, not, ◌&&◌, ◌||◌, nat_eq, if◌then◌else◌, List, [], ◌∷◌, ◌++◌, length, Option, Some, None, refl, sym, ap, ◌∙◌, subst, arith, option_and_then, option_map, is_some}
use Rattle.std.specs.List.{slice_get, insert, remove}
use Rattle.std.proofs.lemmas.Bool.Decides.{nat_tests}
use Rattle.at_model.specs.Classes.{Classes, Component, Shape, parts}
use Rattle.at_model.specs.Classes as class
use Rattle.at_model.specs.Trees.{Tree, Cell, Trees, Node as branch, One, Many, Empty, Filled, Holds, no_trees, tree, class_of, cells_of, to_cells, from_cells, to_trees, from_trees, children, conforms, cells_conform, cell_conforms}
use Rattle.at_model.specs.Trees as trees
use Rattle.at_model.specs.Paths.{Node, cell_at, children_at, tree_at, step_eq, node_eq, is_within, is_child, parent_of}
use Rattle.at_model.specs.Drawers.{stands_under}
use Rattle.at_model.specs.Run.{Location, Is, Tok, Slot, Up, Idx, Drawer}
use Rattle.at_model.specs.Meaning.{token_in, is_marked, content}
use Rattle.at_model.specs.Alike.{LocationLike, ContentLike, Names, AlikeAt}
use Rattle.at_model.specs.Alike as alike
use Rattle.at_model.specs.Edits.{Set, Put, Drop, Insert, Token, shape_at, plain_class, list_class, optional_class, token_kind, has_component, is_in_range, children_of, with_child, with_cell, with_node, without_child, with_one_more, left_by, moved_under, past_set, past_put, past_drop, past_insert}
use Rattle.at_model.specs.Touches.{touches, shifts, is_slot, is_index, is_slot_around, is_index_around, is_drawer_around, is_drawer_of}
use Rattle.at_model.proofs.Options.{both}
use Rattle.at_model.proofs.Nodes.{node_eq-sound}
use Rattle.at_model.proofs.Complete.{conforms_at, cell_there}
use Rattle.at_model.proofs.of_texts.ConformingParts.{conforming_parts}
use Rattle.at_model.proofs.of_edits.Conforming.{set_in_parent}
use Rattle.at_model.proofs.WayUp.{parent_of-snoc}
use Rattle.at_model.proofs.of_edits.Moving.{Way, KeepsParts}
use Rattle.at_model.proofs.of_edits.Ways.{set_way, put_way, DropWay, drop_way, InsertWay, insert_way, set_keeps, put_keeps, drop_keeps, insert_keeps}
use Rattle.at_model.proofs.of_edits.Ways as way
use Rattle.at_model.proofs.of_edits.Drawn.{Kept, none, comes}
use Rattle.at_model.proofs.of_edits.Drawing.{replaced, dropped, put_among, behind_true, off_around, off_there, token_kept}
use Rattle.at_model.proofs.of_edits.Untouched.{FitsAt, Goes, Unseen, cell_alike, in_cell, child-other, child-token, from_to_trees}

pub false_or : (a b : Bool) → (a || b) ≡ false → (a ≡ false) × (b ≡ false)
false_or true b e = absurd cc
false_or false b e = (refl, e)

pub not_both : (b : Bool) → b ≡ true → b ≡ false → ⊥
not_both b e f = let g : true ≡ false = sym e ∙ f in cc

pub not_false : (b : Bool) → not b ≡ true → b ≡ false
not_false true e = absurd cc
not_false false e = refl

-- lists after one is removed or inserted
pub removed-before : {A : Type 0} (xs : List A) (i j : ℕ) → j < i → slice_get (remove xs i) j ≡ slice_get xs j
removed-before [] zero j h = refl
removed-before [] (suc i) j h = refl
removed-before (x ∷ xs) zero j h = absurd (omega arith)
removed-before (x ∷ xs) (suc i) zero h = refl
removed-before (x ∷ xs) (suc i) (suc j) h = removed-before xs i j (omega arith)

pub removed-behind : {A : Type 0} (xs : List A) (i j : ℕ) → i ≤ j → slice_get (remove xs i) j ≡ slice_get xs (suc j)
removed-behind [] zero j h = refl
removed-behind [] (suc i) j h = refl
removed-behind (x ∷ xs) zero j h = refl
removed-behind (x ∷ xs) (suc i) zero h = absurd (omega arith)
removed-behind (x ∷ xs) (suc i) (suc j) h = removed-behind xs i j (omega arith)

pub inserted-before : {A : Type 0} (xs : List A) (i j : ℕ) (a : A) → j < i → i ≤ length xs → slice_get (insert xs i a) j ≡ slice_get xs j
inserted-before [] i j a h k = let f : i ≤ 0 = k in absurd (omega arith)
inserted-before (x ∷ xs) zero j a h k = absurd (omega arith)
inserted-before (x ∷ xs) (suc i) zero a h k = refl
inserted-before (x ∷ xs) (suc i) (suc j) a h k = let f : suc i ≤ suc (length xs) = k in inserted-before xs i j a (omega arith) (omega arith)

pub inserted-behind : {A : Type 0} (xs : List A) (i j : ℕ) (a : A) → i ≤ j → slice_get (insert xs i a) (suc j) ≡ slice_get xs j
inserted-behind [] zero j a h = refl
inserted-behind [] (suc i) j a h = refl
inserted-behind (x ∷ xs) zero j a h = refl
inserted-behind (x ∷ xs) (suc i) zero a h = absurd (omega arith)
inserted-behind (x ∷ xs) (suc i) (suc j) a h = inserted-behind xs i j a (omega arith)

-- cells of each shape
optional_cell : (classes : Classes) (c : Cell) (shape : Shape) → is_some (optional_class shape) ≡ true → cell_conforms classes c shape ≡ true → token_in (Some c) ≡ trees.Truth false
optional_cell classes (One t) shape h e = refl
optional_cell classes (Many ts) shape h e = refl
optional_cell classes Empty shape h e = refl
optional_cell classes (Filled t) shape h e = refl
optional_cell classes (Holds v) (class.One b) h e = absurd cc
optional_cell classes (Holds v) (class.Many b) h e = absurd cc
optional_cell classes (Holds v) (class.Maybe b) h e = absurd cc
optional_cell classes (Holds v) (class.Token kind) h e = absurd cc

pub list_cell : (classes : Classes) (c : Cell) (shape : Shape) → is_some (list_class shape) ≡ true → cell_conforms classes c shape ≡ true → (ts : Trees) × (c ≡ Many ts)
list_cell classes c (class.One b) h e = absurd cc
list_cell classes (Many ts) (class.Many b) h e = (ts, refl)
list_cell classes (One t) (class.Many b) h e = absurd cc
list_cell classes Empty (class.Many b) h e = absurd cc
list_cell classes (Filled t) (class.Many b) h e = absurd cc
list_cell classes (Holds v) (class.Many b) h e = absurd cc
list_cell classes c (class.Maybe b) h e = absurd cc
list_cell classes c (class.Token kind) h e = absurd cc

pub token_cell : (classes : Classes) (c : Cell) (shape : Shape) → is_some (token_kind shape) ≡ true → cell_conforms classes c shape ≡ true → children c ≡ []
token_cell classes c (class.One b) h e = absurd cc
token_cell classes c (class.Many b) h e = absurd cc
token_cell classes c (class.Maybe b) h e = absurd cc
token_cell classes (Holds v) (class.Token kind) h e = refl
token_cell classes (One t) (class.Token kind) h e = absurd cc
token_cell classes (Many ts) (class.Token kind) h e = absurd cc
token_cell classes Empty (class.Token kind) h e = absurd cc
token_cell classes (Filled t) (class.Token kind) h e = absurd cc

pub plain_cell : (classes : Classes) (t : Tree) (shape : Shape) → is_some (plain_class shape) ≡ false → cell_conforms classes (One t) shape ≡ true → ⊥
plain_cell classes t (class.One b) h e = cc
plain_cell classes t (class.Many b) h e = cc
plain_cell classes t (class.Maybe b) h e = cc
plain_cell classes t (class.Token kind) h e = cc

-- the shape of a component that is there, and its cell conforms
pub shape_there : (classes : Classes) (t : Tree) (p : Node) (part : ℕ) (u : Tree) (c : Cell)
    → conforms classes t 0 ≡ true → tree_at t p ≡ Some u → cell_at u part ≡ Some c
    → (shape : Shape) × (shape_at classes t p part ≡ Some shape) × (cell_conforms classes c shape ≡ true)
shape_there classes t p part (branch k cells) c ok found here =
    let (b, ok') = conforms_at classes t 0 p (branch k cells) ok found in
    let (q, is, fits) = cell_there classes cells (parts classes k) part c (conforming_parts classes k cells b ok').1 here in
    (q.shape, ap (option_and_then (λ x. option_map (λ q. q.shape) (slice_get (parts classes (class_of x)) part))) found ∙ ap (option_map (λ q. q.shape)) is, fits)

pub selected : {A : Type 0} (select : Shape → Option A) (o : Option Shape) (b : Bool) (shape : Shape) → o ≡ Some shape → is_some (option_and_then select o) ≡ b → is_some (select shape) ≡ b
selected select o b shape is h = subst (λ (x : Option Shape). is_some (option_and_then select x) ≡ b) is h

-- an element behind the first is none of an optional
unfilled : (t : Tree) (j : ℕ) → 0 < j → slice_get (t ∷ []) j ≡ None
unfilled t zero h = absurd (omega arith)
unfilled t (suc j) h = refl

pub dropped-fits : (classes : Classes) (place s u : Way) (c : Cell) (shape : Shape) → is_some (plain_class shape) ≡ false → cell_conforms classes c shape ≡ true → s.0 ≡ place.0 → DropWay place s u →
    slice_get (children (without_child place.1 c)) u.1 ≡ slice_get (children c) s.1
dropped-fits classes place s u (One t) shape h e same w = absurd (plain_cell classes t shape h e)
dropped-fits classes place s u (Many ts) shape h e same (way.behind a less b next) =
    let is : s.1 ≡ suc u.1 = omega arith in
    ap (λ xs. slice_get xs u.1) (from_to_trees (remove (from_trees ts) place.1)) ∙ removed-behind (from_trees ts) place.1 u.1 (omega arith) ∙ ap (slice_get (from_trees ts)) (sym is)
dropped-fits classes place s u (Many ts) shape h e same (way.stays is less) =
    let at' : u.1 ≡ s.1 = ap (λ (w : Way). w.1) is in
    ap (λ xs. slice_get xs u.1) (from_to_trees (remove (from_trees ts) place.1)) ∙ ap (slice_get (remove (from_trees ts) place.1)) at' ∙ removed-before (from_trees ts) place.1 s.1 (less same)
dropped-fits classes place s u Empty shape h e same w = refl
dropped-fits classes place s u (Filled t) shape h e same w = at_place place.1 refl w
  where
    at_place : (i : ℕ) → place.1 ≡ i → DropWay place s u → slice_get (children (without_child i (Filled t))) u.1 ≡ slice_get (t ∷ []) s.1
    at_place zero f (way.behind a less b next) = sym (unfilled t s.1 (omega arith))
    at_place zero f (way.stays is less) = let g : s.1 < place.1 = less same in absurd (omega arith)
    at_place (suc i) f (way.behind a less b next) = unfilled t u.1 (omega arith) ∙ sym (unfilled t s.1 (omega arith))
    at_place (suc i) f (way.stays is less) = ap (slice_get (t ∷ [])) (ap (λ (w : Way). w.1) is)
dropped-fits classes place s u (Holds v) shape h e same w = refl

dropped-token : (i : ℕ) (c : Cell) → token_in (Some (without_child i c)) ≡ token_in (Some c)
dropped-token i (One t) = refl
dropped-token i (Many ts) = refl
dropped-token i Empty = refl
dropped-token zero (Filled t) = refl
dropped-token (suc i) (Filled t) = refl
dropped-token i (Holds v) = refl

inserted-token : (new : Tree) (i : ℕ) (c : Cell) → token_in (Some (with_one_more new i c)) ≡ token_in (Some c)
inserted-token new i (One t) = refl
inserted-token new i (Many ts) = refl
inserted-token new i Empty = refl
inserted-token new i (Filled t) = refl
inserted-token new i (Holds v) = refl

pub inserted-fits : (ts : Trees) (place s u : Way) (new : Tree) → place.1 ≤ length (from_trees ts) → s.0 ≡ place.0 → InsertWay place s u →
    slice_get (children (with_one_more new place.1 (Many ts))) u.1 ≡ slice_get (from_trees ts) s.1
inserted-fits ts place s u new bound same (way.behind a less b next) =
    let is : u.1 ≡ suc s.1 = omega arith in
    ap (λ xs. slice_get xs u.1) (from_to_trees (insert (from_trees ts) place.1 new)) ∙ ap (slice_get (insert (from_trees ts) place.1 new)) is ∙ inserted-behind (from_trees ts) place.1 s.1 new less
inserted-fits ts place s u new bound same (way.stays is less) =
    ap (λ xs. slice_get xs u.1) (from_to_trees (insert (from_trees ts) place.1 new))
    ∙ ap (slice_get (insert (from_trees ts) place.1 new)) (ap (λ (w : Way). w.1) is)
    ∙ inserted-before (from_trees ts) place.1 s.1 new (less same) bound

-- a token is set and nothing moves
pub moved_nowhere : (p n : Node) → moved_under p (λ (s : Way). Some s) n ≡ Some n
moved_nowhere [] [] = refl
moved_nowhere [] (s ∷ ss) = refl
moved_nowhere (a ∷ p) [] = refl
moved_nowhere (a ∷ p) (s ∷ ss) = by_step (step_eq a s) (moved_nowhere p ss)
  where
    by_step : (b : Bool) → moved_under p (λ (s : Way). Some s) ss ≡ Some ss → (if b then option_map (λ (us : Node). s ∷ us) (moved_under p (λ (s : Way). Some s) ss) else Some (s ∷ ss)) ≡ Some (s ∷ ss)
    by_step true e = ap (option_map (λ (us : Node). s ∷ us)) e
    by_step false e = refl

pub nothing_keeps : (part : ℕ) → KeepsParts (λ (s : Way). Some s) part
nothing_keeps part = record { other = λ s e. refl; same = λ s u e. ap (λ (w : Way). w.0) (sym (way.same_some s u e)) }

-- the index of a child
child_seen : (p m : Node) (part : ℕ) (s : Way) (n : Node) → n ≡ m ++ s ∷ [] → is_child p part n ≡ (node_eq p m && nat_eq part s.0)
child_seen p m part s n e = ap (λ (o : Option (Node × Way)). elim o [ None ↦ false | Some x ↦ node_eq p x.0 && nat_eq part x.1.0 ]) (ap parent_of e ∙ parent_of-snoc m s)

-- where no node is carried, no location is
nowhere : (l m : Location Node) → LocationLike (Names (λ (n : Node). let o : Option Node = None in o)) l m → ⊥
nowhere l m (alike.is r) = cc
nowhere l m (alike.tok q r) = cc
nowhere l m (alike.slot q r) = cc
nowhere l m (alike.up r) = cc
nowhere l m (alike.idx r) = cc
nowhere l m (alike.drawer q key k r) = cc

module _ (classes : Classes) (t : Tree) (ok : conforms classes t 0 ≡ true) where
  set_unseen : (node : Node) (new : Tree) (p : Node × Way) → parent_of node ≡ Some p → (l : Location Node)
      → touches (Set node new) l ≡ false → shifts t (Set node new) l ≡ false → Unseen (with_child (λ u. new) p.1.1) p.1.0 (past_set p.1) t p.0 l
  set_unseen node new p is (Is n) h hs = tt
  set_unseen node new p is (Tok n q) h hs = λ same u c found here. child-token (λ u. new) p.1.1 c
  set_unseen node new p is (Slot n q) h hs = λ same u c found here. absurd (not_both _ same
      (sym (ap (λ (o : Option (Node × Way)). elim o [ None ↦ false | Some x ↦ is_slot x.0 x.1.0 (Slot n q) ]) is)
      ∙ (false_or _ _ h).1))
  set_unseen node new p is (Up n) h hs = tt
  set_unseen node new p is (Idx n) h hs = λ m s e same r u f. ap (λ (w : Way). w.1) (sym (set_way p.1 r u f).0)
  set_unseen node new p is (Drawer n q key k) h hs =
      let offs = false_or (is_drawer_of t node (Drawer n q key k)) (is_drawer_around node new (Drawer n q key k)) hs in (
        λ same u c found here. replaced (is_marked key k) new p.1.0 p.1.1 c (λ x child. off_there t node p n q key k u c x is same offs.0 found here child)
            (off_around node p new n q key k is same offs.1),
        λ j same u c found here. ap (stands_under key k (class_of u)) (child-token (λ u. new) p.1.1 c),
      )

  pub set_fits : (new : Tree) (p : Node × Way) → FitsAt (with_child (λ u. new) p.1.1) p.1.0 (past_set p.1) t p.0
  set_fits new p u c found here r w same e =
      let (stays, apart) = set_way p.1 r w e in
      let differs : p.1.1 ≡ r.1 → ⊥ = λ f. let g : nat_eq p.1.0 r.0 ≡ true = grind (arith, nat_tests) in
      let k : nat_eq p.1.1 r.1 ≡ true = grind (arith, nat_tests) in
      not_both (step_eq p.1 r) (ap (λ b. b && nat_eq p.1.1 r.1) g ∙ k) apart in
      ap (λ (x : Way). slice_get (children (with_child (λ u. new) p.1.1 c)) x.1) (sym stays) ∙ child-other (λ u. new) p.1.1 r.1 c differs

  set_alike : (node : Node) (new : Tree) (p : Node × Way) → parent_of node ≡ Some p → (l m : Location Node)
      → touches (Set node new) l ≡ false → shifts t (Set node new) l ≡ false → (s : LocationLike (Names (moved_under p.0 (past_set p.1))) l m) →
      ContentLike (Names (moved_under p.0 (past_set p.1))) s (content t l) (content (left_by t (Set node new)) m)
  set_alike node new p is l m h hs s =
      subst (λ (x : Tree). ContentLike (Names (moved_under p.0 (past_set p.1))) s (content t l) (content x m)) (sym (set_in_parent classes new node p is t))
      (cell_alike (with_child (λ u. new) p.1.1) p.1.0 (past_set p.1) (set_keeps p.1) t p.0 (set_fits new p) l m s (set_unseen node new p is l h hs))

  -- what is seen of the component that an edit needs
  pub component_there : {A : Type 0} (select : Shape → Option A) (p : Node) (part : ℕ) (u : Tree) (c : Cell)
      → is_some (option_and_then select (shape_at classes t p part)) ≡ true → tree_at t p ≡ Some u → cell_at u part
      ≡ Some c → (shape : Shape) × (is_some (select shape) ≡ true) × (cell_conforms classes c shape ≡ true)
  component_there select p part u c has found here = let (shape, is, fits) = shape_there classes t p part u c ok found
      here in (shape, selected select (shape_at classes t p part) true shape is has, fits)

  -- the children of a component of a node
  component_children : (node : Node) (part : ℕ) (u : Tree) (c : Cell) → tree_at t node ≡ Some u → cell_at u part ≡ Some c → children_of t node part ≡ children c
  component_children node part u c found here = ap (λ (o : Option Tree). elim o [ None ↦ [] | Some x ↦ children_at x part ]) found ∙ ap in_cell here

  put_token : (node : Node) (part : ℕ) (new : Tree) → has_component classes t (Put node part new) ≡ true → (n : Node) (q : ℕ) → (node_eq node n && nat_eq part q) ≡ true
      → (u : Tree) (c : Cell) → tree_at t n ≡ Some u → cell_at u part ≡ Some c → token_in (Some (Filled new)) ≡ token_in (Some c)
  put_token node part new has n q same u c found here =
      let at' = node_eq-sound node n (both _ _ same).0 in
      let (shape, some, fits) = component_there optional_class node part u c has (subst (λ (x : Node). tree_at t x ≡ Some u) (sym at') found) here in sym (optional_cell classes c shape some fits)

  put_unseen : (node : Node) (part : ℕ) (new : Tree) → has_component classes t (Put node part new) ≡ true → children_of t node part ≡ [] → (l :
      Location Node) → touches (Put node part new) l ≡ false → shifts t (Put node part new) l ≡ false → Unseen (λ c. Filled new) part (past_put part) t node l
  put_unseen node part new has free (Is n) h hs = tt
  put_unseen node part new has free (Tok n q) h hs = λ same u c found here. put_token node part new has n q same u c found here
  put_unseen node part new has free (Slot n q) h hs = λ same u c found here. absurd (not_both _ same h)
  put_unseen node part new has free (Up n) h hs = tt
  put_unseen node part new has free (Drawer n q key k) h hs = (
    λ same u c found here.
        let at' = node_eq-sound node n (both _ _ same).0 in
        let bare : children c ≡ [] = sym (component_children node part u c (subst (λ (x : Node). tree_at t x ≡ Some u) (sym at') found) here) ∙ free in
        let off : is_marked key k new ≡ false = behind_true (node_eq node n && nat_eq part q) (is_marked key k new) same hs in
        subst (λ (xs : List Tree). Kept (is_marked key k) (Goes (λ c. Filled new) part (past_put part)) 0 xs 0 (new ∷ [])) (sym bare) (comes 0 0 new [] [] off (none 0 1)),
    λ j same u c found here. ap (stands_under key k (class_of u)) (put_token node part new has (n ++ (q, j) ∷ []) key.token same u c found here),
  )
  put_unseen node part new has free (Idx n) h hs = λ m s e same r u f. ap (λ (w : Way). w.1) (sym (put_way part r u f).0)

  pub put_fits : (node : Node) (part : ℕ) (new : Tree) → FitsAt (λ c. Filled new) part (past_put part) t node
  put_fits node part new u c found here r w same e = absurd (not_both (nat_eq part r.0) (grind (arith, nat_tests)) (put_way part r w e).1)

  pub put_alike : (node : Node) (part : ℕ) (new : Tree) → has_component classes t (Put node part new) ≡ true → children_of t node part ≡ []
      → (l m : Location Node) → touches (Put node part new) l ≡ false → shifts t (Put node part new) l ≡ false
      → (s : LocationLike (Names (moved_under node (past_put part))) l m) →
      ContentLike (Names (moved_under node (past_put part))) s (content t l) (content (left_by t (Put node part new)) m)
  put_alike node part new has free l m h hs s =
      cell_alike (λ c. Filled new) part (past_put part) (put_keeps part) t node (put_fits node part new) l m s (put_unseen node part new has free l h hs)

  drop_unseen : (node : Node) (p : Node × Way) → parent_of node ≡ Some p → is_some (option_and_then plain_class (shape_at classes t p.0 p.1.0)) ≡ false
      → (l : Location Node) → touches (Drop node) l ≡ false → shifts t (Drop node) l ≡ false → Unseen (without_child p.1.1) p.1.0 (past_drop p.1) t p.0 l
  drop_unseen node p is plain (Is n) h hs = tt
  drop_unseen node p is plain (Tok n q) h hs = λ same u c found here. dropped-token p.1.1 c
  drop_unseen node p is plain (Slot n q) h hs = λ same u c found here.
      let around = false_or (is_within node n || is_slot_around node (Slot n q)) (is_index_around node (Slot n q)) h in
      let apart = false_or (is_within node n) (is_slot_around node (Slot n q)) around.0 in
      absurd (not_both _ same (sym (ap (λ (o : Option (Node × Way)). elim o [ None ↦ false | Some x ↦ is_slot x.0 x.1.0 (Slot n q) ]) is) ∙ apart.1))
  drop_unseen node p is plain (Up n) h hs = tt
  drop_unseen node p is plain (Drawer n q key k) h hs = (
    λ same u c found here.
        let found' : tree_at t p.0 ≡ Some u = ap (tree_at t) (node_eq-sound p.0 n (both _ _ same).0) ∙ found in
        let (shape, sees, conf) = shape_there classes t p.0 p.1.0 u c ok found' here in
        dropped (is_marked key k) p.1.0 p.1.1 c
        (λ x e. plain_cell classes x shape (selected plain_class (shape_at classes t p.0 p.1.0) false shape sees plain) (subst (λ (z : Cell). cell_conforms classes z shape ≡ true) e conf))
        (λ x child. off_there t node p n q key k u c x is same hs found here child),
    λ j same u c found here. ap (stands_under key k (class_of u)) (dropped-token p.1.1 c),
  )
  drop_unseen node p is plain (Idx n) h hs = λ m s e same.
      let around = false_or (is_within node n || is_slot_around node (Idx n)) (is_index_around node (Idx n)) h in
      absurd (not_both _ same (sym (child_seen p.0 m p.1.0 s n e) ∙ sym (ap (λ (o : Option (Node × Way)). elim o [ None ↦ false | Some x ↦ is_index x.0 x.1.0 (Idx n) ]) is) ∙ around.1))

  pub drop_fits : (p : Node × Way) → is_some (option_and_then plain_class (shape_at classes t p.0 p.1.0)) ≡ false → FitsAt (without_child p.1.1) p.1.0 (past_drop p.1) t p.0
  drop_fits p plain u c found here r w same e =
      let (shape, sees, conf) = shape_there classes t p.0 p.1.0 u c ok found here in
      dropped-fits classes p.1 r w c shape (selected plain_class (shape_at classes t p.0 p.1.0) false shape sees plain) conf same (drop_way p.1 r w e)

  pub drop_alike : (node : Node) (p : Node × Way) → parent_of node ≡ Some p → is_some (option_and_then plain_class
      (shape_at classes t p.0 p.1.0)) ≡ false → (l m : Location Node) → touches (Drop node) l ≡ false → shifts t (Drop node) l ≡ false →
      (s : LocationLike (Names (moved_under p.0 (past_drop p.1))) l m)
      → ContentLike (Names (moved_under p.0 (past_drop p.1))) s (content t l)
      (content (with_node (with_cell (without_child p.1.1) p.1.0) t p.0) m)
  drop_alike node p is plain l m h hs s =
      cell_alike (without_child p.1.1) p.1.0 (past_drop p.1) (drop_keeps p.1) t p.0 (drop_fits p plain) l m s (drop_unseen node p is plain l h hs)

  -- the children that the test of the index counts
  pub counted : (node : Node) (part : ℕ) (u : Tree) (ts : Trees) → tree_at t node ≡ Some u → cell_at u part ≡ Some (Many ts) → children_of t node part ≡ from_trees ts
  counted node part u ts found here = ap (λ (o : Option Tree). elim o [ None ↦ [] | Some x ↦ children_at x part ]) found ∙ ap (λ (o : Option Cell). elim o [ None ↦ [] | Some c ↦ children c ]) here

  insert_bound : (node : Node) (part index : ℕ) (new : Tree) → is_in_range t (Insert node part index new) ≡ true → (u : Tree) (c : Cell) (ts : Trees)
      → tree_at t node ≡ Some u → cell_at u part ≡ Some c → c ≡ Many ts → index ≤ length (from_trees ts)
  insert_bound node part index new range u c ts found here is =
      let count : length (children_of t node part) ≡ length (from_trees ts) = ap length (counted node part u ts found (here ∙ ap Some is)) in
      let bound : index ≤ length (children_of t node part) = grind (arith, nat_tests) in
      omega arith

  insert_unseen : (node : Node) (part index : ℕ) (new : Tree)
      → has_component classes t (Insert node part index new) ≡ true → is_in_range t (Insert node part index new) ≡ true
      → (l : Location Node) → touches (Insert node part index new) l ≡ false → shifts t (Insert node part index new) l ≡ false
      → Unseen (with_one_more new index) part (past_insert (part, index)) t node l
  insert_unseen node part index new has range (Is n) h hs = tt
  insert_unseen node part index new has range (Tok n q) h hs = λ same u c found here. inserted-token new index c
  insert_unseen node part index new has range (Slot n q) h hs = λ same u c found here. absurd (not_both _ same (false_or _ _ h).0)
  insert_unseen node part index new has range (Up n) h hs = tt
  insert_unseen node part index new has range (Idx n) h hs = λ m s e same. absurd (not_both _ same (sym (child_seen node m part s n e) ∙ h))
  insert_unseen node part index new has range (Drawer n q key k) h hs = (
    λ same u c found here.
        let at' = node_eq-sound node n (both _ _ same).0 in
        let found' : tree_at t node ≡ Some u = ap (tree_at t) at' ∙ found in
        let (shape, some, conf) = component_there list_class node part u c has found' here in
        let (ts, is) = list_cell classes c shape some conf in
        let off : is_marked key k new ≡ false = behind_true (node_eq node n && nat_eq part q) (is_marked key k new) same hs in
        subst (λ (x : Cell). Kept (is_marked key k) (Goes (with_one_more new index) part (past_insert (part, index))) 0 (children x) 0 (children (with_one_more new index x))) (sym is)
        (put_among (is_marked key k) new part index ts (insert_bound node part index new range u c ts found' here is) off),
    λ j same u c found here. ap (stands_under key k (class_of u)) (inserted-token new index c),
  )

  pub insert_fits : (node : Node) (part index : ℕ) (new : Tree)
      → has_component classes t (Insert node part index new) ≡ true → is_in_range t (Insert node part index new) ≡ true
      → FitsAt (with_one_more new index) part (past_insert (part, index)) t node
  insert_fits node part index new has range u c found here r w same e =
      let (shape, some, conf) = component_there list_class node part u c has found here in
      let (ts, is) = list_cell classes c shape some conf in
      let count : length (children_of t node part) ≡ length (from_trees ts) = ap length (counted node part u ts found (here ∙ ap Some is)) in
      let bound : index ≤ length (children_of t node part) = grind (arith, nat_tests) in
      subst (λ (x : Cell). slice_get (children (with_one_more new index x)) w.1 ≡ slice_get (children x) r.1) (sym is)
      (inserted-fits ts (part, index) r w new (omega arith) same (insert_way (part, index) r w e))

  pub insert_alike : (node : Node) (part index : ℕ) (new : Tree)
      → has_component classes t (Insert node part index new) ≡ true → is_in_range t (Insert node part index new) ≡ true
      → (l m : Location Node) → touches (Insert node part index new) l ≡ false → shifts t (Insert node part index new) l ≡ false →
      (s : LocationLike (Names (moved_under node (past_insert (part, index)))) l m)
      → ContentLike (Names (moved_under node (past_insert (part, index)))) s (content t l)
      (content (left_by t (Insert node part index new)) m)
  insert_alike node part index new has range l m h hs s =
      cell_alike (with_one_more new index) part (past_insert (part, index)) (insert_keeps (part, index)) t node
      (insert_fits node part index new has range) l m s (insert_unseen node part index new has range l h hs)

  token_unseen : (node : Node) (part : ℕ) (v : trees.Token) → has_component classes t (Token node part v) ≡ true → (l :
      Location Node) → touches (Token node part v) l ≡ false → shifts t (Token node part v) l ≡ false → Unseen (λ c. Holds v) part (λ (s : Way). Some s) t node l
  token_unseen node part v has (Is n) h hs = tt
  token_unseen node part v has (Tok n q) h hs = λ same u c found here. absurd (not_both _ same h)
  token_unseen node part v has (Slot n q) h hs = λ same u c found here.
      let at' = node_eq-sound node n (both _ _ same).0 in
      let (shape, some, conf) = component_there token_kind node part u c has (subst (λ (x : Node). tree_at t x ≡ Some u) (sym at') found) here in
      (token_cell classes c shape some conf, refl)
  token_unseen node part v has (Up n) h hs = tt
  token_unseen node part v has (Idx n) h hs = λ m s e same r u f. ap (λ (w : Way). w.1) (sym (way.same_some r u f))
  token_unseen node part v has (Drawer n q key k) h hs = (
    λ same u c found here.
        let at' = node_eq-sound node n (both _ _ same).0 in
        let (shape, some, conf) = component_there token_kind node part u c has (subst (λ (x : Node). tree_at t x ≡ Some u) (sym at') found) here in
        subst (λ (xs : List Tree). Kept (is_marked key k) (Goes (λ c. Holds v) part (λ (s : Way). Some s)) 0 xs 0 []) (sym (token_cell classes c shape some conf)) (none 0 0),
    λ j same u c found here. token_kept t node part v n q j key k u c hs same found here,
  )

  pub token_fits : (node : Node) (part : ℕ) (v : trees.Token) → has_component classes t (Token node part v) ≡ true → FitsAt (λ c. Holds v) part (λ (s : Way). Some s) t node
  token_fits node part v has u c found here r w same e =
      let (shape, some, conf) = component_there token_kind node part u c has found here in
      sym (ap (λ (xs : List Tree). slice_get xs r.1) (token_cell classes c shape some conf))

  pub token_alike : (node : Node) (part : ℕ) (v : trees.Token) → has_component classes t (Token node part v) ≡ true → (l m : Location Node) → touches (Token node part v) l ≡ false → shifts t (Token node part v) l ≡ false →
      (s : LocationLike (Names (moved_under node (λ (s : Way). Some s))) l m) → ContentLike (Names (moved_under node (λ (s : Way). Some s))) s (content t l) (content (left_by t (Token node part v)) m)
  token_alike node part v has l m h hs s =
      cell_alike (λ c. Holds v) part (λ (s : Way). Some s) (nothing_keeps part) t node (token_fits node part v has) l m s (token_unseen node part v has l h hs)

  -- a node that has no parent is replaced with all that there is
  pub at_set : (node : Node) (new : Tree) (o : Option (Node × Way)) → parent_of node ≡ o → (l : Location Node) → touches (Set node new) l ≡ false → shifts t (Set node new) l ≡ false →
      AlikeAt (Names (λ n. elim o [ None ↦ None | Some p ↦ moved_under p.0 (past_set p.1) n ])) (content t) (content (left_by t (Set node new))) l
  at_set node new None is l h hs = λ m s. absurd (nowhere l m s)
  at_set node new (Some p) is l h hs = λ m s. set_alike node new p is l m h hs s

  pub at_drop : (node : Node) (o : Option (Node × Way)) → parent_of node ≡ o
      → elim o [ None ↦ true | Some p ↦ is_some (option_and_then plain_class (shape_at classes t p.0 p.1.0)) ] ≡ false
      → (l : Location Node) → touches (Drop node) l ≡ false → shifts t (Drop node) l ≡ false →
      AlikeAt (Names (λ n. elim o [ None ↦ None | Some p ↦ moved_under p.0 (past_drop p.1) n ])) (content t)
      (content (elim o [ None ↦ t | Some p ↦ with_node (with_cell (without_child p.1.1) p.1.0) t p.0 ])) l
  at_drop node None is plain l h hs = λ m s. absurd (nowhere l m s)
  at_drop node (Some p) is plain l h hs = λ m s. drop_alike node p is plain l m h hs s
