-- The trees before and after a change of one cell show the same, up to the nodes that move, wherever the change is not seen.
use Rattle.std.proofs.Common.{◌≡◌, ℕ, zero, suc, ◌+◌, Bool, true, false, ◌&&◌, ◌||◌, nat_eq, if◌then◌else◌, List, [], ◌∷◌, ◌++◌, length, Option, Some, None, refl, sym, ap, ◌∙◌, subst, arith, option_and_then, option_map, ◌⊎◌, inl, inr}
use Rattle.std.specs.Prelude.{⊤}
use Rattle.std.specs.List.{slice_get}
use Rattle.std.proofs.lemmas.Bool.Decides.{nat_tests}
use Rattle.at_model.specs.Trees.{Tree, Cells, Cell, Trees, Node as branch, no_cells, cell, One, Many, Empty, Filled, Holds, no_trees, tree, class_of, to_cells, from_cells, to_trees, from_trees, children}
use Rattle.at_model.specs.Trees as trees
use Rattle.at_model.specs.Paths.{Node, cell_at, children_at, tree_at, step_eq, node_eq, is_within, parent_of}
use Rattle.at_model.specs.Drawers.{Key, stands_under}
use Rattle.at_model.specs.Run.{Location, Is, Tok, Slot, Up, Idx, Drawer}
use Rattle.at_model.specs.Meaning.{token_in, is_marked, child_nodes, chosen_nodes, content}
use Rattle.at_model.specs.Alike.{OptionLike, ListLike, LocationLike, ContentLike, Names}
use Rattle.at_model.specs.Alike as alike
use Rattle.at_model.specs.Classes.{Classes}
use Rattle.at_model.specs.Edits.{changed_at, with_child, with_cell, with_node, moved_under, is_fixed_part, is_planted}
use Rattle.at_model.proofs.Options.{both, mapped}
use Rattle.at_model.proofs.Nodes.{step_eq-sound, step_eq-refl, node_eq-sound}
use Rattle.at_model.proofs.WayUp.{snoc, parent_of-snoc}
use Rattle.at_model.proofs.of_edits.Drawn.{Kept, chosen_alike, each_there}
use Rattle.at_model.proofs.of_edits.Moving.{Way, KeepsParts, KeepsIndex, moved-snoc, moved_children, moved-nil}
use Rattle.at_model.proofs.of_edits.Ways.{same_some}

pub from_to_cells : (cs : List Cell) → from_cells (to_cells cs) ≡ cs
from_to_cells [] = refl
from_to_cells (c ∷ cs) = ap (λ (x : List Cell). c ∷ x) (from_to_cells cs)

pub from_to_trees : (ts : List Tree) → from_trees (to_trees ts) ≡ ts
from_to_trees [] = refl
from_to_trees (t ∷ ts) = ap (λ (x : List Tree). t ∷ x) (from_to_trees ts)

-- one element changed
changed-same : {A : Type 0} (f : A → A) (xs : List A) (i : ℕ) → slice_get (changed_at f xs i) i ≡ option_map f (slice_get xs i)
changed-same f [] i = refl
changed-same f (x ∷ xs) zero = refl
changed-same f (x ∷ xs) (suc i) = changed-same f xs i

changed-other : {A : Type 0} (f : A → A) (xs : List A) (i j : ℕ) → (i ≡ j → ⊥) → slice_get (changed_at f xs i) j ≡ slice_get xs j
changed-other f [] i j h = refl
changed-other f (x ∷ xs) zero zero h = absurd (h refl)
changed-other f (x ∷ xs) zero (suc j) h = refl
changed-other f (x ∷ xs) (suc i) zero h = refl
changed-other f (x ∷ xs) (suc i) (suc j) h = changed-other f xs i j (λ e. h (ap suc e))

length-changed : {A : Type 0} (f : A → A) (xs : List A) (i : ℕ) → length (changed_at f xs i) ≡ length xs
length-changed f [] i = refl
length-changed f (x ∷ xs) zero = refl
length-changed f (x ∷ xs) (suc i) = ap suc (length-changed f xs i)

-- one cell changed
pub cell-same : (g : Cell → Cell) (part : ℕ) (t : Tree) → cell_at (with_cell g part t) part ≡ option_map g (cell_at t part)
cell-same g part (branch c cells) = ap (λ xs. slice_get xs part) (from_to_cells (changed_at g (from_cells cells) part)) ∙ changed-same g (from_cells cells) part

pub cell-other : (g : Cell → Cell) (part q : ℕ) (t : Tree) → (part ≡ q → ⊥) → cell_at (with_cell g part t) q ≡ cell_at t q
cell-other g part q (branch c cells) h = ap (λ xs. slice_get xs q) (from_to_cells (changed_at g (from_cells cells) part)) ∙ changed-other g (from_cells cells) part q h

pub class-same : (g : Cell → Cell) (part : ℕ) (t : Tree) → class_of (with_cell g part t) ≡ class_of t
class-same g part (branch c cells) = refl

-- one child changed
pub child-same : (f : Tree → Tree) (i : ℕ) (c : Cell) → slice_get (children (with_child f i c)) i ≡ option_map f (slice_get (children c) i)
child-same f zero (One t) = refl
child-same f (suc i) (One t) = refl
child-same f i (Many ts) = ap (λ xs. slice_get xs i) (from_to_trees (changed_at f (from_trees ts) i)) ∙ changed-same f (from_trees ts) i
child-same f i Empty = refl
child-same f zero (Filled t) = refl
child-same f (suc i) (Filled t) = refl
child-same f i (Holds v) = refl

pub child-other : (f : Tree → Tree) (i j : ℕ) (c : Cell) → (i ≡ j → ⊥) → slice_get (children (with_child f i c)) j ≡ slice_get (children c) j
child-other f zero zero (One t) h = absurd (h refl)
child-other f zero (suc j) (One t) h = refl
child-other f (suc i) j (One t) h = refl
child-other f i j (Many ts) h = ap (λ xs. slice_get xs j) (from_to_trees (changed_at f (from_trees ts) i)) ∙ changed-other f (from_trees ts) i j h
child-other f i j Empty h = refl
child-other f zero zero (Filled t) h = absurd (h refl)
child-other f zero (suc j) (Filled t) h = refl
child-other f (suc i) j (Filled t) h = refl
child-other f i j (Holds v) h = refl

pub child-length : (f : Tree → Tree) (i : ℕ) (c : Cell) → length (children (with_child f i c)) ≡ length (children c)
child-length f zero (One t) = refl
child-length f (suc i) (One t) = refl
child-length f i (Many ts) = ap length (from_to_trees (changed_at f (from_trees ts) i)) ∙ length-changed f (from_trees ts) i
child-length f i Empty = refl
child-length f zero (Filled t) = refl
child-length f (suc i) (Filled t) = refl
child-length f i (Holds v) = refl

pub child-token : (f : Tree → Tree) (i : ℕ) (c : Cell) → token_in (Some (with_child f i c)) ≡ token_in (Some c)
child-token f zero (One t) = refl
child-token f (suc i) (One t) = refl
child-token f i (Many ts) = refl
child-token f i Empty = refl
child-token f zero (Filled t) = refl
child-token f (suc i) (Filled t) = refl
child-token f i (Holds v) = refl

abbrev pub in_cell : Option Cell → List Tree
in_cell o = elim o [ None ↦ [] | Some c ↦ children c ]

pub by_nat : (a b : ℕ) (P : Type 0) → (a ≡ b → P) → ((a ≡ b → ⊥) → P) → P
by_nat a b P h k = decide (nat_eq a b) refl
  where
    decide : (t : Bool) → nat_eq a b ≡ t → P
    decide true e = h (grind (arith, nat_tests))
    decide false e = k (λ f. let g : nat_eq a b ≡ true = grind (arith, nat_tests) in cc)

pub true_if : (a b : ℕ) → a ≡ b → nat_eq a b ≡ true
true_if a b e = grind (arith, nat_tests)

-- a child of a tree where one child is changed: that one, and any other
in_cell-same : (h : Tree → Tree) (i : ℕ) (o : Option Cell) → slice_get (in_cell (option_map (with_child h i) o)) i ≡ option_map h (slice_get (in_cell o) i)
in_cell-same h i None = refl
in_cell-same h i (Some c) = child-same h i c

in_cell-other : (h : Tree → Tree) (i j : ℕ) (o : Option Cell) → (i ≡ j → ⊥) → slice_get (in_cell (option_map (with_child h i) o)) j ≡ slice_get (in_cell o) j
in_cell-other h i j None n = refl
in_cell-other h i j (Some c) n = child-other h i j c n

pub step-same : (h : Tree → Tree) (a : Way) (t : Tree) → slice_get (children_at (with_cell (with_child h a.1) a.0 t) a.0) a.1 ≡ option_map h (slice_get (children_at t a.0) a.1)
step-same h a t = ap (λ o. slice_get (in_cell o) a.1) (cell-same (with_child h a.1) a.0 t) ∙ in_cell-same h a.1 (cell_at t a.0)

pub step-other : (h : Tree → Tree) (a s : Way) (t : Tree) → step_eq a s ≡ false → slice_get (children_at (with_cell (with_child h a.1) a.0 t) s.0) s.1 ≡ slice_get (children_at t s.0) s.1
step-other h a s t e = by_nat a.0 s.0 _ here (λ n. ap (λ o. slice_get (in_cell o) s.1) (cell-other (with_child h a.1) a.0 s.0 t n))
  where
    here : a.0 ≡ s.0 → slice_get (children_at (with_cell (with_child h a.1) a.0 t) s.0) s.1 ≡ slice_get (children_at t s.0) s.1
    here same =
        let differs : a.1 ≡ s.1 → ⊥ = λ f. let g : nat_eq a.0 s.0 ≡ true = true_if a.0 s.0 same in let k : nat_eq a.1
        s.1 ≡ true = true_if a.1 s.1 f in let m : step_eq a s ≡ true = ap (λ b. b && nat_eq a.1 s.1) g ∙ k in cc in
        subst (λ (q : ℕ). slice_get (children_at (with_cell (with_child h a.1) a.0 t) q) s.1 ≡ slice_get (children_at t q) s.1) same
        (ap (λ o. slice_get (in_cell o) s.1) (cell-same (with_child h a.1) a.0 t) ∙ in_cell-other h a.1 s.1 (cell_at t a.0) differs)

map-id : {A : Type 0} (o : Option A) → option_map (λ (x : A). x) o ≡ o
map-id None = refl
map-id (Some a) = refl

pub then-map : {A B : Type 0} (h : A → A) (f : A → Option B) (k : A → Option B) (r : B → B) (o : Option A)
    → ((v : A) → o ≡ Some v → f (h v) ≡ option_map r (k v))
    → option_and_then f (option_map h o) ≡ option_map r (option_and_then k o)
then-map h f k r None e = refl
then-map h f k r (Some v) e = e v refl

-- the tree at a longer path
pub tree_at-append : (t : Tree) (a b : Node) → tree_at t (a ++ b) ≡ option_and_then (λ u. tree_at u b) (tree_at t a)
tree_at-append t [] b = refl
tree_at-append t (s ∷ a) b = each_child (slice_get (children_at t s.0) s.1) (λ u. tree_at-append u a b)
  where
    each_child : (o : Option Tree)
        → ((u : Tree) → tree_at u (a ++ b) ≡ option_and_then (λ v. tree_at v b) (tree_at u a)) → option_and_then
        (λ u. tree_at u (a ++ b)) o ≡ option_and_then (λ v. tree_at v b) (option_and_then (λ u. tree_at u a) o)
    each_child None h = refl
    each_child (Some u) h = h u

-- the tree at a child
as_it_is : {A : Type 0} (o : Option A) → option_and_then (λ (w : A). Some w) o ≡ o
as_it_is None = refl
as_it_is (Some a) = refl

pub at_child : (t : Tree) (n : Node) (s : Way) (u : Tree) → tree_at t n ≡ Some u → tree_at t (n ++ s ∷ []) ≡ slice_get (children_at u s.0) s.1
at_child t n s u e = tree_at-append t n (s ∷ []) ∙ ap (option_and_then (λ x. tree_at x (s ∷ []))) e ∙ as_it_is (slice_get (children_at u s.0) s.1)

-- a test of what stands there, where a map leaves it as it is
tested : (f : Tree → Bool) (h : Tree → Tree) (o : Option Tree) → ((v : Tree) → o ≡ Some v → f (h v) ≡ f v) → option_map f (option_map h o) ≡ option_map f o
tested f h None same = refl
tested f h (Some v) same = ap Some (same v refl)

-- the changed tree stands where it stood
pub changed_there : (f : Tree → Tree) (t : Tree) (p : Node) → tree_at (with_node f t p) p ≡ option_map f (tree_at t p)
changed_there f t [] = refl
changed_there f t (s ∷ ss) =
    ap (option_and_then (λ x. tree_at x ss)) (step-same (λ x. with_node f x ss) s t) ∙
    then-map (λ x. with_node f x ss) (λ x. tree_at x ss) (λ x. tree_at x ss) f (slice_get (children_at t s.0) s.1) (λ v child. changed_there f v ss)

module _ (g : Cell → Cell) (part : ℕ) (past : Way → Option Way) where
  -- what stands at a node, after the change of the cell below the other node
  abbrev pub local : Node → Node → Tree → Tree
  local p [] v = with_node (with_cell g part) v p
  local [] (s ∷ ss) v = v
  local (a ∷ p) (s ∷ ss) v = if step_eq a s then local p ss v else v

  -- the children of the cell are found again where they are moved
  abbrev pub Fits : Cell → Type 0
  Fits c = (s u : Way) → s.0 ≡ part → past s ≡ Some u → slice_get (children (g c)) u.1 ≡ slice_get (children c) s.1

  abbrev pub FitsAt : Tree → Node → Type 0
  FitsAt t p = (u : Tree) (c : Cell) → tree_at t p ≡ Some u → cell_at u part ≡ Some c → Fits c

  -- where a place of the component goes
  abbrev pub Goes : ℕ → ℕ → Type 0
  Goes = λ i j. past (part, i) ≡ Some (part, j)

  -- the change is not seen at the location, or what is seen there stays
  abbrev pub Unseen : Tree → Node → Location Node → Type 0
  Unseen t p (Is n) = ⊤
  Unseen t p (Tok n q) = (node_eq p n && nat_eq part q) ≡ true → (u : Tree) (c : Cell) → tree_at t n ≡ Some u → cell_at u part ≡ Some c → token_in (Some (g c)) ≡ token_in (Some c)
  Unseen t p (Slot n q) = (node_eq p n && nat_eq part q) ≡ true → (u : Tree) (c : Cell) → tree_at t n ≡ Some u → cell_at u part ≡ Some c → (children c ≡ []) × (children (g c) ≡ [])
  Unseen t p (Up n) = ⊤
  Unseen t p (Idx n) = (m : Node) (s : Way) → n ≡ m ++ s ∷ [] → (node_eq p m && nat_eq part s.0) ≡ true → KeepsIndex past
  Unseen t p (Drawer n q key k) =
      ((node_eq p n && nat_eq part q) ≡ true → (u : Tree) (c : Cell) → tree_at t n ≡ Some u → cell_at u part ≡ Some c → Kept (is_marked key k) Goes 0 (children c) 0 (children (g c)))
      × ((j : ℕ) → (node_eq p (n ++ (q, j) ∷ []) && nat_eq part key.token) ≡ true → (u : Tree) (c : Cell) → tree_at t (n ++ (q, j) ∷ []) ≡ Some u → cell_at u part ≡ Some c
      → stands_under key k (class_of u) (token_in (Some (g c))) ≡ stands_under key k (class_of u) (token_in (Some c)))

  module _ (keeps : KeepsParts past part) where
    in_cell-moved : (o : Option Cell) → ((c : Cell) → o ≡ Some c → Fits c) → (s u : Way) → s.0 ≡ part → past s ≡ Some u → slice_get (in_cell (option_map g o)) u.1 ≡ slice_get (in_cell o) s.1
    in_cell-moved None fits s u e f = refl
    in_cell-moved (Some c) fits s u e f = fits c refl s u e f

    step-moved : (t : Tree) → ((c : Cell) → cell_at t part ≡ Some c → Fits c) → (s u : Way) → past s ≡ Some u → slice_get (children_at (with_cell g part t) u.0) u.1 ≡ slice_get (children_at t s.0) s.1
    step-moved t fits s u e = by_nat part s.0 _ here there
      where
        here : part ≡ s.0 → slice_get (children_at (with_cell g part t) u.0) u.1 ≡ slice_get (children_at t s.0) s.1
        here same =
            let ends : u.0 ≡ part = keeps.same s u e ∙ sym same in
            ap (λ q. slice_get (children_at (with_cell g part t) q) u.1) ends
            ∙ ap (λ o. slice_get (in_cell o) u.1) (cell-same g part t)
            ∙ in_cell-moved (cell_at t part) fits s u (sym same) e ∙ ap (λ q. slice_get (children_at t q) s.1) same

        there : (part ≡ s.0 → ⊥) → slice_get (children_at (with_cell g part t) u.0) u.1 ≡ slice_get (children_at t s.0) s.1
        there n =
            let apart : nat_eq part s.0 ≡ false = not_true (nat_eq part s.0) refl in
            let stays : s ≡ u = same_some s u (sym (keeps.other s apart) ∙ e) in
            subst (λ (x : Way). slice_get (children_at (with_cell g part t) x.0) x.1 ≡ slice_get (children_at t s.0) s.1) stays (ap (λ o. slice_get (in_cell o) s.1) (cell-other g part s.0 t n))
          where
            not_true : (b : Bool) → nat_eq part s.0 ≡ b → b ≡ false
            not_true true f = absurd (n (grind (arith, nat_tests)))
            not_true false f = refl

    -- what stands where a node is moved
    pub tree_moved : (p n m : Node) (t : Tree) → FitsAt t p → moved_under p past n ≡ Some m → tree_at (with_node (with_cell g part) t p) m ≡ option_map (local p n) (tree_at t n)
    tree_moved [] [] m t fits e = let f : [] ≡ m = same_some [] m e in subst (λ (k : Node). tree_at (with_cell g part t) k ≡ Some (with_cell g part t)) f refl
    tree_moved (a ∷ p) [] m t fits e = let f : [] ≡ m = same_some [] m e in subst (λ (k : Node).
        tree_at (with_node (with_cell g part) t (a ∷ p)) k ≡ Some (with_node (with_cell g part) t (a ∷ p))) f refl
    tree_moved [] (s ∷ ss) m t fits e =
        let (u, moves, f) = mapped (λ (w : Way). w ∷ ss) (past s) m e in
        subst (λ (k : Node). tree_at (with_cell g part t) k ≡ option_map (λ (v : Tree). v) (tree_at t (s ∷ ss))) f
        (ap (option_and_then (λ x. tree_at x ss)) (step-moved t (λ c. fits t c refl) s u moves) ∙ sym (map-id (tree_at t (s ∷ ss))))
    tree_moved (a ∷ p) (s ∷ ss) m t fits e = by_step (step_eq a s) refl e (tree_moved p ss)
      where
        by_step : (b : Bool) → step_eq a s ≡ b → (if b then option_map (λ (us : Node). s ∷ us) (moved_under p past ss) else Some (s ∷ ss)) ≡ Some m →
            ((k : Node) (v : Tree) → FitsAt v p → moved_under p past ss ≡ Some k → tree_at (with_node (with_cell g part) v p) k ≡ option_map (local p ss) (tree_at v ss)) →
            tree_at (with_node (with_cell g part) t (a ∷ p)) m ≡ option_map (λ (v : Tree). if b then local p ss v else v) (tree_at t (s ∷ ss))
        by_step true same e more =
            let (k, moves, f) = mapped (λ (us : Node). s ∷ us) (moved_under p past ss) m e in
            let way = step_eq-sound a s same in
            let H : Tree → Tree = λ x. with_node (with_cell g part) x p in
            let found = subst (λ (x : Way). slice_get (children_at (with_cell (with_child H a.1) a.0 t) x.0) x.1 ≡ option_map H (slice_get (children_at t x.0) x.1)) way (step-same H a t) in
            let below : (v : Tree) → slice_get (children_at t s.0) s.1 ≡ Some v → FitsAt v p = λ v child u c at' here.
            fits u c (ap (option_and_then (λ (x : Tree). tree_at x p)) (subst (λ (x : Way). slice_get (children_at t x.0) x.1 ≡ Some v) (sym way) child) ∙ at') here in
            subst (λ (x : Node). tree_at (with_node (with_cell g part) t (a ∷ p)) x ≡ option_map (local p ss) (tree_at t (s ∷ ss))) f
            (ap (option_and_then (λ x. tree_at x k)) found ∙ then-map H (λ x. tree_at x k) (λ x. tree_at x ss)
            (local p ss) (slice_get (children_at t s.0) s.1) (λ v child. more k v (below v child) moves))
        by_step false same e more =
            let f : s ∷ ss ≡ m = same_some (s ∷ ss) m e in
            subst (λ (x : Node). tree_at (with_node (with_cell g part) t (a ∷ p)) x ≡ option_map (λ (v : Tree). v) (tree_at t (s ∷ ss))) f
            (ap (option_and_then (λ x. tree_at x ss)) (step-other (λ x. with_node (with_cell g part) x p) a s t same) ∙ sym (map-id (tree_at t (s ∷ ss))))

    -- a node that is moved stands in something fixed where it did before
    pub planted_moved : (classes : Classes) (p n m : Node) (t : Tree) → FitsAt t p → moved_under p past n ≡ Some m
        → is_planted classes (with_node (with_cell g part) t p) m ≡ is_planted classes t n
    planted_moved classes [] [] m t fits e = let f : [] ≡ m = same_some [] m e in subst (λ (k : Node). is_planted classes (with_cell g part t) k ≡ false) f refl
    planted_moved classes (a ∷ p) [] m t fits e =
        let f : [] ≡ m = same_some [] m e in subst (λ (k : Node). is_planted classes (with_node (with_cell g part) t (a ∷ p)) k ≡ false) f refl
    planted_moved classes [] (s ∷ ss) m t fits e =
        let (u, moves, f) = mapped (λ (w : Way). w ∷ ss) (past s) m e in
        let same = class-same g part t in
        let ends = keeps.same s u moves in
        let found = step-moved t (λ c. fits t c refl) s u moves in
        subst (λ (k : Node). is_planted classes (with_cell g part t) k ≡ is_planted classes t (s ∷ ss)) f
        (λ i. is_fixed_part classes (same i) (ends i) || elim (found i) as (λ _. Bool) [ None ↦ false | Some w ↦ is_planted classes w ss ])
    planted_moved classes (a ∷ p) (s ∷ ss) m t fits e = by_step (step_eq a s) refl e (planted_moved classes p ss)
      where
        H : Tree → Tree
        H x = with_node (with_cell g part) x p

        same : class_of (with_node (with_cell g part) t (a ∷ p)) ≡ class_of t
        same = class-same (with_child H a.1) a.0 t

        through : (k : Node) (o : Option Tree) → ((v : Tree) → o ≡ Some v → is_planted classes (H v) k ≡ is_planted classes v ss)
            → elim (option_map H o) as (λ _. Bool) [ None ↦ false | Some w ↦ is_planted classes w k ] ≡ elim o as (λ _. Bool) [ None ↦ false | Some v ↦ is_planted classes v ss ]
        through k None h = refl
        through k (Some v) h = h v refl

        by_step : (b : Bool) → step_eq a s ≡ b → (if b then option_map (λ (us : Node). s ∷ us) (moved_under p past ss) else Some (s ∷ ss)) ≡ Some m →
            ((k : Node) (v : Tree) → FitsAt v p → moved_under p past ss ≡ Some k → is_planted classes (with_node (with_cell g part) v p) k ≡ is_planted classes v ss) →
            is_planted classes (with_node (with_cell g part) t (a ∷ p)) m ≡ is_planted classes t (s ∷ ss)
        by_step true is e more =
            let (k, moves, f) = mapped (λ (us : Node). s ∷ us) (moved_under p past ss) m e in
            let way = step_eq-sound a s is in
            let found = subst (λ (x : Way). slice_get (children_at (with_cell (with_child H a.1) a.0 t) x.0) x.1 ≡ option_map H (slice_get (children_at t x.0) x.1)) way (step-same H a t) in
            let below : (v : Tree) → slice_get (children_at t s.0) s.1 ≡ Some v → FitsAt v p = λ v child u c at' here.
            fits u c (ap (option_and_then (λ (x : Tree). tree_at x p)) (subst (λ (x : Way). slice_get (children_at t x.0) x.1 ≡ Some v) (sym way) child) ∙ at') here in
            let under = ap (λ (o : Option Tree). elim o as (λ _. Bool) [ None ↦ false | Some w ↦ is_planted classes w k ]) found
            ∙ through k (slice_get (children_at t s.0) s.1) (λ v child. more k v (below v child) moves) in
            subst (λ (x : Node). is_planted classes (with_node (with_cell g part) t (a ∷ p)) x ≡ is_planted classes t (s ∷ ss)) f
            (λ i. is_fixed_part classes (same i) s.0 || under i)
        by_step false is e more =
            let f : s ∷ ss ≡ m = same_some (s ∷ ss) m e in
            let other = step-other (λ x. with_node (with_cell g part) x p) a s t is in
            subst (λ (x : Node). is_planted classes (with_node (with_cell g part) t (a ∷ p)) x ≡ is_planted classes t (s ∷ ss)) f
            (λ i. is_fixed_part classes (same i) s.0 || elim (other i) as (λ _. Bool) [ None ↦ false | Some w ↦ is_planted classes w ss ])

    -- what stands in a cell, where it is the same in a cell with another child
    module _ {X : Type 0} (told : Option Cell → X) (child_told : (h : Tree → Tree) (i : ℕ) (c : Cell) → told (Some (with_child h i c)) ≡ told (Some c)) where
      cell_told : (k : Cell → Cell) (at' : ℕ) (v : Tree) (q : ℕ) → (at' ≡ q → (c : Cell) → cell_at v at' ≡ Some c
          → told (Some (k c)) ≡ told (Some c)) → told (cell_at (with_cell k at' v) q) ≡ told (cell_at v q)
      cell_told k at' v q same = by_nat at' q _ here (λ n. ap told (cell-other k at' q v n))
        where
          mapped_told : (o : Option Cell) → ((c : Cell) → o ≡ Some c → told (Some (k c)) ≡ told (Some c)) → told (option_map k o) ≡ told o
          mapped_told None h = refl
          mapped_told (Some c) h = h c refl

          here : at' ≡ q → told (cell_at (with_cell k at' v) q) ≡ told (cell_at v q)
          here e = subst (λ (x : ℕ). told (cell_at (with_cell k at' v) x) ≡ told (cell_at v x)) e (ap told (cell-same k at' v) ∙ mapped_told (cell_at v at') (same e))

      pub local_told : (p n : Node) (v : Tree) (q : ℕ) → ((node_eq p n && nat_eq part q) ≡ true → (c : Cell) → cell_at v
          part ≡ Some c → told (Some (g c)) ≡ told (Some c)) → told (cell_at (local p n v) q) ≡ told (cell_at v q)
      local_told [] [] v q same = cell_told g part v q (λ e. same (true_if part q e))
      local_told (a ∷ p) [] v q same = cell_told (with_child (λ x. with_node (with_cell g part) x p) a.1) a.0 v q (λ e c here. child_told (λ x. with_node (with_cell g part) x p) a.1 c)
      local_told [] (s ∷ ss) v q same = refl
      local_told (a ∷ p) (s ∷ ss) v q same = by_step (step_eq a s) same (local_told p ss v q)
        where
          by_step : (b : Bool) → (((b && node_eq p ss) && nat_eq part q) ≡ true → (c : Cell) → cell_at v part ≡ Some c → told (Some (g c)) ≡ told (Some c)) →
              (((node_eq p ss && nat_eq part q) ≡ true → (c : Cell) → cell_at v part ≡ Some c → told (Some (g c)) ≡ told (Some c)) → told (cell_at (local p ss v) q) ≡ told (cell_at v q)) →
              told (cell_at (if b then local p ss v else v) q) ≡ told (cell_at v q)
          by_step true h deeper = deeper h
          by_step false h deeper = refl

    pub local_class : (p n : Node) (v : Tree) → class_of (local p n v) ≡ class_of v
    local_class [] [] v = class-same g part v
    local_class (a ∷ p) [] v = class-same (with_child (λ x. with_node (with_cell g part) x p) a.1) a.0 v
    local_class [] (s ∷ ss) v = refl
    local_class (a ∷ p) (s ∷ ss) v = by_step (step_eq a s) (local_class p ss v)
      where
        by_step : (b : Bool) → class_of (local p ss v) ≡ class_of v → class_of (if b then local p ss v else v) ≡ class_of v
        by_step true h = h
        by_step false h = refl

    -- what is told of the tree at a node
    abbrev told_at : {X : Type 0} → X → (Tree → X) → Option Tree → X
    told_at d f o = elim o [ None ↦ d | Some u ↦ f u ]

    map_told : {X : Type 0} (d : X) (f : Tree → X) (h : Tree → Tree) (o : Option Tree) → ((v : Tree) → o ≡ Some v → f (h v) ≡ f v) → told_at d f (option_map h o) ≡ told_at d f o
    map_told d f h None same = refl
    map_told d f h (Some v) same = same v refl

    nodes_alike : (p n m : Node) (q : ℕ) (xs ys : List Tree) (i : ℕ) → length xs ≡ length ys
        → ((j : ℕ) → moved_under p past (n ++ (q, j) ∷ []) ≡ Some (m ++ (q, j) ∷ []))
        → ListLike (Names (moved_under p past)) (child_nodes n q i xs) (child_nodes m q i ys)
    nodes_alike p n m q [] [] i e h = alike.end
    nodes_alike p n m q [] (y ∷ ys) i e h = absurd (cc)
    nodes_alike p n m q (x ∷ xs) [] i e h = absurd (cc)
    nodes_alike p n m q (x ∷ xs) (y ∷ ys) i e h = alike.more (h i) (nodes_alike p n m q xs ys (suc i) (cc) h)

    none_alike : (p n m : Node) (q : ℕ) (xs ys : List Tree) (i : ℕ) → xs ≡ [] → ys ≡ [] → ListLike (Names (moved_under p past)) (child_nodes n q i xs) (child_nodes m q i ys)
    none_alike p n m q [] [] i e f = alike.end
    none_alike p n m q [] (y ∷ ys) i e f = absurd (cc)
    none_alike p n m q (x ∷ xs) ys i e f = absurd (cc)

    slots_alike : (p n m : Node) (q : ℕ) (o : Option Tree) → moved_under p past n ≡ Some m →
        ((node_eq p n && nat_eq part q) ≡ true → (u : Tree) (c : Cell) → o ≡ Some u → cell_at u part ≡ Some c → (children c ≡ []) × (children (g c) ≡ [])) →
        ListLike (Names (moved_under p past)) (elim o [ None ↦ [] | Some u ↦ child_nodes n q 0 (children_at u q) ])
        (elim (option_map (local p n) o) [ None ↦ [] | Some u ↦ child_nodes m q 0 (children_at u q) ])
    slots_alike p n m q None e h = alike.end
    slots_alike p n m q (Some v) e h = by_target (node_eq p n && nat_eq part q) refl
      where
        by_target : (b : Bool) → (node_eq p n && nat_eq part q) ≡ b → ListLike (Names (moved_under p past)) (child_nodes n q 0 (children_at v q)) (child_nodes m q 0 (children_at (local p n v) q))
        by_target false apart = nodes_alike p n m q (children_at v q) (children_at (local p n v) q) 0
            (sym (local_told (λ o. length (in_cell o)) (λ k i c. child-length k i c) p n v q (λ same. absurd (let f : true ≡ false = sym same ∙ apart in cc))))
            (λ j. moved_children past part keeps p n m (q, j) apart e)
        by_target true target =
            let after : in_cell (cell_at (local p n v) q) ≡ [] =
            no_items (local_told (λ o. length (in_cell o)) (λ k i c. child-length k i c) p n v q
            (λ same c here. let both = h target v c refl here in ap length both.1 ∙ sym (ap length both.0))) in
            none_alike p n m q (children_at v q) (children_at (local p n v) q) 0 before after
          where
            length_none : (xs : List Tree) → length xs ≡ 0 → xs ≡ []
            length_none [] f = refl
            length_none (x ∷ xs) f = absurd (cc)

            in_none : (o : Option Cell) → ((c : Cell) → o ≡ Some c → children c ≡ []) → in_cell o ≡ []
            in_none None k = refl
            in_none (Some c) k = k c refl

            q_is : part ≡ q
            q_is = second (node_eq p n) target
              where
                second : (b : Bool) → (b && nat_eq part q) ≡ true → part ≡ q
                second true f = grind (arith, nat_tests)
                second false f = absurd (cc)

            before : in_cell (cell_at v q) ≡ []
            before = in_none (cell_at v q) (λ c here. (h target v c refl (ap (cell_at v) q_is ∙ here)).0)

            no_items : length (in_cell (cell_at (local p n v) q)) ≡ length (in_cell (cell_at v q)) → in_cell (cell_at (local p n v) q) ≡ []
            no_items f = length_none (in_cell (cell_at (local p n v) q)) (f ∙ ap length before)

    parents_alike : (p n m : Node) → moved_under p past n ≡ Some m
        → OptionLike (λ (x y : Node × ℕ). Names (moved_under p past) x.0 y.0 × (x.1 ≡ y.1))
        (option_map (λ (x : Node × Way). let y : Node × ℕ = (x.0, x.1.0) in y) (parent_of n))
        (option_map (λ (x : Node × Way). let y : Node × ℕ = (x.0, x.1.0) in y) (parent_of m))
    parents_alike p n m e = by_end (snoc n)
      where
        by_end : (n ≡ []) ⊎ ((k : Node) × (s : Way) × (n ≡ k ++ s ∷ []))
            → OptionLike (λ (x y : Node × ℕ). Names (moved_under p past) x.0 y.0 × (x.1 ≡ y.1))
            (option_map (λ (x : Node × Way). let y : Node × ℕ = (x.0, x.1.0) in y) (parent_of n))
            (option_map (λ (x : Node × Way). let y : Node × ℕ = (x.0, x.1.0) in y) (parent_of m))
        by_end (inl none) =
            let f : [] ≡ m = same_some [] m (sym (moved-nil past p) ∙ ap (moved_under p past) (sym none) ∙ e) in
            let P : Node → Node → Type 0 = λ x y. OptionLike (λ (x y : Node × ℕ). Names (moved_under p past) x.0 y.0
            × (x.1 ≡ y.1)) (option_map (λ (x : Node × Way). let y : Node × ℕ = (x.0, x.1.0) in y) (parent_of x))
            (option_map (λ (x : Node × Way). let y : Node × ℕ = (x.0, x.1.0) in y) (parent_of y)) in
            subst (λ (x : Node). P x m) (sym none) (subst (λ (y : Node). P [] y) f alike.neither)
        by_end (inr (k, s, is)) =
            let moves = moved-snoc past part keeps p k s m (subst (λ (x : Node). moved_under p past x ≡ Some m) is e) in
            let P : Option (Node × Way) → Option (Node × Way)
            → Type 0 = λ x y. OptionLike (λ (x y : Node × ℕ). Names (moved_under p past) x.0 y.0 × (x.1 ≡ y.1))
            (option_map (λ (x : Node × Way). let y : Node × ℕ = (x.0, x.1.0) in y) x)
            (option_map (λ (x : Node × Way). let y : Node × ℕ = (x.0, x.1.0) in y) y) in
            let before = ap parent_of is ∙ parent_of-snoc k s in
            let after = ap parent_of moves.is ∙ parent_of-snoc moves.parent moves.step in
            subst (λ (x : Option (Node × Way)). P x (parent_of m)) (sym before) (subst (λ (y : Option (Node × Way)). P (Some (k, s)) y) (sym after) (alike.both (moves.up, sym moves.part_same)))

    abbrev index_at : Option (Node × Way) → ℕ
    index_at o = elim o [ None ↦ 0 | Some x ↦ x.1.1 ]

    indexes_alike : (p n m : Node) → moved_under p past n ≡ Some m → ((k : Node) (s : Way) → n ≡ k ++ s ∷ []
        → (node_eq p k && nat_eq part s.0) ≡ true → KeepsIndex past) → index_at (parent_of n) ≡ index_at (parent_of m)
    indexes_alike p n m e h = by_end (snoc n)
      where
        by_end : (n ≡ []) ⊎ ((k : Node) × (s : Way) × (n ≡ k ++ s ∷ [])) → index_at (parent_of n) ≡ index_at (parent_of m)
        by_end (inl none) =
            let f : [] ≡ m = same_some [] m (sym (moved-nil past p) ∙ ap (moved_under p past) (sym none) ∙ e) in
            ap (λ x. index_at (parent_of x)) none ∙ ap (λ x. index_at (parent_of x)) f
        by_end (inr (k, s, is)) =
            let moves = moved-snoc past part keeps p k s m (subst (λ (x : Node). moved_under p past x ≡ Some m) is e) in
            ap index_at (ap parent_of is ∙ parent_of-snoc k s) ∙ sym (moves.index_same (h k s is)) ∙ sym (ap index_at (ap parent_of moves.is ∙ parent_of-snoc moves.parent moves.step))

    -- the node itself stays, and its children in the cell go where their steps lead
    moved_self : (p : Node) → moved_under p past p ≡ Some p
    moved_self [] = refl
    moved_self (a ∷ p) = ap (λ (b : Bool). if b then option_map (λ (us : Node). a ∷ us) (moved_under p past p) else Some (a ∷ p)) (step_eq-refl a) ∙ ap (option_map (λ (us : Node). a ∷ us)) (moved_self p)

    moved_here : (p : Node) (s u : Way) → past s ≡ Some u → moved_under p past (p ++ s ∷ []) ≡ Some (p ++ u ∷ [])
    moved_here [] s u e = ap (option_map (λ (w : Way). w ∷ [])) e
    moved_here (a ∷ p) s u e =
        ap (λ (b : Bool). if b then option_map (λ (us : Node). a ∷ us) (moved_under p past (p ++ s ∷ [])) else Some (a ∷ (p ++ s ∷ []))) (step_eq-refl a)
        ∙ ap (option_map (λ (us : Node). a ∷ us)) (moved_here p s u e)

    pub local_here : (p : Node) (v : Tree) → local p p v ≡ with_cell g part v
    local_here [] v = refl
    local_here (a ∷ p) v = ap (λ (b : Bool). if b then local p p v else v) (step_eq-refl a) ∙ local_here p v

    -- what stands under a mark, where the change is not seen
    module _ (t : Tree) (p n m : Node) (q : ℕ) (key : Key) (k : ℕ) (v : Tree) (fits : FitsAt t p) (goes : moved_under p past n ≡ Some m) (found : tree_at t n ≡ Some v)
        (h : Unseen t p (Drawer n q key k)) where
      abbrev marked : Tree → Bool
      marked x = is_marked key k x

      abbrev Alike : List Node → List Node → Type 0
      Alike = ListLike (Names (moved_under p past))

      -- an element that is not in the changed cell
      same_mark : (j : ℕ) (x : Tree) → slice_get (children_at v q) j ≡ Some x → is_marked key k (local p (n ++ (q, j) ∷ []) x) ≡ is_marked key k x
      same_mark j x child =
          ap (λ (c : ℕ). stands_under key k c (token_in (cell_at (local p (n ++ (q, j) ∷ []) x) key.token))) (local_class p (n ++ (q, j) ∷ []) x)
          ∙ local_told (λ o. stands_under key k (class_of x) (token_in o)) (λ f i c. ap (stands_under key k (class_of x)) (child-token f i c)) p (n ++ (q, j) ∷ []) x key.token
          (λ same c here. h.1 j same x c (at_child t n (q, j) v found ∙ child) here)

      same_marks : (node_eq p n && nat_eq part q) ≡ false → (j : ℕ) → option_map marked (slice_get (children_at (local p n v) q) j) ≡ option_map marked (slice_get (children_at v q) j)
      same_marks apart j =
          let s : Way = (q, j) in
          let now : tree_at (with_node (with_cell g part) t p) m ≡ Some (local p n v) = tree_moved p n m t fits goes ∙ ap (option_map (local p n)) found in
          let child : tree_at (with_node (with_cell g part) t p) (m ++ s ∷ []) ≡ option_map (local p (n ++ s ∷ [])) (tree_at t (n ++ s ∷ [])) =
          tree_moved p (n ++ s ∷ []) (m ++ s ∷ []) t fits (moved_children past part keeps p n m s apart goes) in
          let is : slice_get (children_at (local p n v) q) j ≡ option_map (local p (n ++ s ∷ [])) (slice_get (children_at v q) j) =
          sym (at_child (with_node (with_cell g part) t p) m s (local p n v) now) ∙ child ∙ ap (option_map (local p (n ++ s ∷ []))) (at_child t n s v found) in
          ap (option_map marked) is ∙ tested marked (local p (n ++ s ∷ [])) (slice_get (children_at v q) j) (same_mark j)

      elsewhere : (node_eq p n && nat_eq part q) ≡ false → Alike (chosen_nodes marked n q 0 (children_at v q)) (chosen_nodes marked m q 0 (children_at (local p n v) q))
      elsewhere apart =
          let going : ℕ → ℕ → Type 0 = λ i j. moved_under p past (n ++ (q, i) ∷ []) ≡ Some (m ++ (q, j) ∷ []) in
          chosen_alike marked going (Names (moved_under p past)) n m q (λ i j e. e) 0 (children_at v q) 0 (children_at (local p n v) q)
          (each_there marked going 0 (children_at v q) (children_at (local p n v) q) (same_marks apart)
          (λ j x e. inl (moved_children past part keeps p n m (q, 0 + j) apart goes)))

      -- those in the changed cell
      in_place : (node_eq p n && nat_eq part q) ≡ true → Alike (chosen_nodes marked n q 0 (children_at v q)) (chosen_nodes marked m q 0 (children_at (local p n v) q))
      in_place target =
          let (x, y) = both (node_eq p n) (nat_eq part q) target in
          let at_n : p ≡ n = node_eq-sound p n x in
          let at_q : part ≡ q = grind (arith, nat_tests) in
          let at_m : p ≡ m = same_some p m (sym (moved_self p) ∙ ap (moved_under p past) at_n ∙ goes) in
          let there : tree_at t p ≡ Some v = ap (tree_at t) at_n ∙ found in
          let D : Node → Node → ℕ → Type 0 = λ a b r. Alike (chosen_nodes marked a r 0 (children_at v r)) (chosen_nodes marked b r 0 (children_at (local p a v) r)) in
          subst (λ (a : Node). D a m q) at_n (subst (λ (b : Node). D p b q) at_m (subst (λ (r : ℕ). D p p r) at_q (base there)))
        where
          by_cell : (o : Option Cell) → cell_at v part ≡ o → Alike (chosen_nodes marked p part 0 (in_cell o)) (chosen_nodes marked p part 0 (in_cell (option_map g o)))
          by_cell None here = alike.end
          by_cell (Some c) here = chosen_alike marked Goes (Names (moved_under p past)) p p part (λ i j e. moved_here p (part, i) (part, j) e) 0 (children c) 0 (children (g c))
              (h.0 target v c found here)

          base : tree_at t p ≡ Some v → Alike (chosen_nodes marked p part 0 (children_at v part)) (chosen_nodes marked p part 0 (children_at (local p p v) part))
          base there = subst (λ (ys : List Tree). Alike (chosen_nodes marked p part 0 (children_at v part)) (chosen_nodes marked p part 0 ys))
              (sym (ap (λ x. children_at x part) (local_here p v) ∙ ap in_cell (cell-same g part v))) (by_cell (cell_at v part) refl)

      drawn_alike : Alike (chosen_nodes marked n q 0 (children_at v q)) (chosen_nodes marked m q 0 (children_at (local p n v) q))
      drawn_alike = by_target (node_eq p n && nat_eq part q) refl
        where
          by_target : (b : Bool) → (node_eq p n && nat_eq part q) ≡ b → Alike (chosen_nodes marked n q 0 (children_at v q)) (chosen_nodes marked m q 0 (children_at (local p n v) q))
          by_target true target = in_place target
          by_target false apart = elsewhere apart

    drawers_alike : (t : Tree) (p n m : Node) (q : ℕ) (key : Key) (k : ℕ) → FitsAt t p → moved_under p past n ≡ Some m → Unseen t p (Drawer n q key k) → (o : Option Tree) → tree_at t n ≡ o
        → ListLike (Names (moved_under p past)) (elim o [ None ↦ [] | Some u ↦ chosen_nodes (is_marked key k) n q 0 (children_at u q) ])
        (elim (option_map (local p n) o) [ None ↦ [] | Some u ↦ chosen_nodes (is_marked key k) m q 0 (children_at u q) ])
    drawers_alike t p n m q key k fits goes h None found = alike.end
    drawers_alike t p n m q key k fits goes h (Some v) found = drawn_alike t p n m q key k v fits goes found h

    -- the trees are alike wherever the change is not seen
    pub cell_alike : (t : Tree) (p : Node) → FitsAt t p → (l m : Location Node) (s : LocationLike (Names (moved_under p past)) l m) → Unseen t p l →
        ContentLike (Names (moved_under p past)) s (content t l) (content (with_node (with_cell g part) t p) m)
    cell_alike t p fits l m (alike.is {n = n} {m = k} r) h = sym (ap (told_at 0 class_of) (tree_moved p n k t fits r) ∙ map_told 0 class_of (local p n) (tree_at t n) (λ v found. local_class p n v))
    cell_alike t p fits l m (alike.tok {n = n} {m = k} q r) h =
        sym (ap (told_at (trees.Truth false) (λ u. token_in (cell_at u q))) (tree_moved p n k t fits r) ∙
        map_told (trees.Truth false) (λ u. token_in (cell_at u q)) (local p n) (tree_at t n) (λ v found. local_told token_in child-token p n v q (λ same c here. h same v c found here)))
    cell_alike t p fits l m (alike.slot {n = n} {m = k} q r) h =
        let P : Option Tree → Type 0 = λ o. ListLike (Names (moved_under p past)) (content t (Slot n q)) (elim o [ None ↦ [] | Some u ↦ child_nodes k q 0 (children_at u q) ]) in
        subst P (sym (tree_moved p n k t fits r)) (slots_alike p n k q (tree_at t n) r h)
    cell_alike t p fits l m (alike.up {n = n} {m = k} r) h = parents_alike p n k r
    cell_alike t p fits l m (alike.idx {n = n} {m = k} r) h = indexes_alike p n k r h
    cell_alike t p fits l m (alike.drawer {n = n} {m = k} q key mark r) h =
        let P : Option Tree → Type 0 = λ o. ListLike (Names (moved_under p past)) (content t (Drawer n q key mark))
        (elim o [ None ↦ [] | Some u ↦ chosen_nodes (is_marked key mark) k q 0 (children_at u q) ]) in
        subst P (sym (tree_moved p n k t fits r)) (drawers_alike t p n k q key mark fits r h (tree_at t n) refl)

    -- what stands at a node that is not above the change stays
    local-same : (p n : Node) (v : Tree) → is_within n p ≡ false → local p n v ≡ v
    local-same p [] v h = absurd (cc)
    local-same [] (s ∷ ss) v h = refl
    local-same (a ∷ p) (s ∷ ss) v h = by_step (step_eq a s) refl (local-same p ss v)
      where
        by_step : (b : Bool) → step_eq a s ≡ b → (is_within ss p ≡ false → local p ss v ≡ v) → (if b then local p ss v else v) ≡ v
        by_step false e same = refl
        by_step true e same =
            let way = step_eq-sound a s e in
            let f : step_eq s s ≡ true = subst (λ (x : Way). step_eq x s ≡ true) way e in
            let g : (step_eq s s && is_within ss p) ≡ false = subst (λ (x : Way). (step_eq s x && is_within ss p) ≡ false) way h in
            same (sym (ap (λ b. b && is_within ss p) f) ∙ g)

    -- a node that is moved is there again, and is the same tree where the change is elsewhere
    pub cell_there : (t : Tree) (p n m : Node) (v : Tree) → FitsAt t p → moved_under p past n ≡ Some m → tree_at t n ≡ Some v →
        (w : Tree) × (tree_at (with_node (with_cell g part) t p) m ≡ Some w) × (class_of w ≡ class_of v) × (is_within n p ≡ false → w ≡ v)
    cell_there t p n m v fits e found = (local p n v, tree_moved p n m t fits e ∙ ap (option_map (local p n)) found, local_class p n v, local-same p n v)
