-- What each step of planting leaves.
use Rattle.std.proofs.Common.{◌≡◌, ℕ, ◌+◌, suc, length, List, [], ◌∷◌, ◌++◌, Option, Some, refl, sym, ap, ◌∙◌, subst, arith, append_assoc}
use Rattle.std.specs.Prelude.{Result, Ok, Err, OnOk, OnErr}
use Rattle.std.proofs.lemmas.List.{append-nil}
use Rattle.at_model.specs.Trees.{Tree, Cells, Cell, Many, Node as branch, no_cells, cell, no_trees, children, to_cells, from_cells, to_trees, cells_of, class_of}
use Rattle.at_model.proofs.of_edits.Untouched.{from_to_cells}
use Rattle.at_store.specs.Numbers.{relabel, relabel_cells, relabel_cell}
use Rattle.at_store.specs.Memory.{Form, Plain, List_of, Optional, Info, Kept, Kids, kept, Place, class_in, IsFreed}
use Rattle.at_store.specs.Planting.{IsPlanted, added, holding, IsAsBefore, IsAdded, IsPushed, IsPushedKid, GainsCell, GainsTree, StaysPlanted}
use Rattle.at_store.proofs.of_planting.Planted.{planted_first, unplanted}
use Rattle.at_store.proofs.of_planting.Filled.{planted_childless, planted_child, planted_next}

pub on_ok : {T E P Q : Type 0} (r : Result T E) → (P → Q) → OnOk r P → OnOk r Q
on_ok (Ok x) f h = f h
on_ok (Err e) f h = tt

pub on_err : {T E P Q : Type 0} (r : Result T E) → (P → Q) → OnErr r P → OnErr r Q
on_err (Ok x) f h = tt
on_err (Err e) f h = f h

pub at_err : {T E P : Type 0} (r : Result T E) → P → OnErr r P
at_err (Ok x) h = tt
at_err (Err e) h = h

-- as many components
same_count : (f : ℕ → ℕ) (cs : Cells) → length (from_cells (relabel_cells f cs)) ≡ length (from_cells cs)
same_count f no_cells = refl
same_count f (cell c cs) = ap suc (same_count f cs)

parts_same : (f : ℕ → ℕ) (k : ℕ) (cells : Cells) (t : Tree) → relabel f (branch k cells) ≡ t → length (from_cells (cells_of t)) ≡ length (from_cells cells)
parts_same f k cells t e = ap (λ z. length (from_cells (cells_of z))) (sym e) ∙ same_count f cells

-- a memory that is as before holds what it held
pub planted_still : (first before later : ℕ → Option Info) (place : Place) (t w : Tree) → IsAsBefore before later → IsPlanted first before place t w → IsPlanted first later place t w
planted_still first before later place t w same h = subst (λ m. IsPlanted first m place t w) (λ i k. sym (same k) i) h

pub stays_same : (node part : ℕ) (before later : ℕ → Option Info) → IsAsBefore before later → StaysPlanted node part before later
stays_same node part before later same first place t cells len h = (t, cells, planted_still first before later place t (branch node cells) same h)

-- a component with no child
pub gains_childless : (node part : ℕ) (more : Cell) (c : Kept) (before later : ℕ → Option Info) → c ≡ kept more
    → children more ≡ [] → ((f : ℕ → ℕ) → relabel_cell f more ≡ more) → IsPushed node c before later
    → GainsCell node part more before later
gains_childless node part more c before later is none keeps pushed first place t cells len h =
    (more, planted_childless first before before later place node cells t h more (subst (λ x. IsPushed node x before later) is pushed) none (λ j. refl) keeps)

-- a component with one child
held_kept : (form : Form) (w : Tree) → Kids form (class_of w ∷ []) ≡ kept (holding form w)
held_kept Plain w = refl
held_kept List_of w = refl
held_kept Optional w = refl

held_one : (form : Form) (w : Tree) → children (holding form w) ≡ w ∷ []
held_one Plain w = refl
held_one List_of w = refl
held_one Optional w = refl

held_relabelled : (form : Form) (w : Tree) (f : ℕ → ℕ) → relabel_cell f (holding form w) ≡ holding form (relabel f w)
held_relabelled Plain w f = refl
held_relabelled List_of w f = refl
held_relabelled Optional w f = refl

pub gains_child : (node part kid : ℕ) (form : Form) (u w : Tree) (before mid later : ℕ → Option Info) → class_of w ≡ kid
    → IsPlanted before mid (Some (node, part), 0) u w → IsPushed node (Kids form (kid ∷ [])) mid later
    → GainsCell node part (holding form u) before later
gains_child node part kid form u w before mid later number p pushed first place t cells len h = (
  holding form w,
  planted_child first before mid later place node cells t h (holding form w) (subst (λ x. IsPushed node x mid later) (ap (λ k. Kids form (k ∷ [])) (sym number) ∙ held_kept form w) pushed)
      w u (subst (λ (n : ℕ). IsPlanted before mid (Some (node, n), 0) u w) (sym len) p) (held_one form w) (holding form) refl (held_relabelled form w),
)

-- one more element
pub gains_tree : (node part index kid : ℕ) (u w : Tree) (before mid later : ℕ → Option Info) → class_of w ≡ kid
    → IsPlanted before mid (Some (node, part), index) u w → IsPushedKid node part kid mid later
    → GainsTree node part index u before later
gains_tree node part index kid u w before mid later number p pushed first place t cells us ws len parts lu lw h = (
  w,
  planted_next first before mid later place node cells t us ws (lu ∙ sym lw) (parts ∙ sym len) h u w
      (subst (λ (n : ℕ). IsPlanted before mid (Some (node, n), length ws) u w) (sym len) (subst (λ (n : ℕ). IsPlanted before mid (Some (node, part), n) u w) (sym lw) p))
      (subst (λ (n : ℕ). IsPushedKid node n (class_of w) mid later) (sym len) (subst (λ (n : ℕ). IsPushedKid node part n mid later) (sym number) pushed)),
)

-- the list that is planted so far
abbrev pub HasTrees : (node part : ℕ) → List Tree → (before later : ℕ → Option Info) → Type 0
HasTrees node part us before later = (first : ℕ → Option Info) (place : Place) (t : Tree) (cells : Cells) → length (from_cells cells) ≡ part → IsPlanted first before place t (branch node cells) →
    (ws : List Tree) × (length ws ≡ length us) × IsPlanted first later place (added (Many (to_trees us)) t) (added (Many (to_trees ws)) (branch node cells))

pub has_none : (node part : ℕ) (c : Kept) (before later : ℕ → Option Info) → c ≡ Kids List_of [] → IsPushed node c before later → HasTrees node part [] before later
unfolding gains_childless
has_none node part c before later is pushed first place t cells len h = ([], refl, (gains_childless node part (Many no_trees) c before later is refl (λ f. refl) pushed first place t cells len h).1)

length_more : {A B : Type 0} (ws : List A) (us : List B) (w : A) (u : B) → length ws ≡ length us → length (ws ++ w ∷ []) ≡ length (us ++ u ∷ [])
length_more [] [] w u e = refl
length_more [] (y ∷ us) w u e = absurd cc
length_more (x ∷ ws) [] w u e = absurd cc
length_more (x ∷ ws) (y ∷ us) w u e = let f : length ws ≡ length us = cc in ap suc (length_more ws us w u f)

pub has_more : (node part index : ℕ) (us : List Tree) (u : Tree) (before mid later : ℕ → Option Info)
    → length us ≡ index → HasTrees node part us before mid → GainsTree node part index u mid later
    → HasTrees node part (us ++ u ∷ []) before later
has_more node part index us u before mid later count has gains first place t cells len h =
    let (ws, same, p) = has first place t cells len h in
    let (w, q) = gains first place t cells us ws len (parts_same (class_in before) node cells t h.classes ∙ len) count (same ∙ count) p in
    (ws ++ w ∷ [], length_more ws us w u same, q)

pub has_whole : (node part : ℕ) (us : List Tree) (before later : ℕ → Option Info) → HasTrees node part us before later → GainsCell node part (Many (to_trees us)) before later
has_whole node part us before later has first place t cells len h = let (ws, same, p) = has first place t cells len h in (Many (to_trees ws), p)

pub has_stayed : (node part : ℕ) (us : List Tree) (before mid later : ℕ → Option Info) → HasTrees node part us before mid → IsAsBefore mid later → StaysPlanted node part before later
has_stayed node part us before mid later has same first place t cells len h =
    let (ws, count, p) = has first place t cells len h in (
      added (Many (to_trees us)) t,
      to_cells (from_cells cells ++ Many (to_trees ws) ∷ []),
      planted_still first mid later
          place (added (Many (to_trees us)) t) (added (Many (to_trees ws)) (branch node cells)) same p,
    )

-- what is planted so far of the node, component by component
abbrev pub HasCells : (node class : ℕ) → Place → List Cell → (part : ℕ) → (before later : ℕ → Option Info) → Type 0
HasCells node class place cs part before later = (cells : Cells) × (length (from_cells cells) ≡ part) × IsPlanted before later place (branch class (to_cells cs)) (branch node cells)

pub cells_first : (node class : ℕ) (place : Place) (before later : ℕ → Option Info) → IsAdded node class place before later → HasCells node class place [] 0 before later
cells_first node class place before later h = (no_cells, refl, planted_first before later place node class h.0 h.1)

length_snoc : {A : Type 0} (xs : List A) (x : A) → length (xs ++ x ∷ []) ≡ suc (length xs)
length_snoc [] x = refl
length_snoc (y ∷ ys) x = ap suc (length_snoc ys x)

pub cells_more : (node class : ℕ) (place : Place) (cs : List Cell) (c : Cell) (part : ℕ)
    (before mid later : ℕ → Option Info) → HasCells node class place cs part before mid
    → GainsCell node part c mid later → HasCells node class place (cs ++ c ∷ []) (suc part) before later
cells_more node class place cs c part before mid later (cells, len, h) gains =
    let (more, p) = gains before place (branch class (to_cells cs)) cells len h in (
      to_cells (from_cells cells ++ more ∷ []),
      ap length (from_to_cells (from_cells cells ++ more ∷ [])) ∙ length_snoc (from_cells cells) more ∙ ap suc len,
      subst (λ xs. IsPlanted before later place (branch class (to_cells (xs ++ c ∷ []))) (branch node (to_cells (from_cells cells ++ more ∷ [])))) (from_to_cells cs) p,
    )

-- what is planted so far is taken out again
pub cells_freed : (node class : ℕ) (place : Place) (cs : List Cell) (part : ℕ) (before mid later free : ℕ → Option Info)
    → HasCells node class place cs part before mid → StaysPlanted node part mid later → IsFreed node later free
    → IsAsBefore before free
cells_freed node class place cs part before mid later free (cells, len, h) stays freed =
    let (u, more, p) = stays before place (branch class (to_cells cs)) cells len h in
    unplanted before later free place u (branch node more) p (freed place (branch node more) refl p.apart p.stored)

pub tree_freed : (kid : ℕ) (place : Place) (u w : Tree) (before mid later free : ℕ → Option Info) → class_of w ≡ kid
    → IsPlanted before mid place u w → IsAsBefore mid later → IsFreed kid later free → IsAsBefore before free
tree_freed kid place u w before mid later free number p same freed =
    let q = planted_still before mid later place u w same p in
    unplanted before later free place u w q (freed place w number q.apart q.stored)

-- The loops over what is given: these are planted, and those are still to come.
next : (n : ℕ) → suc n ≡ n + 1
next n = omega arith

abbrev pub HasFirstCells : (node class : ℕ) → Place → (all rest : List Cell) → (part : ℕ) → (before later : ℕ → Option Info) → Type 0
HasFirstCells node class place all rest part before later = (cs : List Cell) × (all ≡ cs ++ rest) × HasCells node class place cs part before later

pub cells_begun : (node class : ℕ) (place : Place) (all : List Cell) (part : ℕ) (before later : ℕ → Option Info)
    → part ≡ 0 → IsAdded node class place before later → HasFirstCells node class place all all part before later
cells_begun node class place all part before later none added = ([], refl, subst (λ (n : ℕ). HasCells node class place [] n before later) (sym none) (cells_first node class place before later added))

pub cells_on : (node class : ℕ) (place : Place) (all rest : List Cell) (c : Cell) (part next_part : ℕ)
    (before mid later : ℕ → Option Info) → next_part ≡ part + 1
    → HasFirstCells node class place all (c ∷ rest) part before mid → GainsCell node part c mid later →
    HasFirstCells node class place all rest next_part before later
cells_on node class place all rest c part next_part before mid later count (cs, is, has) gains = (
  cs ++ c ∷ [],
  is ∙ sym (append_assoc cs (c ∷ []) rest),
  subst (λ (n : ℕ). HasCells node class place (cs ++ c ∷ []) n before later) (next part ∙ sym count) (cells_more node class place cs c part before mid later has gains),
)

pub cells_given_up : (node class : ℕ) (place : Place) (all rest : List Cell) (part : ℕ)
    (before mid later free : ℕ → Option Info) → HasFirstCells node class place all rest part before mid
    → StaysPlanted node part mid later → IsFreed node later free → IsAsBefore before free
cells_given_up node class place all rest part before mid later free (cs, is, has) stays freed = cells_freed node class place cs part before mid later free has stays freed

pub cells_whole : (node class : ℕ) (place : Place) (all rest : List Cell) (part : ℕ) (u : Tree)
    (before later : ℕ → Option Info) → rest ≡ [] → u ≡ branch class (to_cells all)
    → HasFirstCells node class place all rest part before later →
    (w : Tree) × (class_of w ≡ node) × IsPlanted before later place u w
cells_whole node class place all rest part u before later none is (cs, whole, (cells, len, h)) = (
  branch node cells,
  refl,
  subst (λ z. IsPlanted before later place z (branch node cells)) (ap (λ ys.
      branch class (to_cells ys)) (sym (append-nil cs) ∙ ap (λ ys. cs ++ ys) (sym none) ∙ sym whole) ∙ sym is) h,
)

abbrev pub HasFirstTrees : (node part : ℕ) → (all rest : List Tree) → (index : ℕ) → (before later : ℕ → Option Info) → Type 0
HasFirstTrees node part all rest index before later = (us : List Tree) × (all ≡ us ++ rest) × (length us ≡ index) × HasTrees node part us before later

pub trees_begun : (node part : ℕ) (c : Kept) (all : List Tree) (index : ℕ) (before later : ℕ → Option Info) → index ≡ 0
    → c ≡ Kids List_of [] → IsPushed node c before later → HasFirstTrees node part all all index before later
trees_begun node part c all index before later none is pushed = ([], refl, sym none, has_none node part c before later is pushed)

pub trees_on : (node part : ℕ) (all rest : List Tree) (u : Tree) (index next_index : ℕ)
    (before mid later : ℕ → Option Info) → next_index ≡ index + 1
    → HasFirstTrees node part all (u ∷ rest) index before mid → GainsTree node part index u mid later →
    HasFirstTrees node part all rest next_index before later
trees_on node part all rest u index next_index before mid later count (us, is, len, has) gains = (
  us ++ u ∷ [],
  is ∙ sym (append_assoc us (u ∷ []) rest),
  length_snoc us u ∙ ap suc len ∙ next index ∙ sym count,
  has_more node part index us u before mid later len has gains,
)

pub trees_given_up : (node part : ℕ) (all rest : List Tree) (index : ℕ) (before mid later : ℕ → Option Info)
    → HasFirstTrees node part all rest index before mid → IsAsBefore mid later → StaysPlanted node part before later
trees_given_up node part all rest index before mid later (us, is, len, has) same = has_stayed node part us before mid later has same

pub trees_whole : (node part : ℕ) (all rest : List Tree) (index : ℕ) (before later : ℕ → Option Info) → rest ≡ []
    → HasFirstTrees node part all rest index before later → GainsCell node part (Many (to_trees all)) before later
trees_whole node part all rest index before later none (us, whole, len, has) =
    has_whole node part all before later (subst (λ (ys : List Tree). HasTrees node part ys before later) (sym (append-nil us) ∙ ap (λ ys. us ++ ys) (sym none) ∙ sym whole) has)
