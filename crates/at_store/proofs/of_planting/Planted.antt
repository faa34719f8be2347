-- A tree is planted node by node.
use Rattle.std.proofs.Common.{◌≡◌, ℕ, suc, Bool, true, false, nat_eq, cond, [], ◌∷◌, Option, Some, None, ◌⊎◌, inl, inr, refl, sym, ap, ◌∙◌, subst, option_and_then, is_some}
use Rattle.std.specs.Prelude.{map}
use Rattle.std.specs.List.{slice_get}
use Rattle.std.proofs.lemmas.Bool.{eqb-true, eq-eqb}
use Rattle.at_model.specs.Trees.{Tree, Cells, Cell, Trees, Node as branch, no_cells, cell, One, Many, Empty, Filled, Holds, no_trees, tree, class_of, children, from_cells, from_trees}
use Rattle.at_model.specs.Paths.{Node, tree_at, children_at}
use Rattle.at_model.proofs.Options.{led}
use Rattle.at_model.proofs.of_edits.Moving.{Way}
use Rattle.at_store.specs.Numbers.{relabel, relabel_cells, relabel_cell, relabel_trees, path_in, IsApart}
use Rattle.at_store.specs.Memory.{Info, kept, Place, top, IsKept, Stored, Keeps, class_in}
use Rattle.at_store.specs.Planting.{IsPlanted}
use Rattle.at_store.proofs.Found.{number_found, met, got, below, below_cells}
use Rattle.at_store.proofs.of_planting.Composed.{child_stored, stored_node, apart_node}
use Rattle.at_store.proofs.of_planting.Freeing.{child_apart}

-- where two functions agree on the numbers of a tree, so do the trees that they make of it
abbrev Agree : (f g : ℕ → ℕ) → Option Tree → Type 0
Agree f g o = (u : Tree) → o ≡ Some u → f (class_of u) ≡ g (class_of u)

module _ (f g : ℕ → ℕ) where
  mutual
    pub relabel_same : (t : Tree) → ((n : Node) → Agree f g (tree_at t n)) → relabel f t ≡ relabel g t
    relabel_same (branch k cells) h = λ i. branch (h [] (branch k cells) refl i) (cells_same cells (λ part j n. h ((part, j) ∷ n)) i)

    cells_same : (cs : Cells) → ((part i : ℕ) (n : Node) → Agree f g (below_cells cs part i n)) → relabel_cells f cs ≡ relabel_cells g cs
    cells_same no_cells h = refl
    cells_same (cell c cs) h = λ i. cell (cell_same c (λ j n. h 0 j n) i) (cells_same cs (λ part j n. h (suc part) j n) i)

    cell_same : (c : Cell) → ((i : ℕ) (n : Node) → Agree f g (below (children c) i n)) → relabel_cell f c ≡ relabel_cell g c
    cell_same (One t) h = ap One (relabel_same t (λ n. h 0 n))
    cell_same (Many ts) h = ap Many (trees_same ts h)
    cell_same Empty h = refl
    cell_same (Filled t) h = ap Filled (relabel_same t (λ n. h 0 n))
    cell_same (Holds v) h = refl

    trees_same : (ts : Trees) → ((i : ℕ) (n : Node) → Agree f g (below (from_trees ts) i n)) → relabel_trees f ts ≡ relabel_trees g ts
    trees_same no_trees h = refl
    trees_same (tree t ts) h = λ i. tree (relabel_same t (λ n. h 0 n) i) (trees_same ts (λ j n. h (suc j) n) i)

not_some : (o : Option Info) (i : Info) → o ≡ Some i → o ≡ None → ⊥
not_some o i e f = let g : Some i ≡ None = sym e ∙ f in cc

-- a number that stands nowhere
nowhere : (t : Tree) (k : ℕ) → ((n : Node) (v : Tree) → tree_at t n ≡ Some v → class_of v ≡ k → ⊥) → is_some (path_in k t) ≡ false
nowhere t k h = by_path (path_in k t) refl
  where
    by_path : (o : Option Node) → path_in k t ≡ o → is_some o ≡ false
    by_path None e = refl
    by_path (Some n) e = let (v, is, number) = number_found t k n e in absurd (h n v is number)

outside : (t : Tree) (k : ℕ) → is_some (path_in k t) ≡ false → (n : Node) (v : Tree) → tree_at t n ≡ Some v → class_of v ≡ k → ⊥
outside t k none n v is number = let f : true ≡ false = sym (met k t n (v, is, number)) ∙ none in cc

-- what is planted is taken out again
pub unplanted : (before after later : ℕ → Option Info) (place : Place) (t w : Tree) → IsPlanted before after place t w
    → ((k : ℕ) → later k ≡ cond (is_some (path_in k w)) None (after k)) → (k : ℕ) → later k ≡ before k
unplanted before after later place t w h freed k = freed k ∙ by_test (is_some (path_in k w)) refl
  where
    by_test : (b : Bool) → is_some (path_in k w) ≡ b → cond b None (after k) ≡ before k
    by_test true e = sym (h.fresh k e)
    by_test false e = h.rest k e

-- what is planted beside a tree waits
pub planted_waits : (before after : ℕ → Option Info) (s t w : Tree) → Keeps before s None → IsPlanted before after top t w → Keeps after s (Some w)
planted_waits before after s t w h p = record {
  stored = λ n v is. (let k = h.stored n v is in record { class = k.class; is = p.rest (class_of v) (apart_from n v is) ∙ k.is });
  apart = h.apart;
  waits = (p.stored, (p.apart, λ k n is. none_there k n is));
  covered = covered;
  shallow = h.shallow;
}
  where
    apart_from : (n : Node) (v : Tree) → tree_at s n ≡ Some v → is_some (path_in (class_of v) w) ≡ false
    apart_from n v is = nowhere w (class_of v) (λ m x at' same. not_some (before (class_of v)) _ (h.stored n v is).is (p.fresh (class_of v) (met (class_of v) w m (x, at', same))))

    none_there : (k : ℕ) (n : Node) → path_in k s ≡ Some n → path_in k w ≡ None
    none_there k n e = by_path (path_in k w) (let (v, is, number) = number_found s k n e in subst (λ j. is_some (path_in j w) ≡ false) number (apart_from n v is))
      where
        by_path : (o : Option Node) → is_some o ≡ false → o ≡ None
        by_path None e = refl
        by_path (Some n) e = absurd cc

    covered : (k : ℕ) (i : Info) → after k ≡ Some i → (is_some (path_in k s) ≡ true) ⊎ (is_some (path_in k w) ≡ true)
    covered k i e = by_test (is_some (path_in k w)) refl
      where
        by_test : (b : Bool) → is_some (path_in k w) ≡ b → (is_some (path_in k s) ≡ true) ⊎ (b ≡ true)
        by_test true f = inr refl
        by_test false f = elim (h.covered k i (sym (p.rest k f) ∙ e)) [
          | inl there ↦ inl there
          | inr there ↦ (let g : false ≡ true = there in absurd cc)
        ]

-- a node with no component yet
pub planted_first : (before after : ℕ → Option Info) (place : Place) (k class : ℕ) → before k ≡ None → ((j : ℕ) → after
    j ≡ cond (nat_eq j k) (Some (record { class = class; up = place.0; index = place.1; cells = [] })) (before j)) →
    IsPlanted before after place (branch class no_cells) (branch k no_cells)
planted_first before after place k class free added = record {
  stored = stored_node k no_cells after place (record { class = class; is = here }) (λ w x child. absurd (let f : None ≡ Some x = child in cc));
  apart = apart_node k no_cells (λ w x child. absurd (let f : None ≡ Some x = child in cc)) (λ w r x y n m u v child other is at' same. absurd (let f : None ≡ Some x = child in cc));
  fresh = λ j there. subst (λ z. before z ≡ None) (sym (only j there)) free;
  rest = λ j none. added j ∙ ap (λ b. cond b (Some (record { class = class; up = place.0; index = place.1; cells = [] })) (before j)) (other j (nat_eq j k) refl none);
  classes = λ i. branch (ap (λ o. elim o as (λ _. ℕ) [ None ↦ 0 | Some i ↦ i.class ]) here i) no_cells;
}
  where
    here : after k ≡ Some (record { class = class; up = place.0; index = place.1; cells = [] })
    here = added k ∙ ap (λ b. cond b (Some (record { class = class; up = place.0; index = place.1; cells = [] })) (before k)) (eq-eqb k k refl)

    only : (j : ℕ) → is_some (path_in j (branch k no_cells)) ≡ true → j ≡ k
    only j there = let (n, e) = got (path_in j (branch k no_cells)) there in let (v, is, number) = number_found (branch k no_cells) j n e in at_path n v is number
      where
        at_path : (n : Node) (v : Tree) → tree_at (branch k no_cells) n ≡ Some v → class_of v ≡ j → j ≡ k
        at_path [] v is number = let f : branch k no_cells ≡ v = cc in sym number ∙ ap class_of (sym f)
        at_path (r ∷ n) v is number = absurd (let f : None ≡ Some v = is in cc)

    other : (j : ℕ) (b : Bool) → nat_eq j k ≡ b → is_some (path_in j (branch k no_cells)) ≡ false → nat_eq j k ≡ false
    other j true e none = absurd (outside (branch k no_cells) j none [] (branch k no_cells) refl (sym (eqb-true j k e)))
    other j false e none = e

-- The node k gets more children: those there are stay, and what is more stands below it. Between the two a tree may have been planted.
module _ (a b c d : ℕ → Option Info) (place : Place) (k : ℕ) (cells next : Cells) (t : Tree) (h : IsPlanted a b place t (branch k cells)) (IsMore : Way → Tree → Type 0)
    (one : (r q : Way) (x y : Tree) → IsMore r x → IsMore q y → r ≡ q)
    (more_stored : (r : Way) (y : Tree) → IsMore r y → Stored c (Some (k, r.0), r.1) y)
    (more_apart : (r : Way) (y : Tree) → IsMore r y → IsApart y)
    (more_fresh : (r : Way) (y : Tree) → IsMore r y → (n : Node) (v : Tree) → tree_at y n ≡ Some v → b (class_of v) ≡ None)
    (more_rest : (i : ℕ) → ((r : Way) (y : Tree) → IsMore r y → is_some (path_in i y) ≡ false) → c i ≡ b i)
    (kids_old : (r : Way) (y : Tree) → slice_get (children_at (branch k cells) r.0) r.1 ≡ Some y → slice_get (children_at (branch k next) r.0) r.1 ≡ Some y)
    (kids_more : (r : Way) (y : Tree) → IsMore r y → slice_get (children_at (branch k next) r.0) r.1 ≡ Some y)
    (kids_from : (r : Way) (y : Tree) → slice_get (children_at (branch k next) r.0) r.1 ≡ Some y → (slice_get (children_at (branch k cells) r.0) r.1 ≡ Some y) ⊎ IsMore r y)
    (at_root : (i : Info) → c k ≡ Some i → i.cells ≡ map kept (from_cells cells) → d k ≡ Some (record i { cells = map kept (from_cells next) }))
    (at_rest : (i : ℕ) → (i ≡ k → ⊥) → d i ≡ c i) where
  abbrev old : Tree
  old = branch k cells

  abbrev new : Tree
  new = branch k next

  not_more : (n : Node) (v : Tree) → tree_at old n ≡ Some v → (r : Way) (y : Tree) → IsMore r y → (m : Node) (x : Tree) → tree_at y m ≡ Some x → class_of x ≡ class_of v → ⊥
  not_more n v is r y more m x at' same = not_some (b (class_of v)) _ (h.stored n v is).is (ap b (sym same) ∙ more_fresh r y more m x at')

  kept_between : (n : Node) (v : Tree) → tree_at old n ≡ Some v → c (class_of v) ≡ b (class_of v)
  kept_between n v is = more_rest (class_of v) (λ r y more. nowhere y (class_of v) (λ m x at' same. not_more n v is r y more m x at' same))

  below_old : (r : Way) (y : Tree) → slice_get (children_at old r.0) r.1 ≡ Some y → (n : Node) (v : Tree) → tree_at y n ≡ Some v → tree_at old (r ∷ n) ≡ Some v
  below_old r y child n v is = ap (option_and_then (λ z. tree_at z n)) child ∙ is

  not_root : (r : Way) (y : Tree) → slice_get (children_at old r.0) r.1 ≡ Some y → (n : Node) (v : Tree) → tree_at y n ≡ Some v → class_of v ≡ k → ⊥
  not_root r y child n v is same = let e : r ∷ n ≡ [] = h.apart (r ∷ n) [] v old (below_old r y child n v is) refl same in cc

  abbrev root_is : (x : IsKept b k place (map kept (from_cells cells))) → IsKept d k place (map kept (from_cells next))
  root_is x = record { class = x.class; is = at_root _ (kept_between [] old refl ∙ x.is) refl }

  more_left : (r : Way) (y : Tree) → IsMore r y → (n : Node) (v : Tree) → tree_at y n ≡ Some v → d (class_of v) ≡ c (class_of v)
  more_left r y more n v is = at_rest (class_of v) (not_more [] old refl r y more n v is)

  child_there : (r : Way) (y : Tree) → slice_get (children_at new r.0) r.1 ≡ Some y → Stored d (Some (k, r.0), r.1) y
  child_there r y child n v is = elim (kids_from r y child) [
    | inl was ↦ (let x = child_stored b place old r y h.stored was n v is in
        record { class = x.class; is = at_rest (class_of v) (not_root r y was n v is) ∙ kept_between (r ∷ n) v (below_old r y was n v is) ∙ x.is })
    | inr more ↦ (let x = more_stored r y more n v is in record { class = x.class; is = more_left r y more n v is ∙ x.is })
  ]

  each : (r : Way) (y : Tree) → slice_get (children_at new r.0) r.1 ≡ Some y → IsApart y × ((n : Node) (u : Tree) → tree_at y n ≡ Some u → class_of u ≡ k → ⊥)
  each r y child = elim (kids_from r y child) [
    | inl was ↦ (child_apart old y r h.apart was, not_root r y was)
    | inr more ↦ (more_apart r y more, not_more [] old refl r y more)
  ]

  across : (w r : Way) (x y : Tree) (n m : Node) (u v : Tree) → slice_get (children_at new w.0) w.1 ≡ Some x → slice_get
      (children_at new r.0) r.1 ≡ Some y → tree_at x n ≡ Some u → tree_at y m ≡ Some v → class_of u ≡ class_of v → w ≡ r
  across w r x y n m u v child other is at' same = by_source (kids_from w x child) (kids_from r y other)
    where
      by_source : (slice_get (children_at old w.0) w.1 ≡ Some x) ⊎ IsMore w x → (slice_get (children_at old r.0) r.1 ≡ Some y) ⊎ IsMore r y → w ≡ r
      by_source (inl was) (inl were) = let e : w ∷ n ≡ r ∷ m = h.apart (w ∷ n) (r ∷ m) u v (below_old w x was n u is) (below_old r y were m v at') same in cc
      by_source (inl was) (inr more) = absurd (not_more (w ∷ n) u (below_old w x was n u is) r y more m v at' (sym same))
      by_source (inr more) (inl were) = absurd (not_more (r ∷ m) v (below_old r y were m v at') w x more n u is same)
      by_source (inr more) (inr also) = one w r x y more also

  -- a number stands in the old tree, or in what is more
  freed : (i : ℕ) → is_some (path_in i new) ≡ true → a i ≡ None
  freed i there = let (n, e) = got (path_in i new) there in let (v, is, number) = number_found new i n e in at_path n v is number
    where
      at_child : (r : Way) (n : Node) (v y : Tree) → tree_at y n ≡ Some v → class_of v ≡ i → (slice_get (children_at old r.0) r.1 ≡ Some y) ⊎ IsMore r y → a i ≡ None
      at_child r n v y is number (inl was) = h.fresh i (met i old (r ∷ n) (v, below_old r y was n v is, number))
      at_child r n v y is number (inr more) =
          sym (h.rest i (nowhere old i (λ m x at' same. not_more m x at' r y more n v is (number ∙ sym same)))) ∙ ap b (sym number) ∙ more_fresh r y more n v is

      at_path : (n : Node) (v : Tree) → tree_at new n ≡ Some v → class_of v ≡ i → a i ≡ None
      at_path [] v is number = let f : new ≡ v = cc in let e : k ≡ i = ap class_of f ∙ number in h.fresh i (met i old [] (old, refl, e))
      at_path (r ∷ n) v is number = let (y, child, under) = led (λ z. tree_at z n) (slice_get (children_at new r.0) r.1) v is in at_child r n v y under number (kids_from r y child)

  rests : (i : ℕ) → is_some (path_in i new) ≡ false → d i ≡ a i
  rests i none =
      at_rest i (λ e. outside new i none [] new refl (sym e)) ∙
      more_rest i (λ r y more. nowhere y i (λ n v is number.
      outside new i none (r ∷ n) v (ap (option_and_then (λ z. tree_at z n)) (kids_more r y more) ∙ is) number))
      ∙ h.rest i (nowhere old i old_out)
    where
      old_out : (n : Node) (v : Tree) → tree_at old n ≡ Some v → class_of v ≡ i → ⊥
      old_out [] v is number = let f : old ≡ v = cc in outside new i none [] new refl (ap class_of f ∙ number)
      old_out (r ∷ n) v is number =
          let (y, child, under) = led (λ z. tree_at z n) (slice_get (children_at old r.0) r.1) v is in
          outside new i none (r ∷ n) v (ap (option_and_then (λ z. tree_at z n)) (kids_old r y child) ∙ under) number

  pub classes_old : relabel (class_in d) old ≡ t
  classes_old = relabel_same (class_in d) (class_in b) old agree ∙ h.classes
    where
      agree : (n : Node) → Agree (class_in d) (class_in b) (tree_at old n)
      agree [] v is =
          let f : old ≡ v = cc in
          let x = h.stored [] old refl in
          let e : class_in d k ≡ class_in b k = ap (λ o. elim o as (λ _. ℕ) [ None ↦ 0 | Some i ↦ i.class ]) (root_is x).is ∙ sym (ap (λ o. elim o as (λ _. ℕ) [ None ↦ 0 | Some i ↦ i.class ]) x.is) in
          subst (λ z. class_in d z ≡ class_in b z) (ap class_of f) e
      agree (r ∷ n) v is =
          let (y, child, under) = led (λ z. tree_at z n) (slice_get (children_at old r.0) r.1) v is in
          ap (λ o. elim o as (λ _. ℕ) [ None ↦ 0 | Some i ↦ i.class ]) (at_rest (class_of v) (not_root r y child n v under) ∙ kept_between (r ∷ n) v is)

  pub classes_more : (r : Way) (y : Tree) → IsMore r y → relabel (class_in d) y ≡ relabel (class_in c) y
  classes_more r y more = relabel_same (class_in d) (class_in c) y (λ n v is. ap (λ o. elim o as (λ _. ℕ) [ None ↦ 0 | Some i ↦ i.class ]) (more_left r y more n v is))

  pub planted_more : (u : Tree) → relabel (class_in d) new ≡ u → IsPlanted a d place u new
  planted_more u classes = record {
    stored = stored_node k next d place (root_is (h.stored [] old refl)) child_there;
    apart = apart_node k next each across;
    fresh = freed;
    rest = rests;
    classes = classes;
  }
