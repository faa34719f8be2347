-- What the memory tells of a number is what the tree shows there.
use Rattle.std.proofs.Common.{◌≡◌, ℕ, zero, suc, ◌+◌, true, false, List, [], ◌∷◌, ◌++◌, Option, Some, None, inl, inr, refl, sym, ap, ◌∙◌, arith, option_map, is_some}
use Rattle.std.specs.Prelude.{map}
use Rattle.std.specs.List.{slice_get}
use Rattle.at_model.specs.Trees.{Tree, Cell, One, Many, Empty, Filled, Holds, Token, class_of, cells_of, children, from_cells, from_trees}
use Rattle.at_model.specs.Trees as trees
use Rattle.at_model.specs.Paths.{Node, tree_at, cell_at, children_at, parent_of}
use Rattle.at_model.specs.Drawers.{Key, stands_under}
use Rattle.at_model.specs.Run.{Is, Tok, Slot, Up, Idx}
use Rattle.at_model.specs.Seeking.{is_in_drawer}
use Rattle.at_model.specs.Meaning.{token_in, child_nodes, content}
use Rattle.at_model.proofs.of_edits.Untouched.{in_cell as kids}
use Rattle.at_model.proofs.WithinTree.{tree_at-snoc}
use Rattle.at_store.specs.Numbers.{path_in, number_at, relabel, relabel_cell, contents}
use Rattle.at_store.specs.Memory.{Info, kept, kept_of, Place, top, place_at, Keeps, class_in, up_in, index_in, numbers_in, token_kept, kids_in, token_in_cell}
use Rattle.at_store.specs.Marked.{told}
use Rattle.at_store.proofs.Found.{number_found}
use Rattle.at_store.proofs.Relabelled.{relabel-class, relabelled-tree_at, relabelled-cell_at, relabelled-children_at}

pub kept_at : (cs : List Cell) (part : ℕ) → slice_get (map kept cs) part ≡ option_map kept (slice_get cs part)
kept_at [] part = refl
kept_at (c ∷ cs) zero = refl
kept_at (c ∷ cs) (suc part) = kept_at cs part

pub same_token : (f : ℕ → ℕ) (o : Option Cell) → token_kept (option_map kept o) ≡ token_in (option_map (relabel_cell f) o)
same_token f None = refl
same_token f (Some (One t)) = refl
same_token f (Some (Many ts)) = refl
same_token f (Some Empty) = refl
same_token f (Some (Filled t)) = refl
same_token f (Some (Holds v)) = refl

-- the numbers that are kept are those of the children
pub same_kids : (o : Option Cell) → numbers_in (option_map kept o) ≡ map class_of (kids o)
same_kids None = refl
same_kids (Some (One t)) = refl
same_kids (Some (Many ts)) = refl
same_kids (Some Empty) = refl
same_kids (Some (Filled t)) = refl
same_kids (Some (Holds v)) = refl

module _ (s : Tree) where
  children_numbered : (f : ℕ → ℕ) (n : Node) (part i : ℕ) (ts : List Tree) → ((j : ℕ) (x : Tree) → slice_get ts j ≡ Some x → tree_at s (n ++ (part, i + j) ∷ []) ≡ Some x) →
      map class_of ts ≡ map (number_at s) (child_nodes n part i (map (relabel f) ts))
  children_numbered f n part i [] h = refl
  children_numbered f n part i (x ∷ xs) h =
      let e : i + 0 ≡ i = omega arith in
      let first : class_of x ≡ number_at s (n ++ (part, i) ∷ []) = sym (ap (λ o. elim o [ None ↦ 0 | Some u ↦ class_of u ]) (ap (λ z. tree_at s (n ++ (part, z) ∷ [])) (sym e) ∙ h 0 x refl)) in
      let rest = children_numbered f n part (suc i) xs (λ j y is. let g : i + suc j ≡ suc i + j = omega arith in ap (λ z. tree_at s (n ++ (part, z) ∷ [])) (sym g) ∙ h (suc j) y is) in
      λ l. first l ∷ rest l

  abbrev place_shown : Option (Node × (ℕ × ℕ)) → Place
  place_shown o = elim o [ None ↦ top | Some p ↦ (Some (number_at s p.0, p.1.0), p.1.1) ]

  up_shown : (o : Option (Node × (ℕ × ℕ))) → (place_shown o).0 ≡
      option_map (λ (p : Node × ℕ). let x : ℕ × ℕ = (number_at s p.0, p.1) in x) (option_map (λ (p : Node × (ℕ × ℕ)). let x : Node × ℕ = (p.0, p.1.0) in x) o)
  up_shown None = refl
  up_shown (Some p) = refl

  index_shown : (o : Option (Node × (ℕ × ℕ))) → (place_shown o).1 ≡ elim o [ None ↦ 0 | Some p ↦ p.1.1 ]
  index_shown None = refl
  index_shown (Some p) = refl

module _ (memory : ℕ → Option Info) (s : Tree) (h : Keeps memory s None) where
  abbrev tree : Tree
  tree = relabel (class_in memory) s

  -- a number that stands nowhere is not there
  pub absent : (k : ℕ) → path_in k s ≡ None → memory k ≡ None
  absent k none = by_memory (memory k) refl
    where
      by_memory : (o : Option Info) → memory k ≡ o → o ≡ None
      by_memory None e = refl
      by_memory (Some i) e = elim (h.covered k i e) [
        | inl there ↦ (let f : true ≡ false = sym there ∙ ap is_some none in absurd cc)
        | inr there ↦ (let f : false ≡ true = there in absurd cc)
      ]

  by_path : {X : Type 0} (g : Option Info → X) (d : X) (shown : Node → X) (k : ℕ) → g None ≡ d →
      ((n : Node) (u : Tree) (i : Info) → path_in k s ≡ Some n → tree_at s n ≡ Some u → class_of u ≡ k
      → memory k ≡ Some i → i.up ≡ (place_at top s n).0 → i.index ≡ (place_at top s n).1 → i.cells ≡ kept_of u
      → g (Some i) ≡ shown n) →
      g (memory k) ≡ elim (path_in k s) as (λ _. X) [ None ↦ d | Some n ↦ shown n ]
  by_path {X} g d shown k none some = at_path (path_in k s) refl
    where
      at_path : (o : Option Node) → path_in k s ≡ o → g (memory k) ≡ elim o as (λ _. X) [ None ↦ d | Some n ↦ shown n ]
      at_path None e = ap g (absent k e) ∙ none
      at_path (Some n) e =
          let (u, is, number) = number_found s k n e in
          let there = h.stored n u is in
          let here = ap memory (sym number) ∙ there.is in
          ap g here ∙ some n u _ e is number here refl refl refl

  pub class_is : (k : ℕ) → class_in memory k ≡ contents s tree (Is k)
  class_is k = by_path (λ o. elim o [ None ↦ 0 | Some i ↦ i.class ]) 0 (λ n. content tree (Is n)) k refl (λ n u i e is number here up index cells.
      sym (ap (λ o. elim o as (λ _. ℕ) [ None ↦ 0 | Some v ↦ class_of v ]) (relabelled-tree_at (class_in memory) s n
      ∙ ap (option_map (relabel (class_in memory))) is) ∙ relabel-class (class_in memory) u ∙
      ap (class_in memory) number ∙ ap (λ o. elim o as (λ _. ℕ) [ None ↦ 0 | Some i ↦ i.class ]) here))

  pub token_is : (k part : ℕ) → token_in_cell (memory k) part ≡ contents s tree (Tok k part)
  token_is k part = by_path (λ o. token_in_cell o part) (trees.Truth false) (λ n. content tree (Tok n part)) k refl (λ n u i e is number here up index cells.
      ap (λ xs. token_kept (slice_get xs part)) cells ∙ ap token_kept (kept_at (from_cells (cells_of u)) part) ∙ same_token (class_in memory) (cell_at u part) ∙
      sym (ap (λ o. elim o as (λ _. Token) [ None ↦ trees.Truth false | Some v ↦ token_in (cell_at v part) ])
      (relabelled-tree_at (class_in memory) s n ∙ ap (option_map (relabel (class_in memory))) is) ∙
      ap token_in (relabelled-cell_at (class_in memory) u part)))

  pub children_are : (k part : ℕ) → kids_in (memory k) part ≡ contents s tree (Slot k part)
  children_are k part = by_path (λ o. kids_in o part) [] (λ n. map (number_at s) (content tree (Slot n part))) k refl (λ n u i e is number here up index cells.
      ap (λ xs. numbers_in (slice_get xs part)) cells ∙ ap numbers_in (kept_at (from_cells (cells_of u)) part) ∙ same_kids (cell_at u part) ∙
      children_numbered s (class_in memory) n part 0 (children_at u part) (λ j x child. let g : 0 + j ≡ j =
      omega arith in ap (λ z. tree_at s (n ++ (part, z) ∷ [])) g ∙ tree_at-snoc s n (part, j) u is ∙ child) ∙
      ap (λ ts. map (number_at s) (child_nodes n part 0 ts)) (sym (relabelled-children_at (class_in memory) u part)) ∙
      sym (ap (λ (o : Option Tree). map (number_at s)
      (elim o as (λ _. List Node) [ None ↦ [] | Some v ↦ child_nodes n part 0 (children_at v part) ]))
      (relabelled-tree_at (class_in memory) s n ∙ ap (option_map (relabel (class_in memory))) is)))

  pub parent_is : (k : ℕ) → up_in (memory k) ≡ contents s tree (Up k)
  parent_is k = by_path up_in None (λ n. option_map (λ (p : Node × ℕ). let x : ℕ × ℕ = (number_at s p.0, p.1) in x)
      (content tree (Up n))) k refl (λ n u i e is number here up index cells. up ∙ up_shown s (parent_of n))

  pub index_is : (k : ℕ) → index_in (memory k) ≡ contents s tree (Idx k)
  index_is k = by_path index_in 0 (λ n. content tree (Idx n)) k refl (λ n u i e is number here up index cells. index ∙ index_shown s (parent_of n))

  pub drawn_is : (key : Key) (mark : ℕ) → is_in_drawer (told memory) key mark ≡ is_in_drawer (contents s tree) key mark
  drawn_is key mark = λ i k. stands_under key mark (class_is k i) (token_is k key.token i)
