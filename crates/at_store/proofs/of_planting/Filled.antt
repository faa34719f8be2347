-- A node that is planted gets one more component, or one more element of a list.
use Rattle.std.proofs.Common.{◌≡◌, ℕ, zero, suc, false, nat_eq, cond, List, [], ◌∷◌, ◌++◌, length, Option, Some, None, ◌⊎◌, inl, inr, refl, sym, ap, ◌∙◌, subst, is_some}
use Rattle.std.specs.Prelude.{map}
use Rattle.std.specs.List.{slice_get, insert}
use Rattle.std.proofs.lemmas.Bool.{eq-eqb}
use Rattle.at_model.specs.Trees.{Tree, cells_of, to_trees, Cells, Cell, Trees, Node as branch, no_cells, cell, Many, class_of, children, to_cells, from_cells, from_trees}
use Rattle.at_model.specs.Paths.{Node, tree_at, cell_at, children_at}
use Rattle.at_model.specs.Edits.{changed_at, with_cell, with_one_more}
use Rattle.at_model.proofs.of_edits.Moving.{Way}
use Rattle.at_model.proofs.of_edits.Untouched.{in_cell as kids, cell-same, cell-other, by_nat, from_to_cells, from_to_trees}
use Rattle.at_store.specs.Numbers.{relabel, relabel_cells, relabel_cell, path_in, IsApart}
use Rattle.at_store.specs.Memory.{Info, Kept, Kids, List_of, kept, with_numbers, Place, Stored, class_in}
use Rattle.at_store.specs.Planting.{IsPlanted, with_more, with_kid, added}
use Rattle.at_store.proofs.Found.{met}
use Rattle.at_store.proofs.Relabelled.{relabelled-cell, relabelled-one_more}
use Rattle.at_store.proofs.of_edits.Renumbered.{not_eq}
use Rattle.at_store.proofs.of_edits.Stored.{kept_with}
use Rattle.at_store.proofs.of_edits.Commits.{kept_insert}
use Rattle.at_store.proofs.of_planting.Planted.{classes_old, classes_more, planted_more}

-- a list with one more at the end
snoc_old : {A : Type 0} (xs : List A) (x a : A) (j : ℕ) → slice_get xs j ≡ Some a → slice_get (xs ++ x ∷ []) j ≡ Some a
snoc_old [] x a j e = absurd cc
snoc_old (y ∷ ys) x a zero e = e
snoc_old (y ∷ ys) x a (suc j) e = snoc_old ys x a j e

snoc_last : {A : Type 0} (xs : List A) (x : A) → slice_get (xs ++ x ∷ []) (length xs) ≡ Some x
snoc_last [] x = refl
snoc_last (y ∷ ys) x = snoc_last ys x

snoc_from : {A : Type 0} (xs : List A) (x a : A) (j : ℕ) → slice_get (xs ++ x ∷ []) j ≡ Some a → (slice_get xs j ≡ Some a) ⊎ ((j ≡ length xs) × (x ≡ a))
snoc_from [] x a zero e = inr (refl, cc)
snoc_from [] x a (suc j) e = absurd cc
snoc_from (y ∷ ys) x a zero e = inl e
snoc_from (y ∷ ys) x a (suc j) e = elim (snoc_from ys x a j e) [ inl was ↦ inl was | inr (at', is) ↦ inr (ap suc at', is) ]

insert_last : {A : Type 0} (xs : List A) (x : A) → insert xs (length xs) x ≡ xs ++ x ∷ []
insert_last [] x = refl
insert_last (y ∷ ys) x = ap (λ zs. y ∷ zs) (insert_last ys x)

map_snoc : {A B : Type 0} (f : A → B) (xs : List A) (x : A) → map f (xs ++ x ∷ []) ≡ map f xs ++ f x ∷ []
map_snoc f [] x = refl
map_snoc f (y ∷ ys) x = ap (λ zs. f y ∷ zs) (map_snoc f ys x)

length_mapped : {A B : Type 0} (f : A → B) (xs : List A) → length (map f xs) ≡ length xs
length_mapped f [] = refl
length_mapped f (x ∷ xs) = ap suc (length_mapped f xs)

-- a child of a component came from a cell
of_cell : (o : Option Cell) (i : ℕ) (y : Tree) → slice_get (kids o) i ≡ Some y → (c : Cell) × (o ≡ Some c) × (slice_get (children c) i ≡ Some y)
of_cell None i y e = absurd cc
of_cell (Some c) i y e = (c, refl, e)

from_more : (c : Kept) (o : Option Info) (i : Info) → o ≡ Some i → with_more c o ≡ Some (record i { cells = i.cells ++ c ∷ [] })
from_more c o i e = ap (with_more c) e

only_first : (w y : Tree) (i : ℕ) → slice_get (w ∷ []) i ≡ Some y → (i ≡ 0) × (y ≡ w)
only_first w y zero e = (refl, (let f : w ≡ y = cc in sym f))
only_first w y (suc i) e = absurd cc

relabelled-added : (f : ℕ → ℕ) (c : Cell) (t : Tree) → relabel f (added c t) ≡ added (relabel_cell f c) (relabel f t)
relabelled-added f c (branch k cells) = ap (branch (f k)) (more cells)
  where
    more : (cs : Cells) → relabel_cells f (to_cells (from_cells cs ++ c ∷ [])) ≡ to_cells (from_cells (relabel_cells f cs) ++ relabel_cell f c ∷ [])
    more no_cells = refl
    more (cell d cs) = ap (cell (relabel_cell f d)) (more cs)

-- one more component, in which these children stand
module _ (a b c d : ℕ → Option Info) (place : Place) (k : ℕ) (cells : Cells) (t : Tree) (h : IsPlanted a b place t (branch k cells)) (more : Cell)
    (pushed : (j : ℕ) → d j ≡ cond (nat_eq j k) (with_more (kept more) (c j)) (c j)) where
  abbrev part : ℕ
  part = length (from_cells cells)

  abbrev IsIn : Way → Tree → Type 0
  IsIn r y = (r.0 ≡ part) × (slice_get (children more) r.1 ≡ Some y)

  abbrev next : Cells
  next = to_cells (from_cells cells ++ more ∷ [])

  next_kids : (q : ℕ) → children_at (branch k next) q ≡ kids (slice_get (from_cells cells ++ more ∷ []) q)
  next_kids q = ap (λ cs. kids (slice_get cs q)) (from_to_cells (from_cells cells ++ more ∷ []))

  kids_old : (r : Way) (y : Tree) → slice_get (children_at (branch k cells) r.0) r.1 ≡ Some y → slice_get (children_at (branch k next) r.0) r.1 ≡ Some y
  kids_old r y e =
      let (x, there, child) = of_cell (slice_get (from_cells cells) r.0) r.1 y e in
      ap (λ xs. slice_get xs r.1) (next_kids r.0 ∙ ap kids (snoc_old (from_cells cells) more x r.0 there)) ∙ child

  kids_more : (r : Way) (y : Tree) → IsIn r y → slice_get (children_at (branch k next) r.0) r.1 ≡ Some y
  kids_more r y (at', child) = ap (λ xs. slice_get xs r.1) (next_kids r.0 ∙ ap kids (ap (slice_get (from_cells cells ++ more ∷ [])) at' ∙ snoc_last (from_cells cells) more)) ∙ child

  kids_from : (r : Way) (y : Tree) → slice_get (children_at (branch k next) r.0) r.1 ≡ Some y → (slice_get (children_at (branch k cells) r.0) r.1 ≡ Some y) ⊎ IsIn r y
  kids_from r y e =
      let (x, there, child) = of_cell (slice_get (from_cells cells ++ more ∷ []) r.0) r.1 y (sym (ap (λ xs. slice_get xs r.1) (next_kids r.0)) ∙ e) in
      elim (snoc_from (from_cells cells) more x r.0 there) [
        | inl was ↦ inl (ap (λ o. slice_get (kids o) r.1) was ∙ child)
        | inr (last, is) ↦ inr (last, ap (λ (z : Cell). slice_get (children z) r.1) is ∙ child)
      ]

  at_root : (i : Info) → c k ≡ Some i → i.cells ≡ map kept (from_cells cells) → d k ≡ Some (record i { cells = map kept (from_cells next) })
  at_root i is same =
      pushed k ∙ ap (λ z. cond z (with_more (kept more) (c k)) (c k)) (eq-eqb k k refl) ∙ from_more (kept more) (c k) i is ∙
      ap (λ cs. Some (record i { cells = cs })) (ap (λ cs. cs ++ kept more ∷ []) same ∙ sym (ap (map kept) (from_to_cells (from_cells cells ++ more ∷ [])) ∙ map_snoc kept (from_cells cells) more))

  at_rest : (j : ℕ) → (j ≡ k → ⊥) → d j ≡ c j
  at_rest j n = pushed j ∙ ap (λ z. cond z (with_more (kept more) (c j)) (c j)) (not_eq j k n)

  -- no child stands in it
  pub planted_childless : children more ≡ [] → ((j : ℕ) → c j ≡ b j) → ((f : ℕ → ℕ) → relabel_cell f more ≡ more) → IsPlanted a d place (added more t) (added more (branch k cells))
  planted_childless none same keeps =
      let no_more : (r : Way) (y : Tree) → IsIn r y → ⊥ = λ r y e. (let f : None ≡ Some y = sym (ap (λ xs. slice_get xs r.1) none) ∙ e.1 in cc) in
      let old = classes_old a b c d place k cells next t h IsIn (λ r q x y e f. absurd (no_more r x e))
      (λ r y e. absurd (no_more r y e)) (λ r y e. absurd (no_more r y e)) (λ r y e. absurd (no_more r y e))
      (λ i e. same i) kids_old kids_more kids_from at_root at_rest in
      planted_more a b c d place k cells next t h IsIn (λ r q x y e f. absurd (no_more r x e))
      (λ r y e. absurd (no_more r y e)) (λ r y e. absurd (no_more r y e)) (λ r y e. absurd (no_more r y e))
      (λ i e. same i) kids_old kids_more kids_from at_root at_rest
      (added more t) (relabelled-added (class_in d) more (branch k cells) ∙ (λ i. added (keeps (class_in d) i) (old i)))

  -- this child stands in it
  module _ (w u : Tree) (p : IsPlanted b c (Some (k, part), 0) u w) (one_child : children more ≡ w ∷ []) where
    is_it : (r : Way) (y : Tree) → IsIn r y → (r ≡ (part, 0)) × (y ≡ w)
    is_it r y (at', child) = let (first, same) = only_first w y r.1 (sym (ap (λ xs. slice_get xs r.1) one_child) ∙ child) in ((λ i. (at' i, first i)), same)

    one : (r q : Way) (x y : Tree) → IsIn r x → IsIn q y → r ≡ q
    one r q x y e f = (is_it r x e).0 ∙ sym (is_it q y f).0

    stored : (r : Way) (y : Tree) → IsIn r y → Stored c (Some (k, r.0), r.1) y
    stored r y e = let (way, same) = is_it r y e in subst (λ (z : Way). Stored c (Some (k, z.0), z.1) y) (sym way) (subst (Stored c (Some (k, part), 0)) (sym same) p.stored)

    apart : (r : Way) (y : Tree) → IsIn r y → IsApart y
    apart r y e = subst IsApart (sym (is_it r y e).1) p.apart

    fresh : (r : Way) (y : Tree) → IsIn r y → (n : Node) (v : Tree) → tree_at y n ≡ Some v → b (class_of v) ≡ None
    fresh r y e n v is = p.fresh (class_of v) (met (class_of v) w n (v, ap (λ z. tree_at z n) (sym (is_it r y e).1) ∙ is, refl))

    rest : (i : ℕ) → ((r : Way) (y : Tree) → IsIn r y → is_some (path_in i y) ≡ false) → c i ≡ b i
    rest i e = p.rest i (e (part, 0) w (refl, ap (λ xs. slice_get xs 0) one_child))

    pub planted_child : (cell_of : Tree → Cell) → more ≡ cell_of w → ((f : ℕ → ℕ) → relabel_cell f (cell_of w)
        ≡ cell_of (relabel f w)) → IsPlanted a d place (added (cell_of u) t) (added more (branch k cells))
    planted_child cell_of is same =
        let old = classes_old a b c d place k cells next t h IsIn one stored apart fresh rest kids_old kids_more kids_from at_root at_rest in
        let new = classes_more a b c d place k cells next t h IsIn one stored apart fresh rest kids_old kids_more
        kids_from at_root at_rest (part, 0) w (refl, ap (λ xs. slice_get xs 0) one_child) ∙ p.classes in
        let filled : relabel_cell (class_in d) more ≡ cell_of u = ap (relabel_cell (class_in d)) is ∙ same (class_in d) ∙ ap cell_of new in
        planted_more a b c d place k cells next t h IsIn one stored apart fresh rest kids_old kids_more kids_from
        at_root at_rest (added (cell_of u) t)
        (relabelled-added (class_in d) more (branch k cells) ∙ (λ i. added (filled i) (old i)))

change_kept : (f : Kept → Kept) (x : Kept) (xs : List Kept) (i : ℕ) → slice_get xs i ≡ Some x → changed_at (λ old. f x) xs i ≡ changed_at f xs i
change_kept f x [] i e = refl
change_kept f x (y ∷ ys) zero e = let same : x ≡ y = cc in ap (λ z. f z ∷ ys) same
change_kept f x (y ∷ ys) (suc i) e = ap (λ zs. y ∷ zs) (change_kept f x ys i e)

kept_at : (cs : List Cell) (part : ℕ) (c : Cell) → slice_get cs part ≡ Some c → slice_get (map kept cs) part ≡ Some (kept c)
kept_at [] part c e = absurd cc
kept_at (d ∷ cs) zero c e = let same : d ≡ c = cc in ap (λ z. Some (kept z)) same
kept_at (d ∷ cs) (suc part) c e = kept_at cs part c e

-- one more element at the end of a list
module _ (a b c d : ℕ → Option Info) (place : Place) (k : ℕ) (cells : Cells) (t : Tree) (h : IsPlanted a b place t
    (branch k cells)) (list : ℕ) (ts : Trees) (here : cell_at (branch k cells) list ≡ Some (Many ts))
    (w u : Tree) (p : IsPlanted b c (Some (k, list), length (from_trees ts)) u w)
    (pushed : (j : ℕ) → d j ≡ cond (nat_eq j k) (with_kid list (class_of w) (c j)) (c j)) where
  abbrev spot : ℕ
  spot = length (from_trees ts)

  abbrev longer : Cell → Cell
  longer = with_one_more w spot

  abbrev with_element : Cells
  with_element = to_cells (changed_at longer (from_cells cells) list)

  abbrev IsLast : Way → Tree → Type 0
  IsLast r y = (r ≡ (list, spot)) × (y ≡ w)

  list_now : children_at (branch k with_element) list ≡ from_trees ts ++ w ∷ []
  list_now = ap kids (cell-same longer list (branch k cells)
      ∙ ap (λ o. elim o [ None ↦ None | Some x ↦ Some (longer x) ]) here)
      ∙ from_to_trees (insert (from_trees ts) spot w) ∙ insert_last (from_trees ts) w

  list_then : children_at (branch k cells) list ≡ from_trees ts
  list_then = ap kids here

  element_old : (r : Way) (y : Tree) → slice_get (children_at (branch k cells) r.0) r.1 ≡ Some y → slice_get (children_at (branch k with_element) r.0) r.1 ≡ Some y
  element_old r y e = by_nat list r.0 _
      (λ same. let was : slice_get (from_trees ts) r.1 ≡ Some y = sym (ap (λ xs. slice_get xs r.1) list_then) ∙ ap (λ q. slice_get (children_at (branch k cells) q) r.1) same ∙ e in
      ap (λ q. slice_get (children_at (branch k with_element) q) r.1) (sym same) ∙ ap (λ xs. slice_get xs r.1) list_now ∙ snoc_old (from_trees ts) w y r.1 was)
      (λ other. ap (λ o. slice_get (kids o) r.1) (cell-other longer list r.0 (branch k cells) other) ∙ e)

  element_more : (r : Way) (y : Tree) → IsLast r y → slice_get (children_at (branch k with_element) r.0) r.1 ≡ Some y
  element_more r y (way, same) = ap (λ (z : Way). slice_get (children_at (branch k with_element) z.0) z.1) way
      ∙ ap (λ xs. slice_get xs spot) list_now ∙ snoc_last (from_trees ts) w ∙ ap Some (sym same)

  element_from : (r : Way) (y : Tree) → slice_get (children_at (branch k with_element) r.0) r.1 ≡ Some y → (slice_get (children_at (branch k cells) r.0) r.1 ≡ Some y) ⊎ IsLast r y
  element_from r y e = by_nat list r.0 _
      (λ same.
      let at_list : slice_get (from_trees ts ++ w ∷ []) r.1 ≡ Some y = sym (ap (λ xs. slice_get xs r.1) list_now) ∙ ap (λ q. slice_get (children_at (branch k with_element) q) r.1) same ∙ e in
      by_place same (snoc_from (from_trees ts) w y r.1 at_list))
      (λ other. inl (sym (ap (λ o. slice_get (kids o) r.1) (cell-other longer list r.0 (branch k cells) other)) ∙ e))
    where
      by_place : list ≡ r.0 → (slice_get (from_trees ts) r.1 ≡ Some y) ⊎ ((r.1 ≡ spot) × (w ≡ y)) → (slice_get (children_at (branch k cells) r.0) r.1 ≡ Some y) ⊎ IsLast r y
      by_place same (inl was) = inl (ap (λ q. slice_get (children_at (branch k cells) q) r.1) (sym same) ∙ ap (λ xs. slice_get xs r.1) list_then ∙ was)
      by_place same (inr (last, is)) = inr ((λ i. (sym same i, last i)), sym is)

  kept_longer : map kept (from_cells with_element) ≡ changed_at (with_numbers (λ ns. ns ++ class_of w ∷ [])) (map kept (from_cells cells)) list
  kept_longer =
      kept_with longer list (branch k cells) (Many ts) here ∙
      ap (λ z. changed_at (λ old. z) (map kept (from_cells cells)) list)
      (kept_insert w spot ts ∙ ap (Kids List_of) (ap (λ n. insert (map class_of (from_trees ts)) n (class_of w))
      (sym (length_mapped class_of (from_trees ts))) ∙ insert_last (map class_of (from_trees ts)) (class_of w))) ∙
      change_kept (with_numbers (λ ns. ns ++ class_of w ∷ [])) (kept (Many ts)) (map kept (from_cells cells)) list (kept_at (from_cells cells) list (Many ts) here)

  element_root : (i : Info) → c k ≡ Some i → i.cells ≡ map kept (from_cells cells) → d k ≡ Some (record i { cells = map kept (from_cells with_element) })
  element_root i is same =
      pushed k ∙ ap (λ z. cond z (with_kid list (class_of w) (c k)) (c k)) (eq-eqb k k refl) ∙ ap (with_kid list (class_of w)) is ∙
      ap (λ cs. Some (record i { cells = cs })) (ap (λ cs. changed_at (with_numbers (λ ns. ns ++ class_of w ∷ [])) cs list) same ∙ sym kept_longer)

  element_rest : (j : ℕ) → (j ≡ k → ⊥) → d j ≡ c j
  element_rest j n = pushed j ∙ ap (λ z. cond z (with_kid list (class_of w) (c j)) (c j)) (not_eq j k n)

  one_last : (r q : Way) (x y : Tree) → IsLast r x → IsLast q y → r ≡ q
  one_last r q x y e f = e.0 ∙ sym f.0

  last_stored : (r : Way) (y : Tree) → IsLast r y → Stored c (Some (k, r.0), r.1) y
  last_stored r y (way, same) = subst (λ (z : Way). Stored c (Some (k, z.0), z.1) y) (sym way) (subst (Stored c (Some (k, list), spot)) (sym same) p.stored)

  last_apart : (r : Way) (y : Tree) → IsLast r y → IsApart y
  last_apart r y e = subst IsApart (sym e.1) p.apart

  last_fresh : (r : Way) (y : Tree) → IsLast r y → (n : Node) (v : Tree) → tree_at y n ≡ Some v → b (class_of v) ≡ None
  last_fresh r y e n v is = p.fresh (class_of v) (met (class_of v) w n (v, ap (λ z. tree_at z n) (sym e.1) ∙ is, refl))

  last_rest : (i : ℕ) → ((r : Way) (y : Tree) → IsLast r y → is_some (path_in i y) ≡ false) → c i ≡ b i
  last_rest i e = p.rest i (e (list, spot) w (refl, refl))

  pub planted_element : IsPlanted a d place (with_cell (with_one_more u spot) list t) (with_cell (with_one_more w spot) list (branch k cells))
  planted_element =
      let old = classes_old a b c d place k cells with_element t h IsLast one_last last_stored last_apart last_fresh last_rest element_old element_more element_from element_root element_rest in
      let new = classes_more a b c d place k cells with_element t h IsLast one_last last_stored last_apart last_fresh
      last_rest element_old element_more element_from element_root element_rest (list, spot) w (refl, refl)
      ∙ p.classes in
      planted_more a b c d place k cells with_element t h IsLast one_last last_stored last_apart last_fresh last_rest
      element_old element_more element_from element_root element_rest (with_cell (with_one_more u spot) list t)
      (relabelled-cell (class_in d) longer (with_one_more (relabel (class_in d) w) spot) (relabelled-one_more
      (class_in d) w spot) list (branch k cells) ∙ (λ i. with_cell (with_one_more (new i) spot) list (old i)))

-- the last component of a node, where it is a list
last_there : (c : Cell) (k : ℕ) (cells : Cells) → cell_at (added c (branch k cells)) (length (from_cells cells)) ≡ Some c
last_there c k cells = ap (λ cs. slice_get cs (length (from_cells cells))) (from_to_cells (from_cells cells ++ c ∷ [])) ∙ snoc_last (from_cells cells) c

changed_last : (g : Cell → Cell) (cs : List Cell) (c : Cell) → changed_at g (cs ++ c ∷ []) (length cs) ≡ cs ++ g c ∷ []
changed_last g [] c = refl
changed_last g (d ∷ cs) c = ap (λ xs. d ∷ xs) (changed_last g cs c)

last_changed : (g : Cell → Cell) (c : Cell) (t : Tree) → with_cell g (length (from_cells (cells_of t))) (added c t) ≡ added (g c) t
last_changed g c (branch k cells) =
    ap (λ cs. branch k (to_cells (changed_at g cs (length (from_cells cells))))) (from_to_cells (from_cells cells ++ c ∷ [])) ∙ ap (λ cs. branch k (to_cells cs)) (changed_last g (from_cells cells) c)

one_longer : (us : List Tree) (u : Tree) (n : ℕ) → n ≡ length us → with_one_more u n (Many (to_trees us)) ≡ Many (to_trees (us ++ u ∷ []))
one_longer us u n e = ap (λ m. Many (to_trees (insert (from_trees (to_trees us)) m u))) e ∙ ap (λ xs.
    Many (to_trees (insert xs (length us) u))) (from_to_trees us) ∙ ap (λ xs. Many (to_trees xs)) (insert_last us u)

pub planted_next : (a b c d : ℕ → Option Info) (place : Place) (k : ℕ) (cells : Cells) (t : Tree) (us ws : List Tree)
    → length us ≡ length ws → length (from_cells (cells_of t)) ≡ length (from_cells cells) →
    IsPlanted a b place (added (Many (to_trees us)) t) (added (Many (to_trees ws)) (branch k cells)) → (u w : Tree) → IsPlanted b c (Some (k, length (from_cells cells)), length ws) u w →
    ((j : ℕ) → d j ≡ cond (nat_eq j k) (with_kid (length (from_cells cells)) (class_of w) (c j)) (c j)) →
    IsPlanted a d place (added (Many (to_trees (us ++ u ∷ []))) t) (added (Many (to_trees (ws ++ w ∷ []))) (branch k cells))
planted_next a b c d place k cells t us ws same parts h u w p pushed =
    let list : ℕ = length (from_cells cells) in
    let count : length (from_trees (to_trees ws)) ≡ length ws = ap length (from_to_trees ws) in
    let more = planted_element a b c d place k (to_cells (from_cells cells ++ Many (to_trees ws) ∷ [])) (added (Many
    (to_trees us)) t) h (length (from_cells cells)) (to_trees ws) (last_there (Many (to_trees ws)) k cells) w u
    (subst (λ n. IsPlanted b c (Some (k, length (from_cells cells)), n) u w) (sym count) p) pushed in
    let numbers = last_changed (with_one_more w (length (from_trees (to_trees ws)))) (Many (to_trees ws)) (branch k
    cells) ∙ ap (λ z. added z (branch k cells)) (one_longer ws w (length (from_trees (to_trees ws))) count) in
    let classes = ap (λ n. with_cell (with_one_more u (length (from_trees (to_trees ws)))) n (added (Many (to_trees us))
    t)) (sym parts) ∙ last_changed (with_one_more u (length (from_trees (to_trees ws)))) (Many (to_trees us)) t ∙
    ap (λ z. added z t) (one_longer us u (length (from_trees (to_trees ws))) (count ∙ sym same)) in
    subst (λ x. IsPlanted a d place x (added (Many (to_trees (ws ++ w ∷ []))) (branch k cells))) classes
    (subst (λ x. IsPlanted a d place (with_cell (with_one_more u (length (from_trees (to_trees ws)))) (length (from_cells cells)) (added (Many (to_trees us)) t)) x) numbers more)
