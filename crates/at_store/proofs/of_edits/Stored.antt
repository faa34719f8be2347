-- A tree in a memory, after a change of one cell.
use Rattle.std.proofs.Common.{◌≡◌, ℕ, zero, suc, Bool, true, false, if◌then◌else◌, List, [], ◌∷◌, ◌++◌, Option, Some, None, ◌⊎◌, inl, inr, refl, sym, ap, ◌∙◌, subst, option_and_then, option_map}
use Rattle.std.specs.Prelude.{map}
use Rattle.std.specs.List.{slice_get}
use Rattle.at_model.specs.Trees.{Tree, Cell, Node as branch, One, Many, Empty, Filled, Holds, class_of, children, from_cells, from_trees}
use Rattle.at_model.specs.Paths.{Node, tree_at, cell_at, children_at, step_eq, node_eq, parent_of}
use Rattle.at_model.specs.Edits.{changed_at, with_child, with_cell, with_node, moved_under}
use Rattle.at_model.proofs.Nodes.{step_eq-sound, step_eq-refl, node_eq-sound, node_eq-refl}
use Rattle.at_model.proofs.WayUp.{snoc, parent_of-snoc, parent_there}
use Rattle.at_model.proofs.of_edits.Moving.{Way, KeepsParts, moved-nil, moved-snoc}
use Rattle.at_model.proofs.of_edits.Untouched.{in_cell as kids, tree_at-append, changed_there, cell-same, class-same, from_to_cells, from_to_trees, FitsAt, local, tree_moved}
use Rattle.at_store.specs.Numbers.{number_at, IsApart}
use Rattle.at_store.specs.Memory.{Info, Kept, kept, kept_of, Place, top, place_at, IsKept, Stored, with_kept, with_index}
use Rattle.at_store.proofs.of_edits.Origins.{OriginsAt, From, origin, AreNew, same_number}
use Rattle.at_store.proofs.of_edits.Origins as from
use Rattle.at_store.specs.Memory as memory

-- what is kept of a cell with another child of the same number
kept_list : (h : Tree → Tree) → ((u : Tree) → class_of (h u) ≡ class_of u) → (ts : List Tree) (i : ℕ) → map class_of (changed_at h ts i) ≡ map class_of ts
kept_list h same [] i = refl
kept_list h same (t ∷ ts) zero = ap (λ n. n ∷ map class_of ts) (same t)
kept_list h same (t ∷ ts) (suc i) = ap (λ ns. class_of t ∷ ns) (kept_list h same ts i)

kept_child : (h : Tree → Tree) → ((u : Tree) → class_of (h u) ≡ class_of u) → (i : ℕ) (c : Cell) → kept (with_child h i c) ≡ kept c
kept_child h same zero (One t) = ap (λ n. memory.Kids memory.Plain (n ∷ [])) (same t)
kept_child h same (suc i) (One t) = refl
kept_child h same i (Many ts) = ap (memory.Kids memory.List_of) (ap (map class_of) (from_to_trees (changed_at h (from_trees ts) i)) ∙ kept_list h same (from_trees ts) i)
kept_child h same i Empty = refl
kept_child h same zero (Filled t) = ap (λ n. memory.Kids memory.Optional (n ∷ [])) (same t)
kept_child h same (suc i) (Filled t) = refl
kept_child h same i (Holds v) = refl

kept_same : (h : Cell → Cell) → ((c : Cell) → kept (h c) ≡ kept c) → (cs : List Cell) (i : ℕ) → map kept (changed_at h cs i) ≡ map kept cs
kept_same h same [] i = refl
kept_same h same (c ∷ cs) zero = ap (λ x. x ∷ map kept cs) (same c)
kept_same h same (c ∷ cs) (suc i) = ap (λ x. kept c ∷ x) (kept_same h same cs i)

kept_changed : (g : Cell → Cell) (cs : List Cell) (i : ℕ) (c : Cell) → slice_get cs i ≡ Some c → map kept (changed_at g cs i) ≡ changed_at (λ old. kept (g c)) (map kept cs) i
kept_changed g [] i c is = absurd cc
kept_changed g (x ∷ xs) zero c is = let e : x ≡ c = cc in ap (λ z. kept (g z) ∷ map kept xs) e
kept_changed g (x ∷ xs) (suc i) c is = ap (λ z. kept x ∷ z) (kept_changed g xs i c is)

pub kept_with : (g : Cell → Cell) (part : ℕ) (u : Tree) (c : Cell) → cell_at u part ≡ Some c → kept_of (with_cell g part u) ≡ changed_at (λ old. kept (g c)) (kept_of u) part
kept_with g part (branch k cells) c is = ap (map kept) (from_to_cells (changed_at g (from_cells cells) part)) ∙ kept_changed g (from_cells cells) part c is

module _ (g : Cell → Cell) (part : ℕ) (past : Way → Option Way) where
  pub class_kept : (v : Tree) (p : Node) → class_of (with_node (with_cell g part) v p) ≡ class_of v
  class_kept v [] = class-same g part v
  class_kept v (a ∷ p) = class-same (with_child (λ u. with_node (with_cell g part) u p) a.1) a.0 v

  kept_above : (h : Cell → Cell) (i : ℕ) (v : Tree) → ((c : Cell) → kept (h c) ≡ kept c) → kept_of (with_cell h i v) ≡ kept_of v
  kept_above h i (branch k cells) same = ap (map kept) (from_to_cells (changed_at h (from_cells cells) i)) ∙ kept_same h same (from_cells cells) i

  -- of a node where no cell changes the same is kept
  pub kept_local : (p n : Node) (v : Tree) → (n ≡ p → ⊥) → kept_of (local g part past p n v) ≡ kept_of v
  kept_local [] [] v h = absurd (h refl)
  kept_local (a ∷ p) [] v h = kept_above (with_child (λ u. with_node (with_cell g part) u p) a.1) a.0 v (kept_child (λ u. with_node (with_cell g part) u p) (λ u. class_kept u p) a.1)
  kept_local [] (s ∷ ss) v h = refl
  kept_local (a ∷ p) (s ∷ ss) v h = by_step (step_eq a s) refl (kept_local p ss v)
    where
      by_step : (b : Bool) → step_eq a s ≡ b → ((ss ≡ p → ⊥) → kept_of (local g part past p ss v) ≡ kept_of v) → kept_of (if b then local g part past p ss v else v) ≡ kept_of v
      by_step true e more = more (λ f. h (λ i. sym (step_eq-sound a s e) i ∷ f i))
      by_step false e more = refl

  pub moved_itself : (p : Node) → moved_under p past p ≡ Some p
  moved_itself [] = refl
  moved_itself (a ∷ p) = ap (λ (b : Bool). if b then option_map (λ (us : Node). a ∷ us) (moved_under p past p) else Some
      (a ∷ p)) (step_eq-refl a) ∙ ap (option_map (λ (us : Node). a ∷ us)) (moved_itself p)

-- the index of a node among those beside it, this one for the root
abbrev pub index_at : ℕ → Node → ℕ
index_at root n = elim (parent_of n) [ None ↦ root | Some p ↦ p.1.1 ]

pub index_placed : (place : Place) (s : Tree) (n : Node) → (place_at place s n).1 ≡ index_at place.1 n
index_placed place s n = by_parent (parent_of n)
  where
    shown : Option (Node × Way) → Place
    shown o = elim o [ None ↦ place | Some p ↦ (Some (number_at s p.0, p.1.0), p.1.1) ]

    by_parent : (o : Option (Node × Way)) → (shown o).1 ≡ elim o [ None ↦ place.1 | Some p ↦ p.1.1 ]
    by_parent None = refl
    by_parent (Some p) = refl

-- of a node that is stored its own index is kept
pub own_index : (memory : ℕ → Option Info) (place : Place) (s : Tree) → Stored memory place s → (n : Node) (u : Tree)
    → tree_at s n ≡ Some u → with_index (index_at place.1 n) (memory (class_of u)) ≡ memory (class_of u)
own_index memory place s h n u is =
    let k = h n u is in
    ap (with_index (index_at place.1 n)) k.is ∙ (λ i. Some (record { class = k.class; up = (place_at place s n).0; index = sym (index_placed place s n) i; cells = kept_of u })) ∙ sym k.is

pub same_node : (a b : Node) → (a ≡ b) ⊎ (a ≡ b → ⊥)
same_node a b = by_test (node_eq a b) refl
  where
    by_test : (t : Bool) → node_eq a b ≡ t → (a ≡ b) ⊎ (a ≡ b → ⊥)
    by_test true e = inl (node_eq-sound a b e)
    by_test false e = inr (λ f. let h : node_eq a b ≡ true = subst (λ z. node_eq a z ≡ true) f (node_eq-refl a) in let m : true ≡ false = sym h ∙ e in cc)

module _ (g : Cell → Cell) (part : ℕ) (past : Way → Option Way) (IsNew : Tree → ℕ → Type 0)
    (keeps : KeepsParts past part) (t : Tree) (p : Node) (apart : IsApart t) (fits : FitsAt g part past t p)
    (origins : OriginsAt g part past IsNew t p) (news : AreNew g part past IsNew keeps t) where
  abbrev after : Tree
  after = with_node (with_cell g part) t p

  number_same : (n m : Node) (v : Tree) → moved_under p past n ≡ Some m → tree_at t n ≡ Some v → number_at after m ≡ number_at t n
  number_same n m v moves was =
      let there : tree_at after m ≡ Some (local g part past p n v) = tree_moved g part past keeps p n m t fits moves ∙ ap (option_map (local g part past p n)) was in
      ap (λ o. elim o [ None ↦ 0 | Some u ↦ class_of u ]) there ∙ same_number g part past IsNew keeps t p apart fits
      origins news n m v _ moves was there ∙ sym (ap (λ o. elim o [ None ↦ 0 | Some u ↦ class_of u ]) was)

  -- a node that is moved has the same parent, by its number, and stands at the index to which it is moved
  pub place_moved : (place : Place) (n m : Node) (v : Tree) → moved_under p past n ≡ Some m → tree_at t n ≡ Some v → place_at place after m ≡ ((place_at place t n).0, index_at place.1 m)
  place_moved place n m v moves was = by_end (snoc n)
    where
      shown : Tree → Option (Node × Way) → Place
      shown s o = elim o [ None ↦ place | Some p ↦ (Some (number_at s p.0, p.1.0), p.1.1) ]

      index : Option (Node × Way) → ℕ
      index o = elim o [ None ↦ place.1 | Some p ↦ p.1.1 ]

      by_end : (n ≡ []) ⊎ ((k : Node) × (s : Way) × (n ≡ k ++ s ∷ [])) → place_at place after m ≡ ((place_at place t n).0, index_at place.1 m)
      by_end (inl none) =
          let e : Some m ≡ Some [] = sym moves ∙ ap (moved_under p past) none ∙ moved-nil past p in
          let f : m ≡ [] = cc in
          ap (place_at place after) f ∙ sym (λ i. ((place_at place t (none i)).0, index_at place.1 (f i)))
      by_end (inr (k, s, is)) =
          let w = moved-snoc past part keeps p k s m (ap (moved_under p past) (sym is) ∙ moves) in
          let (v, above) = parent_there t k s v (ap (tree_at t) (sym is) ∙ was) in
          let end : parent_of m ≡ Some (w.parent, w.step) = ap parent_of w.is ∙ parent_of-snoc w.parent w.step in
          let up : (place_at place t n).0 ≡ Some (number_at t k, s.0) = ap (λ o. (shown t o).0) (ap parent_of is ∙ parent_of-snoc k s) in
          ap (shown after) end ∙ (λ i. (Some (number_same k w.parent v w.up above i, w.part_same i), w.step.1)) ∙ (λ i. (sym up i, sym (ap index end) i))

  module _ (memory later : ℕ → Option Info) (u : Tree) (c : Cell) (found : tree_at t p ≡ Some u) (here : cell_at u part ≡ Some c) (stored : Stored memory top t)
      (changed : later (class_of u) ≡ with_kept part (kept (g c)) (memory (class_of u)))
      (elsewhere : (n m : Node) (v : Tree) → tree_at t n ≡ Some v → moved_under p past n ≡ Some m → (n ≡ p → ⊥) → later (class_of v) ≡ with_index (index_at 0 m) (memory (class_of v)))
      (brought : (x : Tree) (j : ℕ) → IsNew x j → Stored later (Some (class_of u, part), j) x × (slice_get (children (g c)) j ≡ Some x)) where
    number_there : number_at after p ≡ class_of u
    number_there = ap (λ o. elim o [ None ↦ 0 | Some u ↦ class_of u ]) (changed_there (with_cell g part) t p ∙ ap (option_map (with_cell g part)) found) ∙ class-same g part u

    -- a new tree stands in the changed cell
    pub new_there : (x : Tree) (j : ℕ) (rest : Node) → IsNew x j → tree_at after (p ++ (part, j) ∷ rest) ≡ tree_at x rest
    new_there x j rest new =
        let at_p : tree_at after p ≡ Some (with_cell g part u) = changed_there (with_cell g part) t p ∙ ap (option_map (with_cell g part)) found in
        let child : slice_get (children_at (with_cell g part u) part) j ≡ Some x = ap (λ o. slice_get (kids o) j) (cell-same g part u ∙ ap (option_map g) here) ∙ (brought x j new).1 in
        tree_at-append after p ((part, j) ∷ rest) ∙ ap (option_and_then (λ v. tree_at v ((part, j) ∷ rest))) at_p ∙ ap (option_and_then (λ v. tree_at v rest)) child

    place_new : (x : Tree) (j : ℕ) (rest : Node) → IsNew x j → place_at top after (p ++ (part, j) ∷ rest) ≡ place_at (Some (class_of u, part), j) x rest
    place_new x j rest new = by_end (snoc rest)
      where
        shown : Place → Tree → Option (Node × Way) → Place
        shown place s o = elim o [ None ↦ place | Some p ↦ (Some (number_at s p.0, p.1.0), p.1.1) ]

        number : Option Tree → ℕ
        number o = elim o [ None ↦ 0 | Some u ↦ class_of u ]

        longer : (a b : Node) (s : Way) → a ++ (b ++ s ∷ []) ≡ (a ++ b) ++ s ∷ []
        longer [] b s = refl
        longer (x ∷ a) b s = ap (λ z. x ∷ z) (longer a b s)

        by_end : (rest ≡ []) ⊎ ((k : Node) × (s : Way) × (rest ≡ k ++ s ∷ [])) → place_at top after (p ++ (part, j) ∷ rest) ≡ place_at (Some (class_of u, part), j) x rest
        by_end (inl none) =
            ap (λ k. shown top after (parent_of (p ++ (part, j) ∷ k))) none ∙ ap (shown top after) (parent_of-snoc p (part, j)) ∙
            (λ i. (Some (number_there i, part), j)) ∙
            sym (ap (λ k. shown (Some (class_of u, part), j) x (parent_of k)) none)
        by_end (inr (k, s, is)) =
            ap (λ z. shown top after (parent_of (p ++ (part, j) ∷ z))) is ∙ ap (λ z. shown top after (parent_of z))
            (longer p ((part, j) ∷ k) s) ∙ ap (shown top after) (parent_of-snoc (p ++ (part, j) ∷ k) s) ∙
            (λ i. (Some (ap number (new_there x j k new) i, s.0), s.1)) ∙ sym (ap (shown (Some (class_of u, part), j) x) (ap parent_of is ∙ parent_of-snoc k s))

    -- the changed tree is stored
    pub stored_after : Stored later top after
    stored_after m w is = by_origin (origin g part past IsNew keeps p m t w origins is)
      where
        old_there : (n : Node) (v : Tree) → moved_under p past n ≡ Some m → tree_at t n ≡ Some v → (n ≡ p) ⊎ (n ≡ p → ⊥) → IsKept later (class_of w) (place_at top after m) (kept_of w)
        old_there n v moves was (inl same) =
            let e : Some v ≡ Some u = sym was ∙ ap (tree_at t) same ∙ found in
            let v_u : v ≡ u = cc in
            let f : Some m ≡ Some p = sym moves ∙ ap (moved_under p past) same ∙ moved_itself g part past p in
            let m_p : m ≡ p = cc in
            let h : Some w ≡ Some (with_cell g part u) = sym is ∙ ap (tree_at after) m_p ∙ changed_there (with_cell g part) t p ∙ ap (option_map (with_cell g part)) found in
            let w_u : w ≡ with_cell g part u = cc in
            let s = stored p u found in
            let number : class_of w ≡ class_of u = ap class_of w_u ∙ class-same g part u in
            let place : place_at top t p ≡ place_at top after m =
            (λ i. ((place_at top t (sym same i)).0, index_placed top t p i)) ∙ (λ i. ((place_at top t n).0, index_at 0 (sym m_p i))) ∙ sym (place_moved top n m v moves was) in
            let cells : changed_at (λ old. kept (g c)) (kept_of u) part ≡ kept_of w = sym (ap kept_of w_u ∙ kept_with g part u c here) in
            record {
              class = s.class;
              is = ap later number ∙ changed ∙ ap (with_kept part (kept (g c))) s.is
                  ∙ (λ i. Some (record { class = s.class; up = (place i).0; index = (place i).1; cells = cells i }));
            }
        old_there n v moves was (inr other) =
            let there : tree_at after m ≡ Some (local g part past p n v) = tree_moved g part past keeps p n m t fits moves ∙ ap (option_map (local g part past p n)) was in
            let h : Some w ≡ Some (local g part past p n v) = sym is ∙ there in
            let w_v : w ≡ local g part past p n v = cc in
            let s = stored n v was in
            let number : class_of w ≡ class_of v = same_number g part past IsNew keeps t p apart fits origins news n m v w moves was is in
            let place : ((place_at top t n).0, index_at 0 m) ≡ place_at top after m = sym (place_moved top n m v moves was) in
            let cells : kept_of v ≡ kept_of w = sym (ap kept_of w_v ∙ kept_local g part past p n v other) in
            record {
              class = s.class;
              is = ap later number ∙ elsewhere n m v was moves other
                  ∙ ap (with_index (index_at 0 m)) s.is
                  ∙ (λ i. Some (record { class = s.class; up = (place i).0; index = (place i).1; cells = cells i }));
            }

        by_origin : From g part past IsNew t p m w → IsKept later (class_of w) (place_at top after m) (kept_of w)
        by_origin (from.old n v moves was) = old_there n v moves was (same_node n p)
        by_origin (from.new x j rest new at' found_x) =
            let s = (brought x j new).0 rest w found_x in
            subst (λ place. IsKept later (class_of w) place (kept_of w)) (sym (ap (place_at top after) at' ∙ place_new x j rest new)) s
