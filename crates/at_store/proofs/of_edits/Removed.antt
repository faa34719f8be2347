-- A tree that stands below a node is freed.
use Rattle.std.proofs.Common.{◌≡◌, ℕ, [], ◌∷◌, ◌++◌, cond, false, Option, Some, None, refl, sym, ap, ◌∙◌, subst, is_some}
use Rattle.std.specs.Prelude.{is_none}
use Rattle.std.specs.List.{slice_get}
use Rattle.at_model.specs.Trees.{Tree, class_of}
use Rattle.at_model.specs.Paths.{Node, tree_at, children_at, parent_of}
use Rattle.at_model.specs.Edits.{past_drop}
use Rattle.at_model.proofs.of_edits.Moving.{Way}
use Rattle.at_model.proofs.Options.{led}
use Rattle.at_model.proofs.of_edits.Surviving.{moved_out, drop_out, parent_is}
use Rattle.at_store.specs.Numbers.{IsApart, path_in}
use Rattle.at_store.specs.Memory.{Info, IsFreed, Place, Stored, place_at, top, up_in}
use Rattle.at_store.proofs.of_planting.Composed.{child_stored}
use Rattle.at_store.proofs.of_planting.Freeing.{child_apart}
use Rattle.at_store.proofs.of_edits.Stored.{moved_itself}
use Rattle.at_store.proofs.Within.{stands_within}

pub subtree_stored : (memory : ℕ → Option Info) (place : Place) (s : Tree) (n : Node) (x : Tree) → Stored memory place s → tree_at s n ≡ Some x → (q : Place) × Stored memory q x
subtree_stored memory place s [] x h is = let same : s ≡ x = cc in (place, subst (Stored memory place) same h)
subtree_stored memory place s (r ∷ n) x h is =
    let (y, child, below) = led (λ z. tree_at z n) (slice_get (children_at s r.0) r.1) x is in
    subtree_stored memory (Some (class_of s, r.0), r.1) y n x (child_stored memory place s r y h child) below

pub subtree_apart : (s : Tree) (n : Node) (x : Tree) → IsApart s → tree_at s n ≡ Some x → IsApart x
subtree_apart s [] x h is = let same : s ≡ x = cc in subst IsApart same h
subtree_apart s (r ∷ n) x h is =
    let (y, child, below) = led (λ z. tree_at z n) (slice_get (children_at s r.0) r.1) x is in
    subtree_apart y n x (child_apart s y r h child) below

-- just the numbers below the node are freed
pub freed_below : (memory freed : ℕ → Option Info) (place : Place) (s : Tree) (n : Node) (x : Tree)
    → Stored memory place s → IsApart s → tree_at s n ≡ Some x → IsFreed (class_of x) memory freed → (k : ℕ)
    → freed k ≡ cond (is_some (path_in k x)) None (memory k)
freed_below memory freed place s n x stored apart is free = let (q, below) = subtree_stored memory place s n x stored is in free q x refl (subtree_apart s n x apart is) below

-- the parent stays
pub parent_stays : (s x u : Tree) (n p : Node) (way : Way) → IsApart s → parent_of n ≡ Some (p, way) → tree_at s n ≡ Some x → tree_at s p ≡ Some u → is_some (path_in (class_of u) x) ≡ false
parent_stays s x u n p way apart under there found =
    let stood : tree_at s (p ++ way ∷ []) ≡ Some x = ap (tree_at s) (sym (parent_is n (p, way) under)) ∙ there in
    stands_within s x (p ++ way ∷ []) apart stood p u found ∙ sym (moved_out (past_drop way) way (drop_out way) p p) ∙ ap is_none (moved_itself (λ c. c) way.0 (past_drop way) p)

-- where a node stands, told by its parent
pub place_below : (s u : Tree) (n p : Node) (way : Way) → parent_of n ≡ Some (p, way) → tree_at s p ≡ Some u → place_at top s n ≡ (Some (class_of u, way.0), way.1)
place_below s u n p way under found =
    ap (λ (o : Option (Node × Way)). elim o [ None ↦ top | Some q ↦ (Some ((elim (tree_at s q.0) [ None ↦ 0 | Some v ↦ class_of v ]), q.1.0), q.1.1) ]) under ∙
    ap (λ (o : Option Tree). (Some ((elim o [ None ↦ 0 | Some v ↦ class_of v ]), way.0), way.1)) found

-- and as it is kept
pub up_below : (memory : ℕ → Option Info) (s u x : Tree) (n p : Node) (way : Way) → Stored memory top s → parent_of n ≡
    Some (p, way) → tree_at s p ≡ Some u → tree_at s n ≡ Some x → up_in (memory (class_of x)) ≡ Some (class_of u, way.0)
up_below memory s u x n p way h under found there = ap up_in (h n x there).is ∙ ap (λ (q : Place). q.0) (place_below s u n p way under found)
