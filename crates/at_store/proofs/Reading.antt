-- What an idle store shows, from what its memory tells.
use Rattle.std.proofs.Common.{◌≡◌, ◌<◌, ◌≤◌, ℕ, suc, [], ◌∷◌, Option, Some, None, refl, sym, ap, ◌∙◌, arith, subst, length, is_some, option_map, option_and_then}
use Rattle.std.specs.List.{slice_get}
use Rattle.std.proofs.lemmas.List.{length-map}
use Rattle.at_model.specs.Run.{Idx}
use Rattle.at_model.specs.Meaning.{content}
use Rattle.at_model.specs.Trees.{Tree, class_of}
use Rattle.at_model.specs.Paths.{Node, tree_at, children_at}
use Rattle.at_model.proofs.Options.{led, mapped}
use Rattle.at_store.specs.Numbers.{path_in, relabel}
use Rattle.at_store.specs.Memory.{Info, IsShallow, Keeps, Place, Stored, class_in, index_in, kids_in, top}
use Rattle.at_store.specs.Grown.{shown_below}
use Rattle.at_store.specs.View.{memory_of}
use Rattle.at_store.specs.Shown.{Shown, IsIdle, numbers, path, tree}
use Rattle.at_store.proofs.Found.{number_found, named}
use Rattle.at_store.proofs.of_planting.Growing.{class-grown, grown-stored}
use Rattle.at_store.proofs.of_planting.Composed.{child_stored}
use Rattle.at_store.proofs.Classes.{nodes_relabelled}
use Rattle.at_store.proofs.Relabelled.{relabelled-tree_at}
use Rattle.at_store.proofs.Looked.{absent, index_is}
use Rattle.at_store.proofs.Sizes.{below_smaller, children_fewer, index_fewer, within_nodes}
use Rattle.at_store.proofs.Walked.{kids_kept}

pub root_path : (s : Shown) → IsIdle s → path s s.root ≡ Some []
root_path s h = ap (λ k. path_in k (numbers s)) (sym (class-grown (memory_of s.slab) 512 s.root)) ∙ named (numbers s) h.keeps.apart [] (numbers s) refl

pub there : (s : Shown) → IsIdle s → (k : ℕ) → is_some (memory_of s.slab k) ≡ is_some (path s k)
there s h k = by_path (path s k) refl
  where
    by_path : (o : Option Node) → path s k ≡ o → is_some (memory_of s.slab k) ≡ is_some o
    by_path None e = ap is_some (absent (memory_of s.slab) (numbers s) h.keeps k e)
    by_path (Some n) e =
        let (u, is, number) = number_found (numbers s) k n e in
        let kept = h.keeps.stored n u is in
        ap is_some (ap (memory_of s.slab) (sym number) ∙ kept.is)

stored_below : (memory : ℕ → Option Info) (place : Place) (s : Tree) (n : Node) (u : Tree) → Stored memory place s → tree_at s n ≡ Some u → (p : Place) × Stored memory p u
stored_below memory place s [] u h is = let e : s ≡ u = cc in (place, subst (Stored memory place) e h)
stored_below memory place s (w ∷ n) u h is =
    let (x, child, found) = led (λ v. tree_at v n) (slice_get (children_at s w.0) w.1) u is in
    stored_below memory (Some (class_of s, w.0), w.1) x n u (child_stored memory place s w x h child) found

shallow_below : (levels : ℕ) (s : Tree) (n : Node) (u : Tree) → IsShallow levels s → tree_at s n ≡ Some u → IsShallow levels u
shallow_below levels s [] u h is = let e : s ≡ u = cc in subst (IsShallow levels) e h
shallow_below levels s (w ∷ n) u h is =
    let (x, child, found) = led (λ v. tree_at v n) (slice_get (children_at s w.0) w.1) u is in
    shallow_below levels x n u (λ m y at'. let low : suc (length m) < levels = h (w ∷ m) y (ap (option_and_then (λ v. tree_at v m)) child ∙ at') in omega (arith, low)) found

-- the tree that grows from the number of a node is the tree there
pub below_grown : (s : Shown) → IsIdle s → (k : ℕ) (n : Node) (u : Tree) → path s k ≡ Some n → tree_at (tree s) n ≡ Some u → shown_below (memory_of s.slab) 512 k ≡ u
below_grown s h k n u p is =
    let f = class_in (memory_of s.slab) in
    let (v, at', number) = number_found (numbers s) k n p in
    let same : relabel f v ≡ u = (let e : Some (relabel f v) ≡ Some u = sym (relabelled-tree_at f (numbers s) n ∙ ap (option_map (relabel f)) at') ∙ is in cc) in
    let (place, below) = stored_below (memory_of s.slab) top (numbers s) n v h.keeps.stored at' in
    ap (shown_below (memory_of s.slab) 512) (sym number) ∙ ap (relabel f) (grown-stored (memory_of s.slab) place 512 v below (shallow_below 512 (numbers s) n v h.keeps.shallow at')) ∙ same

-- the node of a number is there in the tree
pub shown_there : (s : Shown) → (k : ℕ) (n : Node) → path s k ≡ Some n → (u : Tree) × (tree_at (numbers s) n ≡ Some u)
    × (class_of u ≡ k) × (tree_at (tree s) n ≡ Some (relabel (class_in (memory_of s.slab)) u))
shown_there s k n p =
    let f = class_in (memory_of s.slab) in
    let (u, is, number) = number_found (numbers s) k n p in
    (u, is, number, relabelled-tree_at f (numbers s) n ∙ ap (option_map (relabel f)) is)

-- a node has as many children as the limits allow, in any memory that keeps the tree
pub few_kept : (s : Shown) → IsIdle s → (memory : ℕ → Option Info) → Keeps memory (numbers s) None →
    (n : Node) (u : Tree) → tree_at (numbers s) n ≡ Some u → (part : ℕ) →
    length (kids_in (memory (class_of u)) part) ≤ 16777216
few_kept s h memory keeps n u is part =
    let same : length (kids_in (memory (class_of u)) part) ≡ length (children_at u part) = ap length (kids_kept memory (numbers s) keeps n u is part) ∙ length-map (children_at u part) class_of in
    omega (arith, same, children_fewer u part, below_smaller (numbers s) n u is, nodes_relabelled (class_in (memory_of s.slab)) (numbers s), within_nodes (tree s) h.limits)

pub few_children : (s : Shown) → IsIdle s → (k part : ℕ) → length (kids_in (memory_of s.slab k) part) ≤ 16777216
few_children s h k part = by_path (path s k) refl
  where
    by_path : (o : Option Node) → path s k ≡ o → length (kids_in (memory_of s.slab k) part) ≤ 16777216
    by_path None e = let none : length (kids_in (memory_of s.slab k) part) ≡ 0 = ap (λ o. length (kids_in o part)) (absent (memory_of s.slab) (numbers s) h.keeps k e) in omega (arith, none)
    by_path (Some n) e =
        let (u, is, number) = number_found (numbers s) k n e in
        subst (λ (j : ℕ). length (kids_in (memory_of s.slab j) part) ≤ 16777216) number (few_kept s h (memory_of s.slab) h.keeps n u is part)

pub small_index : (s : Shown) → IsIdle s → (k : ℕ) → index_in (memory_of s.slab k) < 16777216
small_index s h k = by_path (path s k) refl
  where
    by_path : (o : Option Node) → path s k ≡ o → index_in (memory_of s.slab k) < 16777216
    by_path None e = let none : index_in (memory_of s.slab k) ≡ 0 = ap index_in (absent (memory_of s.slab) (numbers s) h.keeps k e) in omega (arith, none)
    by_path (Some n) e =
        let (u, is, number, there) = shown_there s k n e in
        let same : index_in (memory_of s.slab k) ≡ content (tree s) (Idx n) =
        index_is (memory_of s.slab) (numbers s) h.keeps k ∙ ap (λ (o : Option Node). elim o as (λ _. ℕ) [ None ↦ 0 | Some m ↦ content (tree s) (Idx m) ]) e in
        omega (arith, same, index_fewer (tree s) n _ there, within_nodes (tree s) h.limits)

pub shown_named : (s : Shown) → IsIdle s → (n : Node) (u : Tree) → tree_at (tree s) n ≡ Some u → (k : ℕ) × (path s k ≡ Some n)
shown_named s h n u is =
    let f = class_in (memory_of s.slab) in
    let (v, at', same) = mapped (relabel f) (tree_at (numbers s) n) u (sym (relabelled-tree_at f (numbers s) n) ∙ is) in
    (class_of v, named (numbers s) h.keeps.apart n v at')
