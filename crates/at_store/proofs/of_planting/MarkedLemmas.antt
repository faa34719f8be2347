-- A tree is marked child by child, in the order of its steps.
use Rattle.std.proofs.Common.{◌≡◌, ℕ, suc, ◌<◌, ◌≤◌, Bool, true, false, cond, nat_eq, [], ◌∷◌, length, Option, Some, None, inl, inr, refl, sym, ap, ◌∙◌, subst, arith, option_and_then, is_some}
use Rattle.std.specs.List.{slice_get}
use Rattle.std.proofs.lemmas.Bool.{cases_eq, ne_eqb}
use Rattle.slab.specs.Slab.{Slab, get}
use Rattle.at_model.specs.Trees.{Tree, cells_of, class_of, from_cells}
use Rattle.at_model.specs.Paths.{Node, cell_at, children_at, tree_at}
use Rattle.at_model.proofs.of_edits.Moving.{Way}
use Rattle.at_model.proofs.Options.{led}
use Rattle.at_store.specs.Numbers.{IsApart, path_in}
use Rattle.at_store.specs.Memory.{Info, IsShallow, IsSpreadTo, Place, Stored, cells_in, kept, kept_of, kids_in, numbers_in, top, place_in, reindexed}
use Rattle.at_store.specs.View.{IsUnmarked, MarksNoMore, info_of, leaves_in, marked, memory_of, remarked, with_mark, stored_of}
use Rattle.at_store.specs.Marking.{AreMarkedBelow}
use Rattle.at_store.specs.declared.entry.Entry.{Entry}
use Rattle.at_store.proofs.of_planting.Composed.{child_stored}
use Rattle.at_store.proofs.of_planting.Freeing.{child_apart, child_numbered, spread_cell, spread_child, spread_root, spread_whole}
use Rattle.at_store.proofs.Looked.{kept_at, same_kids}
use Rattle.at_store.proofs.of_edits.Removed.{subtree_apart, subtree_stored}
use Rattle.at_store.proofs.Slots.{map_length}

-- in a memory that is as before it stays stored
pub stored_same : (before later : Slab Entry) → ((k : ℕ) → memory_of later k ≡ memory_of before k) → (place : Place) (x : Tree) → Stored (memory_of before) place x → Stored (memory_of later) place x
stored_same before later same place x h = subst (λ (m : ℕ → Option Info). Stored m place x) (λ i k. sym (same k) i) h

-- the root is marked
pub root_marked : (before later : Slab Entry) (node : ℕ) (b : Bool) → ((k : ℕ) → leaves_in later k ≡ remarked node b k
    (get before k)) → (place : Place) (x : Tree) → class_of x ≡ node → Stored (memory_of before) place x →
    IsSpreadTo b (leaves_in before) (leaves_in later) x (0, 0)
root_marked before later node b written place x same stored =
    spread_root b (leaves_in before) (leaves_in later) x (λ k. written k ∙ ap (λ n. remarked n b k (get before k)) (sym same) ∙ by_node k)
  where
    there : (o : Option Entry) (i : Info) → reindexed (place_in (stored_of before)) (class_of x) (info_of o) ≡ Some i → with_mark b o ≡ b
    there None i e = absurd cc
    there (Some e) i is = refl

    by_node : (k : ℕ) → remarked (class_of x) b k (get before k) ≡ cond (nat_eq k (class_of x)) b (leaves_in before k)
    by_node k = elim (cases_eq k (class_of x)) [
      | inl e ↦ subst (λ (j : ℕ). remarked (class_of x) b j (get before j) ≡ cond (nat_eq j (class_of x)) b (leaves_in before j)) (sym e)
          (ap (λ c. cond (nat_eq (class_of x) (class_of x)) c (leaves_in before (class_of x))) (there (get before (class_of x)) _ (stored [] x refl).is))
      | inr e ↦ ap (λ c. cond c (with_mark b (get before k)) (leaves_in before k)) (ne_eqb k (class_of x) e) ∙ sym (ap (λ c. cond c b (leaves_in before k)) (ne_eqb k (class_of x) e))
    ]

-- the numbers below a node that stands there
pub kids_there : (memory : ℕ → Option Info) (place : Place) (x : Tree) (node part : ℕ) → class_of x ≡ node
    → Stored memory place x → kids_in (memory node) part ≡ numbers_in (slice_get (kept_of x) part)
kids_there memory place x node part same stored = ap (λ j. kids_in (memory j) part) (sym same) ∙ ap (λ o. kids_in o part) (stored [] x refl).is

pub child_shallow : (levels : ℕ) (x y : Tree) (w : Way) → slice_get (children_at x w.0) w.1 ≡ Some y → IsShallow (suc levels) x → IsShallow levels y
child_shallow levels x y w child h n v is = let less : suc (length n) < suc levels = h (w ∷ n) v (ap (option_and_then (λ z. tree_at z n)) child ∙ is) in omega (arith, less)

-- one more child is marked
pub child_marked : (first : ℕ → Bool) (before mid later : Slab Entry) (b : Bool) (levels : ℕ) (place : Place) (x : Tree)
    (node part i k : ℕ) → class_of x ≡ node → IsApart x → Stored (memory_of before) place x
    → ((j : ℕ) → memory_of mid j ≡ memory_of before j) →
    IsShallow (suc levels) x → slice_get (kids_in (memory_of before node) part) i ≡ Some k
    → IsSpreadTo b first (leaves_in mid) x (part, i) → AreMarkedBelow k b levels mid later
    → IsSpreadTo b first (leaves_in later) x (part, suc i)
child_marked first before mid later b levels place x node part i k same apart stored stays shallow at' h marks =
    let (y, child, number) = child_numbered x part i k (ap (λ ns. slice_get ns i) (sym (kids_there (memory_of before) place x node part same stored)) ∙ at') in
    spread_child b first (leaves_in mid) (leaves_in later) x y (part, i) apart child h
    (marks (Some (class_of x, part), i) y number (child_apart x y (part, i) apart child)
    (stored_same before mid stays _ y (child_stored (memory_of before) place x (part, i) y stored child))
    (child_shallow levels x y (part, i) child shallow))

-- the last child of a component
pub part_marked : (b : Bool) (first later : ℕ → Bool) (memory : ℕ → Option Info) (place : Place) (x : Tree)
    (node part i : ℕ) → class_of x ≡ node → Stored memory place x → length (kids_in (memory node) part) ≡ i
    → IsSpreadTo b first later x (part, i) →
    IsSpreadTo b first later x (suc part, 0)
part_marked b first later memory place x node part i same stored len h =
    let kids = kids_there memory place x node part same stored ∙ ap numbers_in (kept_at (from_cells (cells_of x)) part) ∙ same_kids (cell_at x part) in
    let e : i ≡ length (children_at x part) = sym len ∙ ap length kids ∙ map_length class_of (children_at x part) in
    spread_cell b first later x part (subst (λ (j : ℕ). IsSpreadTo b first later x (part, j)) e h)

-- the last component
pub whole_marked : (b : Bool) (first later : ℕ → Bool) (memory : ℕ → Option Info) (place : Place) (x : Tree)
    (node part : ℕ) → class_of x ≡ node → Stored memory place x → length (cells_in (memory node)) ≤ part
    → IsSpreadTo b first later x (part, 0) →
    (k : ℕ) → later k ≡ cond (is_some (path_in k x)) b (first k)
whole_marked b first later memory place x node part same stored few h =
    let cells = ap (λ j. cells_in (memory j)) (sym same) ∙ ap cells_in (stored [] x refl).is in
    let long : length (cells_in (memory node)) ≡ length (from_cells (cells_of x)) = ap length cells ∙ map_length kept (from_cells (cells_of x)) in
    spread_whole b first later x part (omega (arith, long, few)) h

-- a tree below a node has no more levels
pub subtree_shallow : (levels : ℕ) (s : Tree) (n : Node) (x : Tree) → IsShallow levels s → tree_at s n ≡ Some x → IsShallow levels x
subtree_shallow levels s [] x h is = let same : s ≡ x = cc in subst (IsShallow levels) same h
subtree_shallow levels s (r ∷ n) x h is =
    let (y, child, below) = led (λ z. tree_at z n) (slice_get (children_at s r.0) r.1) x is in
    subtree_shallow levels y n x (λ m v there. (let less : suc (length m) < levels = h (r ∷ m) v (ap (option_and_then (λ z. tree_at z m)) child ∙ there) in omega (arith, less))) below

-- where no more is marked than nothing
pub unmarked_still : (before later : Slab Entry) → MarksNoMore before later → IsUnmarked before → IsUnmarked later
unmarked_still before later no_more h k = by_mark (leaves_in later k) refl
  where
    by_mark : (b : Bool) → leaves_in later k ≡ b → leaves_in later k ≡ false
    by_mark true e = let f : true ≡ false = sym (no_more k e) ∙ h k in absurd cc
    by_mark false e = e

-- just what stands below the node is marked
pub marked_below : (before later : Slab Entry) (s : Tree) (n : Node) (x : Tree) (node : ℕ)
    → Stored (memory_of before) top s → IsApart s → IsShallow 512 s → tree_at s n ≡ Some x → class_of x ≡ node
    → IsUnmarked before → AreMarkedBelow node true 512 before later →
    (k : ℕ) → leaves_in later k ≡ is_some (path_in k x)
marked_below before later s n x node stored apart shallow is number none marks k =
    let (place, below) = subtree_stored (memory_of before) top s n x stored is in
    marks place x number (subtree_apart s n x apart is) below (subtree_shallow 512 s n x shallow is) k ∙ ap (cond (is_some (path_in k x)) true) (none k) ∙ itself (is_some (path_in k x))
  where
    itself : (b : Bool) → cond b true false ≡ b
    itself true = refl
    itself false = refl

-- the marks below the node are taken back, and there were no others
pub unmarked_below : (before later : Slab Entry) (s : Tree) (n : Node) (x : Tree) → Stored (memory_of before) top s
    → IsApart s → IsShallow 512 s → tree_at s n ≡ Some x
    → ((k : ℕ) → leaves_in before k ≡ true → is_some (path_in k x) ≡ true) →
    AreMarkedBelow (class_of x) false 512 before later → IsUnmarked later
unmarked_below before later s n x stored apart shallow is all marks k =
    let (place, below) = subtree_stored (memory_of before) top s n x stored is in
    marks place x refl (subtree_apart s n x apart is) below (subtree_shallow 512 s n x shallow is) k ∙ by_path (is_some (path_in k x)) refl (leaves_in before k) refl
  where
    by_path : (b : Bool) → is_some (path_in k x) ≡ b → (m : Bool) → leaves_in before k ≡ m → cond b false m ≡ false
    by_path true there m e = refl
    by_path false out false e = refl
    by_path false out true e = let f : true ≡ false = sym (all k e) ∙ out in absurd cc

-- what was marked is gone
pub gone_unmarked : (before later : Slab Entry) (x : Tree) → MarksNoMore before later → ((k : ℕ) → leaves_in before k
    ≡ is_some (path_in k x)) → ((k : ℕ) → is_some (path_in k x) ≡ true → memory_of later k ≡ None) → IsUnmarked later
gone_unmarked before later x fewer marks freed k = by_mark (leaves_in later k) refl
  where
    none_marked : (o : Option Entry) → reindexed (place_in (stored_of later)) k (info_of o) ≡ None → marked o ≡ false
    none_marked None e = refl
    none_marked (Some entry) e = absurd cc

    by_mark : (b : Bool) → leaves_in later k ≡ b → leaves_in later k ≡ false
    by_mark true e = none_marked (get later k) (freed k (sym (marks k) ∙ fewer k e))
    by_mark false e = e
