-- A commit puts a tree in the place of a node.
use Rattle.std.proofs.Common.{◌≡◌, ℕ, Bool, true, false, List, [], ◌∷◌, ◌++◌, cond, nat_eq, option_map, Option, Some, None, inl, inr, refl, sym, ap, ◌∙◌, subst, is_some}
use Rattle.std.specs.List.{slice_get}
use Rattle.std.proofs.lemmas.Bool.{cases_eq, eq-eqb, ne_eqb}
use Rattle.at_model.specs.Classes.{Classes}
use Rattle.at_model.specs.Trees.{Cell, Tree, cells_of, class_of, from_cells}
use Rattle.at_model.specs.Edits.{Edit, changed_at, left_by, with_child, with_node}
use Rattle.at_model.specs.Edits as edit
use Rattle.at_model.specs.Paths.{Node, cell_at, children_at, parent_of, tree_at}
use Rattle.at_model.proofs.of_edits.Conforming.{root_alone, set_in_parent}
use Rattle.at_model.proofs.of_edits.Moving.{Way}
use Rattle.at_model.proofs.Options.{led}
use Rattle.at_model.proofs.of_edits.Surviving.{parent_is}
use Rattle.at_model.proofs.of_edits.Untouched.{tree_at-append, in_cell as kids}
use Rattle.at_store.specs.Numbers.{path_in}
use Rattle.at_store.specs.Memory.{Info, IsFreed, IsReplaced, IsShallow, Keeps, Kept, Place, index_in, kept, kept_of, place_at, placed, relinked, replaced, rewritten, top, up_in, with_kept, with_kids, with_numbers, with_place, AreAlike}
use Rattle.at_store.specs.View.{IsUnmarked, MarksNoMore, memory_of, stored_of}
use Rattle.at_store.proofs.Arranged.{settled, stands_once}
use Rattle.at_store.specs.Touching.{gone}
use Rattle.at_store.specs.Shown.{Shown, numbers}
use Rattle.at_store.specs.Preparing.{DoesSet, IsCommitted, IsPrepared, brought, stands_in}
use Rattle.at_store.proofs.Classes.{classes_stay}
use Rattle.at_store.proofs.of_edits.Commits.{set_there}
use Rattle.at_store.proofs.of_edits.Committed.{committed, root_stays, root_was, shallow_left}
use Rattle.at_store.proofs.of_planting.Freed.{root_set}
use Rattle.at_store.proofs.Looked.{kept_at}
use Rattle.at_store.proofs.of_planting.MarkedLemmas.{gone_unmarked}
use Rattle.at_store.proofs.of_edits.Removed.{freed_below, place_below}
use Rattle.at_store.proofs.Slots.{class_placed, class_rewritten}
use Rattle.at_store.proofs.of_edits.Taken.{one_changed}

cell_got : (o : Option Cell) (i : ℕ) (x : Tree) → slice_get (kids o) i ≡ Some x → (c : Cell) × (o ≡ Some c)
cell_got None i x e = absurd cc
cell_got (Some c) i x e = (c, refl)

-- a node that has a parent stands in a cell of it
parent_there : (s x : Tree) (n p : Node) (way : Way) → parent_of n ≡ Some (p, way) → tree_at s n ≡ Some x → (u : Tree) × (tree_at s p ≡ Some u) × ((c : Cell) × (cell_at u way.0 ≡ Some c))
parent_there s x n p way under there =
    let stood : tree_at s (p ++ way ∷ []) ≡ Some x = ap (tree_at s) (sym (parent_is n (p, way) under)) ∙ there in
    let (u, found, below) = led (λ u. tree_at u (way ∷ [])) (tree_at s p) x (sym (tree_at-append s p (way ∷ [])) ∙ stood) in
    let (v, child, end) = led (λ z. tree_at z []) (slice_get (children_at u way.0) way.1) x below in
    (u, found, cell_got (cell_at u way.0) way.1 v child)

not_both : (o : Option (Node × Way)) (q : Node × Way) → o ≡ None → o ≡ Some q → ⊥
not_both None q e f = cc
not_both (Some r) q e f = cc

-- what is freed stays so, whatever comes in
gone_first : (n part root : ℕ) (place : Place) (f : List ℕ → List ℕ) (k : ℕ) (o q : Option Info) (b : Bool) → relinked n
    part f k o ≡ q → placed root place k (relinked n part f k (cond b None o)) ≡ cond b None (placed root place k q)
gone_first n part root place f k o q false e = ap (placed root place k) e
gone_first n part root place f k o q true e = by_tests (nat_eq k n) (nat_eq k root)
  where
    by_tests : (a b : Bool) → cond b (with_place place (cond a (with_kids part f None) None)) (cond a (with_kids part f None) None) ≡ None
    by_tests true true = refl
    by_tests true false = refl
    by_tests false true = refl
    by_tests false false = refl

module _ (classes : Classes) (old mid new : Shown) (e : Edit) (node root : ℕ) (p : IsPrepared classes old e (DoesSet node root) mid)
    (same_root : new.root ≡ cond (nat_eq node mid.root) root mid.root) (waiting : new.waiting ≡ None) (leaving : new.leaving ≡ None) (limit : new.limit ≡ mid.limit)
    (fewer : MarksNoMore mid.slab new.slab) (freed : ℕ → Option Info) (free : IsFreed node (memory_of mid.slab) freed)
    (alike : AreAlike (replaced (up_in (memory_of mid.slab node)) (index_in (memory_of mid.slab node)) root freed) (stored_of new.slab)) where
  abbrev memory : ℕ → Option Info
  memory = memory_of mid.slab

  abbrev later : ℕ → Option Info
  later = replaced (up_in (memory_of mid.slab node)) (index_in (memory_of mid.slab node)) root freed

  changes : (k : ℕ) → later k ≡ replaced (up_in (memory_of mid.slab node)) (index_in (memory_of mid.slab node)) root freed k
  changes k = refl

  abbrev s : Tree
  s = numbers old

  abbrev place : Node
  place = p.does.place

  abbrev w : Tree
  w = p.does.brings

  abbrev x : Tree
  x = p.does.gone

  unmarked : ((k : ℕ) → is_some (path_in k x) ≡ true → memory_of new.slab k ≡ None) → IsUnmarked new.slab
  unmarked = gone_unmarked mid.slab new.slab x fewer (λ k. p.marks k ∙ ap (λ y. stands_in k (gone s y)) p.does.is ∙ ap (stands_in k) p.does.there)

  kept_before : Keeps memory s (Some w)
  kept_before = subst (λ (y : Edit). Keeps memory s (brought y)) p.does.is p.keeps

  frees : (k : ℕ) → freed k ≡ cond (is_some (path_in k x)) None (memory k)
  frees = freed_below memory freed top s place x kept_before.stored kept_before.apart p.does.there (subst (λ (j : ℕ). IsFreed j memory freed) (sym p.does.number) free)

  shallow : IsShallow 512 (left_by s (edit.Set place w))
  shallow = subst (λ (y : Edit). IsShallow 512 (left_by s y)) p.does.is (shallow_left classes old mid new e (DoesSet node root) p)

  up_is : (q : Place) → place_at top s place ≡ q → up_in (memory node) ≡ q.0
  up_is q at' = ap (λ j. up_in (memory j)) (sym p.does.number) ∙ ap up_in (kept_before.stored place x p.does.there).is ∙ ap (λ (q : Place). q.0) at'

  index_is : (q : Place) → place_at top s place ≡ q → index_in (memory node) ≡ q.1
  index_is q at' = ap (λ j. index_in (memory j)) (sym p.does.number) ∙ ap index_in (kept_before.stored place x p.does.there).is ∙ ap (λ (q : Place). q.1) at'

  -- in the place of the root
  module _ (none : parent_of place ≡ None) where
    at_root : place ≡ []
    at_root = root_alone place none

    whole : s ≡ x
    whole = let f : Some s ≡ Some x = ap (tree_at s) (sym at_root) ∙ p.does.there in cc

    on_top : place_at top s place ≡ top
    on_top = ap (place_at top s) at_root

    left_root : left_by s (edit.Set place w) ≡ w
    left_root = ap (with_node (λ u. w) s) at_root

    written_root : (k : ℕ) → later k ≡ cond (is_some (path_in k x)) None (memory k)
    written_root k = changes k ∙ ap (λ o. replaced o (index_in (memory node)) root freed k) (up_is top on_top) ∙ frees k

    done_root : Keeps later w None
    done_root = root_set memory later x written_root w (subst (λ (t : Tree). Keeps memory t (Some w)) whole kept_before) (subst (IsShallow 512) left_root shallow)

    root_is : class_of w ≡ new.root
    root_is =
        let number : node ≡ mid.root = sym p.does.number ∙ ap class_of (sym whole) ∙ root_was classes old mid new e (DoesSet node root) p in
        p.does.root ∙ sym (same_root ∙ ap (λ b. cond b root mid.root) (eq-eqb node mid.root number))

    pub root_committed : IsCommitted old e new
    root_committed =
        let left_is : left_by s p.numbered ≡ w = ap (left_by s) p.does.is ∙ left_root in
        let keeps : Keeps later (left_by s p.numbered) None = subst (λ (t : Tree). Keeps later t None) (sym left_is) done_root in
        let same : (k : ℕ) → memory_of new.slab k ≡ later k = settled (stored_of new.slab) later (left_by s p.numbered) alike keeps in
        let settles : Keeps (memory_of new.slab) (left_by s p.numbered) None = subst (λ (m : ℕ → Option Info). Keeps m (left_by s p.numbered) None) (λ i k. sym (same k) i) keeps in
        committed classes old mid new e (DoesSet node root) p settles (ap class_of left_is ∙ root_is)
        (classes_stay memory (memory_of new.slab) (λ k. is_some (path_in k x)) (λ k o. o) (λ k o. refl) (λ k. same k ∙ written_root k) top (left_by s p.numbered) settles.stored)
        waiting leaving limit (unmarked (λ k here. same k ∙ written_root k ∙ ap (λ b. cond b None (memory k)) here))

  -- in the place of a node that is no root
  module _ (above : Node) (way : Way) (under : parent_of place ≡ Some (above, way)) where
    parent : (u : Tree) × (tree_at s above ≡ Some u) × ((c : Cell) × (cell_at u way.0 ≡ Some c))
    parent = parent_there s x place above way under p.does.there

    abbrev u : Tree
    u = parent.0

    abbrev c : Cell
    c = parent.2.0

    abbrev f : List ℕ → List ℕ
    f = λ ns. changed_at (λ n. class_of w) ns way.1

    abbrev spot : Place
    spot = (Some (class_of u, way.0), way.1)

    abbrev now : Kept
    now = with_numbers f (kept c)

    stands : place_at top s place ≡ spot
    stands = place_below s u place above way under parent.1

    at_parent : with_kids way.0 f (memory (class_of u)) ≡ with_kept way.0 now (memory (class_of u))
    at_parent =
        let there = kept_before.stored above u parent.1 in
        let cell_is : slice_get (kept_of u) way.0 ≡ Some (kept c) = kept_at (from_cells (cells_of u)) way.0 ∙ ap (option_map kept) parent.2.1 in
        ap (with_kids way.0 f) there.is
        ∙ (λ j. Some (record {
          class = there.class;
          up = (place_at top s above).0;
          index = (place_at top s above).1;
          cells = one_changed (with_numbers f) (kept_of u) way.0 (kept c) now cell_is refl j;
        })) ∙
        sym (ap (with_kept way.0 now) there.is)

    same : (k : ℕ) → relinked (class_of u) way.0 f k (memory k) ≡ rewritten (class_of u) way.0 now k (memory k)
    same k = elim (cases_eq k (class_of u)) [
      | inl e ↦ subst (λ (j : ℕ). relinked (class_of u) way.0 f j (memory j) ≡ rewritten (class_of u) way.0 now j
          (memory j)) (sym e) (ap (λ o. cond (nat_eq (class_of u) (class_of u)) o (memory (class_of u))) at_parent)
      | inr e ↦ ap (λ b. cond b (with_kids way.0 f (memory k)) (memory k)) (ne_eqb k (class_of u) e) ∙ sym (ap (λ b. cond b (with_kept way.0 now (memory k)) (memory k)) (ne_eqb k (class_of u) e))
    ]

    written : (k : ℕ) → later k ≡ cond (is_some (path_in k x)) None (placed (class_of w) spot k (rewritten (class_of u) way.0 now k (memory k)))
    written k = changes k ∙ (λ j. replaced (up_is spot stands j) (index_is spot stands j) (sym p.does.root j) freed k)
        ∙ ap (λ o. placed (class_of w) spot k (relinked (class_of u) way.0 f k o)) (frees k) ∙
        gone_first (class_of u) way.0 (class_of w) spot f k (memory k) _ (is_some (path_in k x)) (same k)

    done : Keeps later (left_by s (edit.Set place w)) None
    done = set_there memory later s w u x kept_before place above way under c parent.1 parent.2.1 p.does.there written shallow

    root_remains : class_of s ≡ new.root
    root_remains =
        let was = root_was classes old mid new e (DoesSet node root) p in
        let other : (node ≡ mid.root → ⊥) = λ e.
        (let top_is : place ≡ [] = kept_before.apart place [] x s p.does.there refl (p.does.number ∙ e ∙ sym was) in
        not_both (parent_of place) (above, way) (ap parent_of top_is) under) in
        was ∙ sym (same_root ∙ ap (λ b. cond b root mid.root) (ne_eqb node mid.root other))

    pub below_committed : IsCommitted old e new
    below_committed =
        let keeps : Keeps later (left_by s p.numbered) None = subst (λ (y : Edit). Keeps later (left_by s y) None) (sym p.does.is) done in
        let same : (k : ℕ) → memory_of new.slab k ≡ later k = settled (stored_of new.slab) later (left_by s p.numbered) alike keeps in
        let settles : Keeps (memory_of new.slab) (left_by s p.numbered) None = subst (λ (m : ℕ → Option Info). Keeps m (left_by s p.numbered) None) (λ i k. sym (same k) i) keeps in
        committed classes old mid new e (DoesSet node root) p settles
        (ap (λ (y : Edit). class_of (left_by s y)) p.does.is ∙ ap class_of (set_in_parent [] w place (above, way) under s) ∙ root_stays (with_child (λ u. w) way.1) way.0 s above ∙ root_remains)
        (classes_stay memory (memory_of new.slab) (λ k. is_some (path_in k x))
        (λ k o. placed (class_of w) spot k (rewritten (class_of u) way.0 now k o)) (λ k o. class_placed (class_of w)
        spot k (rewritten (class_of u) way.0 now k o) ∙ class_rewritten (class_of u) way.0 now k o)
        (λ k. same k ∙ written k) top (left_by s p.numbered) settles.stored)
        waiting leaving limit (unmarked (λ k here. same k ∙ written k ∙ ap (λ b. cond b None (placed (class_of w) spot k (rewritten (class_of u) way.0 now k (memory k)))) here))

pub set_committed : (classes : Classes) (old mid new : Shown) (e : Edit) (node root : ℕ) → IsPrepared classes old e (DoesSet node root) mid →
    IsReplaced node root (memory_of mid.slab) (stored_of new.slab) → MarksNoMore mid.slab new.slab →
    new.root ≡ cond (nat_eq node mid.root) root mid.root → new.waiting ≡ None → new.leaving ≡ None →
    new.limit ≡ mid.limit → IsCommitted old e new
set_committed classes old mid new e node root p replaces fewer same_root waiting leaving limit =
    by_parent (parent_of p.does.place) refl
  where
    h : Keeps (memory_of mid.slab) (numbers old) (Some p.does.brings)
    h = subst (λ (y : Edit). Keeps (memory_of mid.slab) (numbers old) (brought y)) p.does.is p.keeps

    after : (freed : ℕ → Option Info) × (IsFreed node (memory_of mid.slab) freed) × AreAlike (replaced
        (up_in (memory_of mid.slab node)) (index_in (memory_of mid.slab node)) root freed) (stored_of new.slab)
    after = replaces (stands_once (memory_of mid.slab) (numbers old) h.stored h.apart p.does.place p.does.gone node p.does.there p.does.number)

    by_parent : (o : Option (Node × Way)) → parent_of p.does.place ≡ o → IsCommitted old e new
    by_parent None is =
        root_committed classes old mid new e node root p same_root waiting leaving limit fewer after.0 after.1 after.2 is
    by_parent (Some (above, way)) is =
        below_committed classes old mid new e node root p same_root waiting leaving limit fewer after.0 after.1 after.2 above way is
