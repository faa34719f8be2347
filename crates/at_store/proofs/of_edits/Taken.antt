-- A commit takes a node of a list or of an optional away.
use Rattle.std.proofs.Common.{◌≡◌, ℕ, zero, suc, Bool, true, false, List, [], ◌∷◌, cond, drop, nat_eq, option_map, Option, Some, None, inl, inr, refl, sym, ap, ◌∙◌, subst, arith, is_some}
use Rattle.std.specs.Prelude.{map}
use Rattle.std.specs.List.{remove, slice_get}
use Rattle.std.proofs.lemmas.Bool.{cases_eq, eq-eqb, ne_eqb}
use Rattle.at_model.specs.Classes.{Classes}
use Rattle.at_model.specs.Trees.{Tree, Cell, Empty, Filled, Holds, Many, One, cells_of, children, class_of, from_cells}
use Rattle.at_model.specs.Edits.{Edit, changed_at, left_by, without_child, with_cell, with_node}
use Rattle.at_model.specs.Edits as edit
use Rattle.at_model.specs.Paths.{Node, tree_at}
use Rattle.at_store.specs.Numbers.{path_in}
use Rattle.at_store.specs.Memory.{Info, IsFreed, IsShallow, IsTakenAway, Keeps, Kept, Place, place_at, cut_in, index_in, kept, kept_of, kids_in, numbers_in, relinked, renumbered, rewritten, taken_out, top, up_in, with_kept, with_kids, with_index, with_numbers}
use Rattle.at_store.specs.View.{MarksNoMore, memory_of, stored_of}
use Rattle.at_store.proofs.Arranged.{settled, stands_once}
use Rattle.at_store.specs.Touching.{gone}
use Rattle.at_store.specs.Shown.{IsIdle, Shown, numbers}
use Rattle.at_store.specs.Preparing.{DoesDrop, IsCommitted, IsPrepared, brought, stands_in}
use Rattle.at_store.proofs.Classes.{classes_stay}
use Rattle.at_store.proofs.of_edits.Commits.{dropped}
use Rattle.at_store.proofs.of_edits.Committed.{changed_here, committed, root_stays, root_was, shallow_left}
use Rattle.at_store.proofs.Looked.{kept_at}
use Rattle.at_store.proofs.of_planting.MarkedLemmas.{gone_unmarked}
use Rattle.at_store.proofs.of_edits.Removed.{freed_below, parent_stays, place_below}
use Rattle.at_store.proofs.Slots.{class_renumbered, class_rewritten}

pub cell_cut : (i : ℕ) (c : Cell) → numbers_in (Some (with_numbers (λ ns. remove ns i) (kept c))) ≡ remove (map class_of (children c)) i
cell_cut i (One t) = refl
cell_cut i (Many ts) = refl
cell_cut i Empty = refl
cell_cut i (Filled t) = refl
cell_cut zero (Holds v) = refl
cell_cut (suc i) (Holds v) = refl

pub cell_same : (i : ℕ) (c : Cell) → with_numbers (λ ns. remove ns i) (kept c) ≡ with_numbers (λ ns. remove (map class_of (children c)) i) (kept c)
cell_same i (One t) = refl
cell_same i (Many ts) = refl
cell_same i Empty = refl
cell_same i (Filled t) = refl
cell_same i (Holds v) = refl

pub one_changed : {A : Type 0} (g : A → A) (xs : List A) (i : ℕ) (a b : A) → slice_get xs i ≡ Some a → g a ≡ b → changed_at g xs i ≡ changed_at (λ old. b) xs i
one_changed g [] i a b e h = refl
one_changed g (x ∷ xs) zero a b e h = let same : x ≡ a = cc in ap (λ y. y ∷ xs) (ap g same ∙ h)
one_changed g (x ∷ xs) (suc i) a b e h = ap (λ ys. x ∷ ys) (one_changed g xs i a b e h)

none_renumbered : (ns : List ℕ) (i k : ℕ) → renumbered ns i k None ≡ None
none_renumbered [] i k = refl
none_renumbered (n ∷ ns) i k = ap (renumbered ns (suc i) k) (both_none (nat_eq k n)) ∙ none_renumbered ns (suc i) k
  where
    both_none : (b : Bool) → cond b (with_index i None) None ≡ None
    both_none true = refl
    both_none false = refl

none_relinked : (n part : ℕ) (f : List ℕ → List ℕ) (k : ℕ) → relinked n part f k None ≡ None
none_relinked n part f k = by_test (nat_eq k n)
  where
    by_test : (b : Bool) → cond b (with_kids part f None) None ≡ None
    by_test true = refl
    by_test false = refl

by_gone : (ns : List ℕ) (i n part : ℕ) (f : List ℕ → List ℕ) (k : ℕ) (o q : Option Info) (b : Bool) → relinked n part f
    k o ≡ q → renumbered ns i k (relinked n part f k (cond b None o)) ≡ cond b None (renumbered ns i k q)
by_gone ns i n part f k o q true e = ap (renumbered ns i k) (none_relinked n part f k) ∙ none_renumbered ns i k
by_gone ns i n part f k o q false e = ap (renumbered ns i k) e

pub drop_committed : (classes : Classes) (old mid new : Shown) (e : Edit) (node : ℕ) → IsPrepared classes old e (DoesDrop node) mid →
    IsTakenAway node (memory_of mid.slab) (stored_of new.slab) → MarksNoMore mid.slab new.slab → new.root ≡ mid.root →
    new.waiting ≡ None → new.leaving ≡ None → new.limit ≡ mid.limit → IsCommitted old e new
drop_committed classes old mid new e node p takes fewer same_root waiting leaving limit =
    let memory = memory_of mid.slab in
    let s = numbers old in
    let d = p.does in
    let x = d.gone in
    let u = d.parent in
    let c = d.cell in
    let pu : ℕ = class_of u in
    let part : ℕ = d.way.0 in
    let i : ℕ = d.way.1 in
    let f : List ℕ → List ℕ = λ ns. remove ns i in
    let left : List ℕ = remove (map class_of (children c)) i in
    let h : Keeps memory s None = subst (λ (y : Edit). Keeps memory s (brought y)) d.is p.keeps in
    let (freed, free, alike) = takes (stands_once memory s h.stored h.apart d.place x node d.there d.number) in
    let later : ℕ → Option Info = taken_out (up_in (memory node)) (index_in (memory node)) freed in
    let frees : (k : ℕ) → freed k ≡ cond (is_some (path_in k x)) None (memory k) = freed_below memory freed top s
    d.place x h.stored h.apart d.there (subst (λ (j : ℕ). IsFreed j memory freed) (sym d.number) free) in
    let stands = place_below s u d.place d.above d.way d.under d.found in
    let own = (h.stored d.place x d.there).is in
    let up_is : up_in (memory node) ≡ Some (pu, part) = ap (λ j. up_in (memory j)) (sym d.number) ∙ ap up_in own ∙ ap (λ (q : Place). q.0) stands in
    let index_is : index_in (memory node) ≡ i = ap (λ j. index_in (memory j)) (sym d.number) ∙ ap index_in own ∙ ap (λ (q : Place). q.1) stands in
    let parent : freed pu ≡ memory pu = frees pu ∙ ap (λ b. cond b None (memory pu)) (parent_stays s x u d.place d.above d.way h.apart d.under d.there d.found) in
    let cell_is : slice_get (kept_of u) part ≡ Some (kept c) = kept_at (from_cells (cells_of u)) part ∙ ap (option_map kept) d.here in
    let above = h.stored d.above u d.found in
    let cut : kids_in (cut_in pu part i freed pu) part ≡ left =
    ap (λ o. kids_in (relinked pu part f pu o) part) parent ∙ ap (λ b. kids_in (cond b (with_kids part f (memory pu)) (memory pu)) part) (eq-eqb pu pu refl) ∙
    ap (λ o. kids_in (with_kids part f o) part) above.is ∙ ap numbers_in (changed_here (with_numbers f) (kept_of u) part ∙ ap (option_map (with_numbers f)) cell_is) ∙ cell_cut i c in
    let c' : Kept = with_numbers (λ ns. left) (kept c) in
    let at_parent : with_kids part f (memory pu) ≡ with_kept part c' (memory pu) =
    ap (with_kids part f) above.is
    ∙ (λ j. Some (record {
      class = above.class;
      up = (place_at top s d.above).0;
      index = (place_at top s d.above).1;
      cells = one_changed (with_numbers f) (kept_of u) part (kept c) c' cell_is (cell_same i c) j;
    }))
    ∙ sym (ap (with_kept part c') above.is) in
    let same : (k : ℕ) → relinked pu part f k (memory k) ≡ rewritten pu part c' k (memory k) = λ k. elim (cases_eq k pu) [
      | inl e ↦ subst (λ (j : ℕ). relinked pu part f j (memory j) ≡ rewritten pu part c' j (memory j)) (sym e) (ap (λ o. cond (nat_eq pu pu) o (memory pu)) at_parent)
      | inr e ↦ ap (λ b. cond b (with_kids part f (memory k)) (memory k)) (ne_eqb k pu e) ∙ sym (ap (λ b. cond b (with_kept part c' (memory k)) (memory k)) (ne_eqb k pu e))
    ] in
    let written : (k : ℕ) → later k ≡ cond (is_some (path_in k x)) None (renumbered (drop i left) i k (rewritten pu part c' k (memory k))) =
    λ k. (λ j. taken_out (up_is j) (index_is j) freed k) ∙ ap (λ ns. renumbered (drop i ns) i k (cut_in pu part i freed k)) cut ∙
    ap (λ o. renumbered (drop i left) i k (relinked pu part f k o)) (frees k) ∙ by_gone (drop i left) i pu part f k (memory k) _ (is_some (path_in k x)) (same k) in
    let shallow : IsShallow 512 (left_by s (edit.Drop d.place)) = subst (λ (y : Edit). IsShallow 512 (left_by s y)) d.is (shallow_left classes old mid new e (DoesDrop node) p) in
    let done : Keeps later (left_by s (edit.Drop d.place)) None = dropped memory later s u x h d.place d.above d.way d.under c d.found d.here d.there d.loose left refl written shallow in
    let keeps : Keeps later (left_by s p.numbered) None = subst (λ (y : Edit). Keeps later (left_by s y) None) (sym d.is) done in
    let same : (k : ℕ) → memory_of new.slab k ≡ later k = settled (stored_of new.slab) later (left_by s p.numbered) alike keeps in
    let now : Keeps (memory_of new.slab) (left_by s p.numbered) None = subst (λ (m : ℕ → Option Info). Keeps m (left_by s p.numbered) None) (λ i k. sym (same k) i) keeps in
    committed classes old mid new e (DoesDrop node) p now
    (ap (λ (y : Edit). class_of (left_by s y)) d.is ∙ ap (λ (o : Option (Node × (ℕ × ℕ))). class_of
    (elim o [ None ↦ s | Some p ↦ with_node (with_cell (without_child p.1.1) p.1.0) s p.0 ])) d.under ∙ root_stays
    (without_child i) part s d.above ∙ root_was classes old mid new e (DoesDrop node) p ∙ sym same_root)
    (classes_stay memory (memory_of new.slab) (λ k. is_some (path_in k x)) (λ k o. renumbered (drop i left) i k
    (rewritten pu part c' k o)) (λ k o. class_renumbered (drop i left) i k (rewritten pu part c' k o)
    ∙ class_rewritten pu part c' k o) (λ k. same k ∙ written k) top (left_by s p.numbered) now.stored)
    waiting leaving limit
    (gone_unmarked mid.slab new.slab x fewer
    (λ k. p.marks k ∙ ap (λ y. stands_in k (gone s y)) d.is ∙ ap (stands_in k) d.there) (λ k here. same k
    ∙ written k ∙ ap (λ b. cond b None (renumbered (drop i left) i k (rewritten pu part c' k (memory k)))) here))
