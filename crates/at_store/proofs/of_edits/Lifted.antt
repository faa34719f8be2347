-- A commit moves a node: it is taken out and stands alone, and comes into a list as what is brought does.
use Rattle.std.proofs.Common.{◌≡◌, ℕ, zero, suc, ◌+◌, ◌≤◌, Bool, true, false, ◌&&◌, List, [], ◌∷◌, ◌++◌, cond, drop, nat_eq, arith, length, option_map, Option, Some, None, ◌⊎◌, inl, inr, refl, sym, ap, ◌∙◌, subst, is_some}
use Rattle.std.specs.Prelude.{map}
use Rattle.std.specs.List.{insert, remove, slice_get}
use Rattle.std.proofs.lemmas.Bool.{cases_eq, eq-eqb, ne_eqb}
use Rattle.at_model.specs.Classes.{Classes}
use Rattle.at_model.specs.Trees.{Tree, Cell, Many, One, cells_of, children, class_of, from_cells, from_trees}
use Rattle.at_model.specs.Edits.{Edit, Drop, Insert, Move, left_by, taken_out, past_drop, past_taking, put_in, without_child, with_one_more, with_cell, with_node}
use Rattle.at_model.specs.Paths.{Node, tree_at, cell_at, children_at, step_eq, is_within, parent_of}
use Rattle.at_model.proofs.of_edits.Moving.{Way}
use Rattle.at_model.proofs.Nodes.{step_eq-refl}
use Rattle.at_model.proofs.of_edits.Surviving.{parent_is}
use Rattle.at_model.proofs.of_edits.Ways.{drop_keeps}
use Rattle.at_model.proofs.of_edits.Untouched.{in_cell as kids}
use Rattle.at_model.proofs.of_edits.Untouching.{removed-behind}
use Rattle.at_model.proofs.WithinTree.{tree_at-snoc}
use Rattle.at_store.specs.Numbers.{path_in}
use Rattle.at_store.specs.Memory.{Info, IsLifted, IsPlacedIn, IsShallow, Keeps, Kept, Kids, List_of, Place, Stored, cut_in, index_in, kept, kept_of, kids_in, is_waiting, numbers_in, place_at, placed, placed_in, relinked, renumbered, rewritten, taken_out as gap_closed, top, up_in, with_kept, with_kids, with_numbers, with_place, AreAlike, come_to}
use Rattle.at_store.specs.Reserving.{ComesTo, HasRoom, IsRoomFor, KeepsRoom}
use Rattle.at_store.specs.View.{leaves_in, memory_of, stored_of}
use Rattle.at_store.proofs.Arranged.{settled, stands_once}
use Rattle.at_store.specs.declared.entry.Entry.{Entry}
use Rattle.slab.specs.Slab.{Slab}
use Rattle.at_store.specs.Touching.{gone}
use Rattle.at_store.specs.Shown.{Shown, numbers}
use Rattle.at_store.specs.Preparing.{DoesMove, IsCommitted, IsPrepared, brought}
use Rattle.at_store.proofs.of_edits.Changed.{stored_there}
use Rattle.at_store.proofs.Classes.{class_changed, classes_stay}
use Rattle.at_store.proofs.of_edits.Commits.{behind_at, dropped, inserted, one_cell}
use Rattle.at_store.proofs.Depths.{shallow_after}
use Rattle.at_store.proofs.of_edits.Edited.{IsNone, drop_origins, some_none}
use Rattle.at_store.proofs.of_edits.Committed.{cell_there, changed_here, committed, kids_there, room_there, root_stays, root_was, shallow_left, unmarked_as}
use Rattle.at_store.proofs.Found.{named, number_found}
use Rattle.at_store.proofs.Looked.{kept_at}
use Rattle.at_store.proofs.of_edits.Removed.{parent_stays, place_below, up_below, subtree_apart, subtree_stored}
use Rattle.at_store.proofs.of_edits.Renumbered.{not_eq, renumbered_absent}
use Rattle.at_store.proofs.Slots.{class_placed, class_renumbered, class_rewritten, map_length, renumbered_insert}
use Rattle.at_store.proofs.of_edits.Taken.{cell_cut, cell_same, one_changed}
use Rattle.at_store.proofs.Within.{stands_within}

elsewhere : (p : Node) (w r : Way) → step_eq w r ≡ false → is_within (p ++ w ∷ []) (p ++ r ∷ []) ≡ false
elsewhere [] w r e = ap (λ b. b && true) e
elsewhere (x ∷ p) w r e = ap (λ b. b && is_within (p ++ w ∷ []) (p ++ r ∷ [])) (step_eq-refl x) ∙ elsewhere p w r e

map_there : (ts : List Tree) (i k : ℕ) → slice_get (map class_of ts) i ≡ Some k → (t : Tree) × (slice_get ts i ≡ Some t) × (class_of t ≡ k)
map_there [] i k e = absurd cc
map_there (t ∷ ts) zero k e = (t, refl, cc)
map_there (t ∷ ts) (suc i) k e = map_there ts i k e

-- A node is taken out of its list, and waits in the memory as what an edit brings does.
module _ (memory later : ℕ → Option Info) (s u x : Tree) (h : Keeps memory s None) (node p : Node) (place : Way)
    (parent : parent_of node ≡ Some (p, place)) (c : Cell) (found : tree_at s p ≡ Some u)
    (here : cell_at u place.0 ≡ Some c) (there : tree_at s node ≡ Some x) (plain : (t : Tree) → c ≡ One t → ⊥)
    (left : List ℕ) (left_is : left ≡ remove (map class_of (children c)) place.1)
    (changes : (k : ℕ) → later k ≡ placed (class_of x) top k (renumbered (drop place.1 left) place.1 k (rewritten (class_of u) place.0 (with_numbers (λ ns. left) (kept c)) k (memory k)))) where
  abbrev written : ℕ → Option Info
  written k = renumbered (drop place.1 left) place.1 k (rewritten (class_of u) place.0 (with_numbers (λ ns. left) (kept c)) k (memory k))

  -- the memory without it
  abbrev freed : ℕ → Option Info
  freed k = cond (is_some (path_in k x)) None (written k)

  abbrev mid : Tree
  mid = left_by s (Drop node)

  stood : tree_at s (p ++ place ∷ []) ≡ Some x
  stood = ap (tree_at s) (sym (parent_is node (p, place) parent)) ∙ there

  its_own : is_some (path_in (class_of x) x) ≡ true
  its_own = ap is_some (named x (subtree_apart s node x h.apart there) [] x refl)

  not_parent : (k : ℕ) → is_some (path_in k x) ≡ true → k ≡ class_of u → ⊥
  not_parent k is same = let f : true ≡ false = sym is ∙ ap (λ j. is_some (path_in j x)) same ∙ parent_stays s x u node p place h.apart parent there found in cc

  not_listed : (k : ℕ) → is_some (path_in k x) ≡ true → (j : ℕ) → slice_get (drop place.1 left) j ≡ Some k → ⊥
  not_listed k is j at' =
      let e : slice_get (map class_of (children c)) (suc (place.1 + j)) ≡ Some k =
      sym (removed-behind (map class_of (children c)) place.1 (place.1 + j) (omega arith))
      ∙ ap (λ ns. slice_get ns (place.1 + j)) (sym left_is) ∙ sym (behind_at place.1 left j) ∙ at' in
      let (y, child, number) = map_there (children c) (suc (place.1 + j)) k e in
      let way : Way = (place.0, suc (place.1 + j)) in
      let below : slice_get (children_at u way.0) way.1 ≡ Some y = ap (λ o. slice_get (kids o) way.1) here ∙ child in
      let y_there : tree_at s (p ++ way ∷ []) ≡ Some y = tree_at-snoc s p way u found ∙ below in
      let differs : step_eq place way ≡ false = ap (λ b. nat_eq place.0 place.0 && b) (not_eq place.1 (suc (place.1 + j)) (λ f. omega (arith, f))) ∙ off (nat_eq place.0 place.0) in
      let f : is_some (path_in (class_of y) x) ≡ false = stands_within s x (p ++ place ∷ []) h.apart stood (p ++ way ∷ []) y y_there ∙ elsewhere p place way differs in
      let g : true ≡ false = sym is ∙ ap (λ z. is_some (path_in z x)) (sym number) ∙ f in cc
    where
      off : (b : Bool) → (b && false) ≡ false
      off true = refl
      off false = refl

  within_same : (k : ℕ) → is_some (path_in k x) ≡ true → written k ≡ memory k
  within_same k is =
      renumbered_absent (drop place.1 left) place.1 k _ (not_listed k is)
      ∙ ap (λ b. cond b (with_kept place.0 (with_numbers (λ ns. left) (kept c)) (memory k)) (memory k))
      (not_eq k (class_of u) (not_parent k is))

  outside_same : (k : ℕ) → is_some (path_in k x) ≡ false → later k ≡ freed k
  outside_same k is =
      changes k ∙ ap (λ b. cond b (with_place top (written k)) (written k)) (not_eq k (class_of x)
      (λ same. (let f : true ≡ false = sym its_own ∙ ap (λ j. is_some (path_in j x)) (sym same) ∙ is in cc))) ∙
      sym (ap (λ b. cond b None (written k)) is)

  module _ (shallow : IsShallow 512 mid) where
    without_it : Keeps freed mid None
    without_it = dropped memory freed s u x h node p place parent c found here there plain left left_is (λ k. refl) shallow

    not_within : (k : ℕ) (n : Node) → path_in k mid ≡ Some n → is_some (path_in k x) ≡ false
    not_within k n is =
        let (v, at', number) = number_found mid k n is in
        by_test (is_some (path_in k x)) refl (ap freed (sym number) ∙ (without_it.stored n v at').is)
      where
        by_test : {i : Info} (b : Bool) → is_some (path_in k x) ≡ b → freed k ≡ Some i → b ≡ false
        by_test false e f = refl
        by_test true e f = absurd (some_none (freed k) _ f (ap (λ b. cond b None (written k)) e))

    alone : Stored later top x
    alone =
        let (before, stored) = subtree_stored memory top s node x h.stored there in
        stored_there memory later x before top (subtree_apart s node x h.apart there) stored
        (λ m v is.
        let inside : is_some (path_in (class_of v) x) ≡ true = ap is_some (named x (subtree_apart s node x h.apart there) m v is) in
        changes (class_of v) ∙ ap (placed (class_of x) top (class_of v)) (within_same (class_of v) inside))

    pub lifted : Keeps later mid (Some x)
    lifted = record {
      stored = λ n v is.
          let k = without_it.stored n v is in
          record { class = k.class; is = outside_same (class_of v) (not_within (class_of v) n (named mid without_it.apart n v is)) ∙ k.is };
      apart = without_it.apart;
      waits = (alone, (subtree_apart s node x h.apart there, λ k n is. none (path_in k x) (not_within k n is)));
      covered = λ k i e. by_test k i e (is_some (path_in k x)) refl;
      shallow = shallow;
    }
      where
        none : (o : Option Node) → is_some o ≡ false → o ≡ None
        none None e = refl
        none (Some n) e = absurd cc

        by_test : (k : ℕ) (i : Info) → later k ≡ Some i → (b : Bool) → is_some (path_in k x) ≡ b → (is_some (path_in k mid) ≡ true) ⊎ (is_waiting k (Some x) ≡ true)
        by_test k i e true is = inr is
        by_test k i e false is = elim (without_it.covered k i (sym (outside_same k is) ∙ e)) [ inl a ↦ inl a | inr b ↦ absurd (let f : false ≡ true = b in cc) ]

-- what the memory is after a node was taken out
pub gap_written : (memory : ℕ → Option Info) (s u x : Tree) (h : Keeps memory s None) (node p : Node) (place : Way)
    → parent_of node ≡ Some (p, place) → (c : Cell) → tree_at s p ≡ Some u → cell_at u place.0 ≡ Some c
    → tree_at s node ≡ Some x →
    (k : ℕ) → gap_closed (up_in (memory (class_of x))) (index_in (memory (class_of x))) memory k ≡
    renumbered (drop place.1 (remove (map class_of (children c)) place.1)) place.1 k (rewritten (class_of u) place.0
    (with_numbers (λ ns. remove (map class_of (children c)) place.1) (kept c)) k (memory k))
gap_written memory s u x h node p place under c found here there k =
    let pu : ℕ = class_of u in
    let part : ℕ = place.0 in
    let i : ℕ = place.1 in
    let f : List ℕ → List ℕ = λ ns. remove ns i in
    let left : List ℕ = remove (map class_of (children c)) i in
    let stands = place_below s u node p place under found in
    let own = (h.stored node x there).is in
    let up_is = up_below memory s u x node p place h.stored under found there in
    let index_is : index_in (memory (class_of x)) ≡ i = ap index_in own ∙ ap (λ (q : Place). q.1) stands in
    let cell_is : slice_get (kept_of u) part ≡ Some (kept c) = kept_at (from_cells (cells_of u)) part ∙ ap (option_map kept) here in
    let above = h.stored p u found in
    let cut : kids_in (cut_in pu part i memory pu) part ≡ left =
    ap (λ b. kids_in (cond b (with_kids part f (memory pu)) (memory pu)) part) (eq-eqb pu pu refl) ∙
    ap (λ o. kids_in (with_kids part f o) part) above.is ∙ ap numbers_in (changed_here (with_numbers f) (kept_of u) part ∙ ap (option_map (with_numbers f)) cell_is) ∙ cell_cut i c in
    let c' : Kept = with_numbers (λ ns. left) (kept c) in
    let at_parent : with_kids part f (memory pu) ≡ with_kept part c' (memory pu) =
    ap (with_kids part f) above.is
    ∙ (λ j. Some (record {
      class = above.class;
      up = (place_at top s p).0;
      index = (place_at top s p).1;
      cells = one_changed (with_numbers f) (kept_of u) part (kept c) c' cell_is (cell_same i c) j;
    }))
    ∙ sym (ap (with_kept part c') above.is) in
    let same : relinked pu part f k (memory k) ≡ rewritten pu part c' k (memory k) = elim (cases_eq k pu) [
      | inl e ↦ subst (λ (j : ℕ). relinked pu part f j (memory j) ≡ rewritten pu part c' j (memory j)) (sym e) (ap (λ o. cond (nat_eq pu pu) o (memory pu)) at_parent)
      | inr e ↦ ap (λ b. cond b (with_kids part f (memory k)) (memory k)) (ne_eqb k pu e) ∙ sym (ap (λ b. cond b (with_kept part c' (memory k)) (memory k)) (ne_eqb k pu e))
    ] in
    (λ j. gap_closed (up_is j) (index_is j) memory k) ∙ ap (λ ns. renumbered (drop i ns) i k (cut_in pu part i memory k)) cut ∙ ap (renumbered (drop i left) i k) same

left_of_move : (s x : Tree) (place target goes : Node) (part index : ℕ)
    → tree_at s place ≡ Some x → past_taking place target ≡ Some goes
    → left_by s (Move place target part index) ≡ left_by (left_by s (Drop place)) (Insert goes part index x)
left_of_move s x place target goes part index there outside =
    ap (λ (o : Option Tree). elim o as (λ _. Tree) [ None ↦ s | Some u ↦ elim (past_taking place target) [ None ↦ s | Some q ↦ put_in (taken_out s place) q part index u ] ]) there ∙
    ap (λ (o : Option Node). elim o as (λ _. Tree) [ None ↦ s | Some q ↦ put_in (taken_out s place) q part index x ]) outside

pub move_committed : (classes : Classes) (old mid new : Shown) (middle : Slab Entry) (e : Edit) (node to part index : ℕ) → IsPrepared classes old e (DoesMove node to part index) mid →
    IsLifted node (memory_of mid.slab) (stored_of middle) → KeepsRoom mid.slab middle → ComesTo to part index node middle new.slab → ((k : ℕ) → leaves_in new.slab k ≡ leaves_in mid.slab k) →
    new.root ≡ mid.root → new.waiting ≡ None → new.leaving ≡ None → new.limit ≡ mid.limit → IsCommitted old e new
move_committed classes old mid new middle e node to part index p lifts roomy comes marks same_root waiting leaving limit =
    let memory = memory_of mid.slab in
    let s = numbers old in
    let d = p.does in
    let x = d.moved in
    let u = d.parent in
    let c = d.cell in
    let w = d.taker in
    let Does = DoesMove node to part index in
    let elements : List ℕ = map class_of (from_trees d.elements) in
    let kids_then : List ℕ = insert elements index node in
    let pu : ℕ = class_of u in
    let i : ℕ = d.way.1 in
    let left : List ℕ = remove (map class_of (children c)) i in
    let c' : Kept = with_numbers (λ ns. left) (kept c) in
    let h : Keeps memory s None = subst (λ (y : Edit). Keeps memory s (brought y)) d.is p.keeps in
    let between : ℕ → Option Info = λ k. placed (class_of x) top k (gap_closed (up_in (memory (class_of x))) (index_in (memory (class_of x))) memory k) in
    let lifts' : AreAlike between (stored_of middle) = subst (λ (j : ℕ). IsLifted j memory (stored_of middle))
    (sym d.number) lifts (stands_once memory s h.stored h.apart d.place x (class_of x) d.there refl) in
    let first : (k : ℕ) → between k ≡ placed (class_of x) top k (renumbered (drop i left) i k (rewritten pu d.way.0 c' k (memory k))) =
    λ k. ap (placed (class_of x) top k) (gap_written memory s u x h d.place d.above d.way d.under c d.found d.here d.there k) in
    let s1 : Tree = left_by s (Drop d.place) in
    let cut : s1 ≡ with_node (with_cell (without_child i) d.way.0) s d.above = ap (λ (o : Option (Node × Way)). elim o
    as (λ _. Tree) [ None ↦ s | Some p ↦ with_node (with_cell (without_child p.1.1) p.1.0) s p.0 ]) d.under in
    let low : IsShallow 512 s1 = subst (IsShallow 512) (sym cut)
    (shallow_after 512 (without_child i) d.way.0 (past_drop d.way) IsNone (drop_keeps d.way) s d.above (λ v b is at'.
    drop_origins d.way.0 i b (λ t one. d.loose t (one_cell s u d.above d.way.0 c d.found d.here v b is at' ∙ one)))
    h.shallow (λ y j no. absurd no)) in
    let h1 : Keeps between s1 (Some x) = lifted memory between s u x h d.place d.above d.way d.under c d.found d.here d.there d.loose left refl first low in
    let kids_are : kids_then ≡ insert (map class_of (from_trees d.elements)) index (class_of x) = ap (insert (map class_of (from_trees d.elements)) index) (sym d.number) in
    let bound : index ≤ length (map class_of (from_trees d.elements)) = (let few = d.bound in let long = map_length class_of (from_trees d.elements) in omega (arith, few, long)) in
    let (v, stands, number) = number_found s to d.target d.stands in
    let room : HasRoom middle to part = roomy to part (room_there mid.slab s v d.target to part stands number (subst (IsRoomFor mid.slab s) d.is p.room)) in
    let later : ℕ → Option Info = come_to to part index node (Kids List_of kids_then) between in
    let alike : AreAlike later (stored_of new.slab) = comes between List_of elements lifts'
    (cell_there between s1 w d.goes to part (Many d.elements) h1.stored d.takes d.taker_number d.list) bound room in
    let places : IsPlacedIn to part index node (Kids List_of kids_then) between later = λ k. refl in
    let moved : IsPlacedIn (class_of w) part index (class_of x) (Kids List_of kids_then) between later =
    subst (λ (j : ℕ). IsPlacedIn (class_of w) part index j (Kids List_of kids_then) between later) (sym d.number)
    (subst (λ (j : ℕ). IsPlacedIn j part index node (Kids List_of kids_then) between later)
    (sym d.taker_number) places) in
    let shown : kids_in (placed_in (class_of w) part (class_of x) (Kids List_of kids_then) between (class_of w)) part
    ≡ kids_then = kids_there between s1 w d.goes part (class_of x) _ List_of kids_then h1.stored d.takes d.list in
    let second : (k : ℕ) → later k ≡ renumbered (drop (suc index) kids_then) (suc index) k (placed (class_of x)
    (Some (class_of w, part), index) k (rewritten (class_of w) part (Kids List_of kids_then) k (between k))) =
    λ k. moved k ∙ ap (λ ns. renumbered (drop index ns) index k (placed_in (class_of w) part (class_of x) (Kids List_of kids_then) between k)) shown ∙
    renumbered_insert (map class_of (from_trees d.elements)) kids_then index (class_of x) k (Some (class_of w, part))
    (rewritten (class_of w) part (Kids List_of kids_then) k (between k)) kids_are bound in
    let left_is : left_by s p.numbered ≡ left_by s1 (Insert d.goes part index x) = ap (left_by s) d.is ∙ left_of_move s x d.place d.target d.goes part index d.there d.outside in
    let shallow : IsShallow 512 (left_by s1 (Insert d.goes part index x)) = subst (IsShallow 512) left_is (shallow_left classes old mid new e Does p) in
    let done : Keeps later (left_by s1 (Insert d.goes part index x)) None = inserted between later s1 x w h1 d.goes part index d.elements d.takes d.list d.bound kids_then kids_are second shallow in
    let keeps : Keeps later (left_by s p.numbered) None = subst (λ (z : Tree). Keeps later z None) (sym left_is) done in
    let same : (k : ℕ) → memory_of new.slab k ≡ later k = settled (stored_of new.slab) later (left_by s p.numbered) alike keeps in
    let now : Keeps (memory_of new.slab) (left_by s p.numbered) None = subst (λ (m : ℕ → Option Info). Keeps m (left_by s p.numbered) None) (λ i k. sym (same k) i) keeps in
    committed classes old mid new e Does p now
    (ap class_of left_is ∙ root_stays (with_one_more x index) part s1 d.goes ∙ ap class_of cut ∙ root_stays (without_child i) d.way.0 s d.above ∙ root_was classes old mid new e Does p ∙ sym same_root)
    (classes_stay memory (memory_of new.slab) (λ k. false)
    (λ k o. renumbered (drop (suc index) kids_then) (suc index) k
    (placed (class_of x) (Some (class_of w, part), index) k (rewritten (class_of w) part (Kids List_of kids_then) k
    (placed (class_of x) top k (renumbered (drop i left) i k (rewritten pu d.way.0 c' k o))))))
    (λ k o. class_changed (drop (suc index) kids_then) (suc index) (class_of x) (Some (class_of w, part), index)
    (class_of w) part (Kids List_of kids_then) k _ ∙ class_placed (class_of x) top k _ ∙ class_renumbered
    (drop i left) i k _ ∙ class_rewritten pu d.way.0 c' k o)
    (λ k. same k ∙ second k ∙ ap (λ o. renumbered (drop (suc index) kids_then) (suc index) k (placed (class_of x)
    (Some (class_of w, part), index) k (rewritten (class_of w) part (Kids List_of kids_then) k o))) (first k))
    top (left_by s p.numbered) now.stored)
    waiting leaving limit (unmarked_as classes old mid new e Does p marks (ap (gone s) d.is))
