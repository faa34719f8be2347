-- A commit leaves the tree that the edit leaves, and each node under its number.
use Rattle.std.proofs.Common.{◌≡◌, ℕ, zero, suc, ◌≤◌, Bool, List, cond, drop, nat_eq, option_map, true, false, [], ◌∷◌, Option, Some, None, refl, sym, ap, ◌∙◌, subst, arith, option_and_then, is_some}
use Rattle.std.specs.Prelude.{length, map, nat_le}
use Rattle.std.specs.List.{insert, slice_get}
use Rattle.std.proofs.lemmas.Bool.{leb-true}
use Rattle.at_model.specs.Classes.{Classes}
use Rattle.at_model.specs.Trees.{Tree, Cell, Empty, Filled, Many, Node as branch, cells_of, class_of, conforms, depth, from_cells, from_trees, nodes}
use Rattle.at_model.specs.Trees as trees
use Rattle.at_model.specs.Paths.{Node, tree_at, cell_at}
use Rattle.at_model.specs.Edits.{Edit, carried, changed_at, edited, is_within_limits, left_by, with_cell, with_node, with_one_more}
use Rattle.at_model.proofs.of_edits.Conforming.{accepted}
use Rattle.at_model.specs.Edits as edit
use Rattle.at_model.proofs.Options.{both, led}
use Rattle.at_store.specs.Numbers.{IsFresh, number_at, path_in, path_in_new, relabel}
use Rattle.at_store.specs.Memory.{Form, Info, IsPlacedIn, IsShallow, Keeps, Kept, Kids, List_of, Optional, Stored, Token_of, Waits, cell_in, class_in, kept, kept_of, kids_in, numbers_in, placed, placed_in, raised, renumbered, rewritten, top, with_kept, with_up, AreAlike, come_to, with_index}
use Rattle.at_store.specs.Reserving.{ComesTo, HasRoom, IsRoomFor}
use Rattle.at_store.specs.View.{IsUnmarked, MarksNoMore, leaves_in, memory_of, stored_of}
use Rattle.at_store.proofs.Arranged.{arranged_is, rewritten_alike, settled}
use Rattle.at_store.specs.Touching.{change_of, gone, removed}
use Rattle.at_store.specs.declared.entry.Entry.{Entry}
use Rattle.slab.specs.Slab.{Slab}
use Rattle.at_store.specs.Marking.{IsUnmarking}
use Rattle.at_store.specs.Shown.{Shown, numbers, tree}
use Rattle.at_store.specs.Preparing.{DoesInsert, DoesPut, DoesToken, IsCancelled, IsCommitted, IsGivenUp, IsPrepared, brought, stands_in}
use Rattle.at_store.proofs.Classes.{class_changed, classes_stay, shallow_numbers}
use Rattle.at_store.proofs.of_edits.Commits.{inserted, put_in, token_set}
use Rattle.at_store.proofs.of_planting.Freed.{given_up}
use Rattle.at_store.proofs.of_edits.Carrying.{edited_after}
use Rattle.at_store.proofs.of_planting.Growing.{class-grown, grown_kept}
use Rattle.at_store.proofs.Relabelled.{relabelled-carried, relabelled-left}
use Rattle.at_store.proofs.Slots.{class_rewritten, map_length, raised_indexed, renumbered_insert}
use Rattle.at_store.proofs.Looked.{kept_at}
use Rattle.at_store.proofs.of_planting.MarkedLemmas.{stored_same, unmarked_below, unmarked_still}
use Rattle.at_store.proofs.of_edits.Changed.{at_same}

within_depth : (t : Tree) → is_within_limits t ≡ true → depth t ≤ 512
within_depth t h = leb-true (depth t) 512 (both _ _ (both _ _ h).0).1

fresh_edit : (memory : ℕ → Option Info) (s : Tree) (e : Edit) → Waits memory s (brought e) → IsFresh s e
fresh_edit memory s (edit.Set node new) h = h.1
fresh_edit memory s (edit.Put node part new) h = h.1
fresh_edit memory s (edit.Drop node) h = tt
fresh_edit memory s (edit.Insert node part index new) h = h.1
fresh_edit memory s (edit.Token node part v) h = tt
fresh_edit memory s (edit.Move node to part index) h = tt

not_new : (s : Tree) (e : Edit) → IsFresh s e → (k : ℕ) (n : Node) → path_in k s ≡ Some n → path_in_new k e ≡ None
not_new s (edit.Set node new) h k n is = h.1 k n is
not_new s (edit.Put node part new) h k n is = h.1 k n is
not_new s (edit.Drop node) h k n is = refl
not_new s (edit.Insert node part index new) h k n is = h.1 k n is
not_new s (edit.Token node part v) h k n is = refl
not_new s (edit.Move node to part index) h k n is = refl

pub root_stays : (g : Cell → Cell) (part : ℕ) (t : Tree) (n : Node) → class_of (with_node (with_cell g part) t n) ≡ class_of t
root_stays g part (branch k cells) [] = refl
root_stays g part (branch k cells) (r ∷ n) = refl

module _ (classes : Classes) (old mid new : Shown) (e : Edit) (Does : Tree → Edit → Type 0) (p : IsPrepared classes old e Does mid) where
  abbrev class : ℕ → ℕ
  class = class_in (memory_of mid.slab)

  abbrev after : Tree
  after = left_by (numbers old) p.numbered

  same_classes : relabel class (numbers old) ≡ tree old
  same_classes = ap (relabel class) (sym p.numbers_stay) ∙ p.tree_stays

  same_tree : relabel class after ≡ left_by (tree old) e
  same_tree = relabelled-left class (numbers old) p.numbered ∙ (λ i. left_by (same_classes i) (p.same i))

  pub shallow_left : IsShallow 512 after
  shallow_left = shallow_numbers class 512 after (within_depth (relabel class after) (ap is_within_limits same_tree ∙ p.limits))

  pub root_was : class_of (numbers old) ≡ mid.root
  root_was = ap class_of (sym p.numbers_stay) ∙ class-grown (memory_of mid.slab) 512 mid.root

  allowed_after : tree new ≡ left_by (tree old) e → new.limit ≡ old.limit → nat_le (nodes (tree new)) new.limit ≡ true
  allowed_after is stays =
      let made = accepted classes (tree old) e p.left p.accepted in
      (λ i. nat_le (nodes (is i)) (stays i)) ∙ ap (λ (t : Tree). nat_le (nodes t) old.limit) made.left ∙ p.allowed

  pub committed : Keeps (memory_of new.slab) after None → class_of after ≡ new.root → relabel (class_in (memory_of new.slab)) after ≡ relabel class after →
      new.waiting ≡ None → new.leaving ≡ None → new.limit ≡ mid.limit → IsUnmarked new.slab → IsCommitted old e new
  committed keeps root stay waiting leaving limit unmarked =
      let grows : numbers new ≡ after = grown_kept (memory_of new.slab) after new.root keeps root in
      let is : tree new ≡ left_by (tree old) e = ap (relabel (class_in (memory_of new.slab))) grows ∙ stay ∙ same_tree in
      let few : nat_le (nodes (tree new)) new.limit ≡ true = allowed_after is (limit ∙ p.limit_stays) in
      let fresh : IsFresh (numbers old) p.numbered = fresh_edit (memory_of mid.slab) (numbers old) p.numbered p.keeps.waits in
      let goes = edited_after classes class (numbers old)
      (ap (λ (t : Tree). conforms classes t 0) same_classes ∙ p.conforms) p.keeps.apart p.numbered p.left
      ((λ i. edited classes (same_classes i) (p.same i)) ∙ p.accepted) fresh in
      let carries : carried p.numbered ≡ carried e = sym (relabelled-carried class p.numbered) ∙ ap carried p.same in
      record {
        idle =
            record {
              waiting = waiting;
              leaving = leaving;
              keeps = subst (λ (t : Tree). Keeps (memory_of new.slab) t None) (sym grows) keeps;
              limits = ap is_within_limits is ∙ p.limits;
              allowed = few;
              unmarked = unmarked;
            };
        tree_is = is;
        limit_stays = limit ∙ p.limit_stays;
        paths = λ k n was. ap (path_in k) grows ∙ goes.1 k (not_new (numbers old) p.numbered fresh k n was)
            ∙ ap (option_and_then (carried p.numbered)) was ∙ ap (λ (g : Node → Option Node). g n) carries;
      }

-- nothing went, and no mark was written
pub unmarked_as : (classes : Classes) (old mid new : Shown) (e : Edit) (Does : Tree → Edit → Type 0)
    (p : IsPrepared classes old e Does mid) → ((k : ℕ) → leaves_in new.slab k ≡ leaves_in mid.slab k)
    → gone (numbers old) p.numbered ≡ None → IsUnmarked new.slab
unmarked_as classes old mid new e Does p same none k = same k ∙ p.marks k ∙ ap (stands_in k) none

-- a token has another value
pub token_committed : (classes : Classes) (old mid new : Shown) (e : Edit) (node part : ℕ) (v : trees.Token) → IsPrepared classes old e (DoesToken node part v) mid →
    ((k : ℕ) → stored_of new.slab k ≡ rewritten node part (Token_of v) k (stored_of mid.slab k))
    → ((k : ℕ) → leaves_in new.slab k ≡ leaves_in mid.slab k) → new.root ≡ mid.root → new.waiting ≡ None
    → new.leaving ≡ None → new.limit ≡ mid.limit → IsCommitted old e new
token_committed classes old mid new e node part v p changes marks root waiting leaving limit =
    let memory = memory_of mid.slab in
    let later : ℕ → Option Info = λ k. rewritten node part (Token_of v) k (memory k) in
    let alike : AreAlike later (stored_of new.slab) = λ k. rewritten_alike node part (Token_of v) memory
    (stored_of mid.slab) (arranged_is (stored_of mid.slab)) k ∙ ap (with_index 0) (sym (changes k)) in
    let s = numbers old in
    let d = p.does in
    let h : Keeps memory s None = subst (λ (x : Edit). Keeps memory s (brought x)) d.is p.keeps in
    let shallow : IsShallow 512 (left_by s (edit.Token d.place part v)) = subst (λ (x : Edit). IsShallow 512 (left_by s x)) d.is (shallow_left classes old mid new e (DoesToken node part v) p) in
    let kept : Keeps later (left_by s (edit.Token d.place part v)) None =
    token_set memory later s d.parent h d.place part d.was v d.found d.here
    (λ k. ap (λ j. rewritten j part (Token_of v) k (memory k)) (sym d.number)) shallow in
    let keeps : Keeps later (left_by s p.numbered) None = subst (λ (x : Edit). Keeps later (left_by s x) None) (sym d.is) kept in
    let same : (k : ℕ) → memory_of new.slab k ≡ later k = settled (stored_of new.slab) later (left_by s p.numbered) alike keeps in
    let now : Keeps (memory_of new.slab) (left_by s p.numbered) None = subst (λ (m : ℕ → Option Info). Keeps m (left_by s p.numbered) None) (λ i k. sym (same k) i) keeps in
    committed classes old mid new e (DoesToken node part v) p now
    (ap (λ (x : Edit). class_of (left_by s x)) d.is ∙ root_stays (λ c. trees.Holds v) part s d.place ∙ root_was classes old mid new e (DoesToken node part v) p ∙ sym root)
    (classes_stay memory (memory_of new.slab) (λ k. false) (λ k o. rewritten node part (Token_of v) k o) (class_rewritten node part (Token_of v)) same top (left_by s p.numbered) now.stored)
    waiting leaving limit (unmarked_as classes old mid new e (DoesToken node part v) p marks (ap (gone s) d.is))

-- a component shows the list that was written there
pub kids_raised : (new : ℕ) (up : Option (ℕ × ℕ)) (k part : ℕ) (o : Option Info) → kids_in (raised new up k o) part ≡ kids_in o part
kids_raised new up k part o = by_test (nat_eq k new) o
  where
    by_test : (b : Bool) (o : Option Info) → kids_in (cond b (with_up up o) o) part ≡ kids_in o part
    by_test true None = refl
    by_test true (Some i) = refl
    by_test false o = refl

pub changed_here : {A : Type 0} (g : A → A) (xs : List A) (i : ℕ) → slice_get (changed_at g xs i) i ≡ option_map g (slice_get xs i)
changed_here g [] i = refl
changed_here g (x ∷ xs) zero = refl
changed_here g (x ∷ xs) (suc i) = changed_here g xs i

pub kids_there : (memory : ℕ → Option Info) (s u : Tree) (n : Node) (part new : ℕ) (c : Cell) (form : Form) (ns : List ℕ) → Stored memory top s → tree_at s n ≡ Some u → cell_at u part ≡ Some c →
    kids_in (placed_in (class_of u) part new (Kids form ns) memory (class_of u)) part ≡ ns
kids_there memory s u n part new c form ns h found here =
    let k = class_of u in
    let new_kids : Kept = Kids form ns in
    kids_raised new (Some (k, part)) k part (rewritten k part new_kids k (memory k)) ∙ ap (λ o. kids_in o part) (at_same k part new_kids (memory k)) ∙
    ap (λ o. kids_in (with_kept part new_kids o) part) (h n u found).is ∙
    ap numbers_in (changed_here (λ old. new_kids) (kept_of u) part ∙ ap (option_map (λ old. new_kids)) (kept_at (from_cells (cells_of u)) part ∙ ap (option_map kept) here))

-- what is kept of a cell of a node that is stored
pub cell_there : (memory : ℕ → Option Info) (s u : Tree) (n : Node) (node part : ℕ) (c : Cell) → Stored memory top s
    → tree_at s n ≡ Some u → class_of u ≡ node → cell_at u part ≡ Some c → cell_in (memory node) part ≡ Some (kept c)
cell_there memory s u n node part c h found number here = ap (λ j. cell_in (memory j) part) (sym number)
    ∙ ap (λ o. cell_in o part) (h n u found).is ∙ kept_at (from_cells (cells_of u)) part ∙ ap (option_map kept) here

-- there is room in a component of a node that is stored
pub room_there : (slab : Slab Entry) (s u : Tree) (n : Node) (node part : ℕ) → tree_at s n ≡ Some u → class_of u ≡ node → HasRoom slab (number_at s n) part → HasRoom slab node part
room_there slab s u n node part found number h = subst (λ (j : ℕ). HasRoom slab j part) (ap (λ (o : Option Tree). elim o as (λ _. ℕ) [ None ↦ 0 | Some v ↦ class_of v ]) found ∙ number) h

-- another element of a list
pub insert_committed : (classes : Classes) (old mid new : Shown) (e : Edit) (node part index root : ℕ) → IsPrepared classes old e (DoesInsert node part index root) mid →
    ComesTo node part index root mid.slab new.slab → ((k : ℕ) → leaves_in new.slab k ≡ leaves_in mid.slab k) →
    new.root ≡ mid.root → new.waiting ≡ None → new.leaving ≡ None → new.limit ≡ mid.limit → IsCommitted old e new
insert_committed classes old mid new e node part index root p comes marks same_root waiting leaving limit =
    let memory = memory_of mid.slab in
    let s = numbers old in
    let d = p.does in
    let w = d.brings in
    let u = d.parent in
    let Does = DoesInsert node part index root in
    let elements : List ℕ = map class_of (from_trees d.elements) in
    let kids : List ℕ = insert elements index root in
    let h : Keeps memory s (Some w) = subst (λ (x : Edit). Keeps memory s (brought x)) d.is p.keeps in
    let kids_are : kids ≡ insert (map class_of (from_trees d.elements)) index (class_of w) = ap (insert (map class_of (from_trees d.elements)) index) (sym d.root) in
    let bound : index ≤ length (map class_of (from_trees d.elements)) = (let few = d.bound in let long = map_length class_of (from_trees d.elements) in omega (arith, few, long)) in
    let room : HasRoom mid.slab node part = room_there mid.slab s u d.place node part d.found d.number (subst (IsRoomFor mid.slab s) d.is p.room) in
    let later : ℕ → Option Info = come_to node part index root (Kids List_of kids) memory in
    let alike : AreAlike later (stored_of new.slab) = comes memory List_of elements (arranged_is (stored_of mid.slab))
    (cell_there memory s u d.place node part (Many d.elements) h.stored d.found d.number d.here) bound room in
    let changes : IsPlacedIn node part index root (Kids List_of kids) memory later = λ k. refl in
    let moved : IsPlacedIn (class_of u) part index (class_of w) (Kids List_of kids) memory later =
    subst (λ (j : ℕ). IsPlacedIn (class_of u) part index j (Kids List_of kids) memory later) (sym d.root)
    (subst (λ (j : ℕ). IsPlacedIn j part index root (Kids List_of kids) memory later) (sym d.number) changes) in
    let shown : kids_in (placed_in (class_of u) part (class_of w) (Kids List_of kids) memory (class_of u)) part ≡ kids =
    kids_there memory s u d.place part (class_of w) _ List_of kids h.stored d.found d.here in
    let written : (k : ℕ) → later k ≡ renumbered (drop (suc index) kids) (suc index) k (placed (class_of w)
    (Some (class_of u, part), index) k (rewritten (class_of u) part (Kids List_of kids) k (memory k))) =
    λ k. moved k ∙ ap (λ ns. renumbered (drop index ns) index k (placed_in (class_of u) part (class_of w) (Kids List_of kids) memory k)) shown ∙
    renumbered_insert (map class_of (from_trees d.elements)) kids index (class_of w) k (Some (class_of u, part)) (rewritten (class_of u) part (Kids List_of kids) k (memory k)) kids_are bound in
    let shallow : IsShallow 512 (left_by s (edit.Insert d.place part index w)) = subst (λ (x : Edit). IsShallow 512 (left_by s x)) d.is (shallow_left classes old mid new e Does p) in
    let done : Keeps later (left_by s (edit.Insert d.place part index w)) None = inserted memory later s w u h d.place part index d.elements d.found d.here d.bound kids kids_are written shallow in
    let keeps : Keeps later (left_by s p.numbered) None = subst (λ (x : Edit). Keeps later (left_by s x) None) (sym d.is) done in
    let same : (k : ℕ) → memory_of new.slab k ≡ later k = settled (stored_of new.slab) later (left_by s p.numbered) alike keeps in
    let now : Keeps (memory_of new.slab) (left_by s p.numbered) None = subst (λ (m : ℕ → Option Info). Keeps m (left_by s p.numbered) None) (λ i k. sym (same k) i) keeps in
    committed classes old mid new e Does p now
    (ap (λ (x : Edit). class_of (left_by s x)) d.is ∙ root_stays (with_one_more w index) part s d.place ∙ root_was classes old mid new e Does p ∙ sym same_root)
    (classes_stay memory (memory_of new.slab) (λ k. false) (λ k o. renumbered (drop (suc index) kids) (suc index) k
    (placed (class_of w) (Some (class_of u, part), index) k (rewritten (class_of u) part (Kids List_of kids) k o)))
    (class_changed (drop (suc index) kids) (suc index) (class_of w) (Some (class_of u, part), index) (class_of u) part
    (Kids List_of kids)) (λ k. same k ∙ written k) top (left_by s p.numbered) now.stored)
    waiting leaving limit (unmarked_as classes old mid new e Does p marks (ap (gone s) d.is))

-- a child for an empty optional
pub put_committed : (classes : Classes) (old mid new : Shown) (e : Edit) (node part root : ℕ) → IsPrepared classes old e (DoesPut node part root) mid →
    ComesTo node part 0 root mid.slab new.slab → ((k : ℕ) → leaves_in new.slab k ≡ leaves_in mid.slab k) →
    new.root ≡ mid.root → new.waiting ≡ None → new.leaving ≡ None → new.limit ≡ mid.limit → IsCommitted old e new
put_committed classes old mid new e node part root p comes marks same_root waiting leaving limit =
    let memory = memory_of mid.slab in
    let s = numbers old in
    let d = p.does in
    let w = d.brings in
    let u = d.parent in
    let Does = DoesPut node part root in
    let only : List ℕ = class_of w ∷ [] in
    let place : Option (ℕ × ℕ) = Some (class_of u, part) in
    let h : Keeps memory s (Some w) = subst (λ (x : Edit). Keeps memory s (brought x)) d.is p.keeps in
    let kids_are : insert [] 0 root ≡ only = ap (λ j. j ∷ []) (sym d.root) in
    let room : HasRoom mid.slab node part = room_there mid.slab s u d.place node part d.found d.number (subst (IsRoomFor mid.slab s) d.is p.room) in
    let later : ℕ → Option Info = come_to node part 0 root (Kids Optional (insert [] 0 root)) memory in
    let alike : AreAlike later (stored_of new.slab) = comes memory Optional [] (arranged_is (stored_of mid.slab))
    (cell_there memory s u d.place node part Empty h.stored d.found d.number d.here) (omega arith) room in
    let changes : IsPlacedIn node part 0 root (Kids Optional (insert [] 0 root)) memory later = λ k. refl in
    let listed : IsPlacedIn node part 0 root (Kids Optional only) memory later = subst (λ (ns : List ℕ). IsPlacedIn node part 0 root (Kids Optional ns) memory later) kids_are changes in
    let moved : IsPlacedIn (class_of u) part 0 (class_of w) (Kids Optional only) memory later =
    subst (λ (j : ℕ). IsPlacedIn (class_of u) part 0 j (Kids Optional only) memory later) (sym d.root)
    (subst (λ (j : ℕ). IsPlacedIn j part 0 root (Kids Optional only) memory later) (sym d.number) listed) in
    let shown : kids_in (placed_in (class_of u) part (class_of w) (Kids Optional only) memory (class_of u)) part
    ≡ only = kids_there memory s u d.place part (class_of w) _ Optional only h.stored d.found d.here in
    let written : (k : ℕ) → later k ≡ placed (class_of w) (place, 0) k (rewritten (class_of u) part (Kids Optional only) k (memory k)) =
    λ k. moved k ∙ ap (λ ns. renumbered (drop 0 ns) 0 k (placed_in (class_of u) part (class_of w) (Kids Optional only) memory k)) shown ∙
    raised_indexed (class_of w) place 0 k (rewritten (class_of u) part (Kids Optional only) k (memory k)) in
    let shallow : IsShallow 512 (left_by s (edit.Put d.place part w)) = subst (λ (x : Edit). IsShallow 512 (left_by s x)) d.is (shallow_left classes old mid new e Does p) in
    let done : Keeps later (left_by s (edit.Put d.place part w)) None = put_in memory later s w u h d.place part d.found d.here written shallow in
    let keeps : Keeps later (left_by s p.numbered) None = subst (λ (x : Edit). Keeps later (left_by s x) None) (sym d.is) done in
    let same : (k : ℕ) → memory_of new.slab k ≡ later k = settled (stored_of new.slab) later (left_by s p.numbered) alike keeps in
    let now : Keeps (memory_of new.slab) (left_by s p.numbered) None = subst (λ (m : ℕ → Option Info). Keeps m (left_by s p.numbered) None) (λ i k. sym (same k) i) keeps in
    committed classes old mid new e Does p now
    (ap (λ (x : Edit). class_of (left_by s x)) d.is ∙ root_stays (λ c. Filled w) part s d.place ∙ root_was classes old mid new e Does p ∙ sym same_root)
    (classes_stay memory (memory_of new.slab) (λ k. false) (λ k o. placed (class_of w) (place, 0) k (rewritten (class_of u) part (Kids Optional only) k o))
    (class_changed [] 0 (class_of w) (place, 0) (class_of u) part (Kids Optional only)) (λ k. same k ∙ written k) top (left_by s p.numbered) now.stored)
    waiting leaving limit (unmarked_as classes old mid new e Does p marks (ap (gone s) d.is))

-- what waited is given up
abbrev waiting_in : Option Tree → ℕ → Bool
waiting_in None k = false
waiting_in (Some w) k = is_some (path_in k w)

kept_alone : (memory later : ℕ → Option Info) (s : Tree) (o : Option Tree) (root : Option ℕ) → Keeps memory s o
    → root ≡ option_map class_of o → IsGivenUp root memory later
    → Keeps later s None × ((k : ℕ) → later k ≡ cond (waiting_in o k) None (memory k))
kept_alone memory later s None root h is given =
    let same : (k : ℕ) → later k ≡ memory k = subst (λ (r : Option ℕ). IsGivenUp r memory later) is given in
    let equal : memory ≡ later = λ i k. sym (same k) i in
    (subst (λ (m : ℕ → Option Info). Keeps m s None) equal h, same)
kept_alone memory later s (Some w) root h is given =
    let freed : (k : ℕ) → later k ≡ cond (is_some (path_in k w)) None (memory k) = subst (λ (r : Option ℕ). IsGivenUp r memory later) is given top w refl h.waits.1.0 h.waits.0 in
    (given_up memory later w freed s h, freed)

-- what was freed had no mark but those that were there, and then the marks were taken back
pub record TakesMarksBack (mid new : Shown) : Type 0 where
  pub freed : Slab Entry
  pub fewer : MarksNoMore mid.slab freed
  pub still : (k : ℕ) → memory_of new.slab k ≡ memory_of freed k
  pub taken : IsUnmarking mid.leaving freed new.slab

unmarked_back : (classes : Classes) (old mid new : Shown) (e : Edit) (Does : Tree → Edit → Type 0) → IsPrepared classes
    old e Does mid → Keeps (memory_of new.slab) (numbers old) None → TakesMarksBack mid new → IsUnmarked new.slab
unmarked_back classes old mid new e Does p keeps back = by_gone (gone (numbers old) p.numbered) refl
  where
    taken : (o : Option Tree) → gone (numbers old) p.numbered ≡ o → IsUnmarking (option_map class_of o) back.freed new.slab
    taken o is = subst (λ (l : Option ℕ). IsUnmarking l back.freed new.slab) (p.leaving ∙ ap (option_map class_of) is) back.taken

    by_gone : (o : Option Tree) → gone (numbers old) p.numbered ≡ o → IsUnmarked new.slab
    by_gone None is = λ k. taken None is k ∙ unmarked_still mid.slab back.freed back.fewer (λ j. p.marks j ∙ ap (stands_in j) is) k
    by_gone (Some x) is =
        let (n, at', there) = led (tree_at (numbers old)) (removed (change_of p.numbered)) x is in
        unmarked_below back.freed new.slab (numbers old) n x
        (stored_same new.slab back.freed (λ k. sym (back.still k)) top (numbers old) keeps.stored) keeps.apart
        keeps.shallow there (λ k e. sym (p.marks k ∙ ap (stands_in k) is) ∙ back.fewer k e) (taken (Some x) is)

pub cancelled : (classes : Classes) (old mid new : Shown) (e : Edit) (Does : Tree → Edit → Type 0)
    → IsPrepared classes old e Does mid → IsGivenUp mid.waiting (memory_of mid.slab) (memory_of new.slab) →
    new.root ≡ mid.root → new.waiting ≡ None → new.leaving ≡ None → new.limit ≡ mid.limit → TakesMarksBack mid new →
    IsCancelled old new
cancelled classes old mid new e Does p given root waiting leaving limit back =
    let memory = memory_of mid.slab in
    let later = memory_of new.slab in
    let s = numbers old in
    let (keeps, changes) = kept_alone memory later s (brought p.numbered) mid.waiting p.keeps p.waits given in
    let grows : numbers new ≡ s = grown_kept later s new.root keeps (root_was classes old mid new e Does p ∙ sym root) in
    let stay : relabel (class_in later) s ≡ relabel (class_in memory) s = classes_stay memory later (waiting_in (brought p.numbered)) (λ k o. o) (λ k o. refl) changes top s keeps.stored in
    let is : tree new ≡ tree old = ap (relabel (class_in later)) grows ∙ stay ∙ same_classes classes old mid new e Does p in
    let stays : new.limit ≡ old.limit = limit ∙ p.limit_stays in
    let few : nat_le (nodes (tree new)) new.limit ≡ true = (λ i. nat_le (nodes (is i)) (stays i)) ∙ p.was_idle.allowed in
    record {
      idle =
          record {
            waiting = waiting;
            leaving = leaving;
            keeps = subst (λ (t : Tree). Keeps later t None) (sym grows) keeps;
            limits = ap is_within_limits is
                ∙ p.was_idle.limits;
            allowed = few;
            unmarked = unmarked_back classes old mid new e Does p keeps back;
          };
      numbers_stay = grows;
      tree_stays = is;
      limit_stays = stays;
    }
