-- The memory after each edit keeps the tree that the edit leaves.
use Rattle.std.proofs.Common.{◌≡◌, ℕ, zero, suc, ◌+◌, ◌<◌, ◌≤◌, Bool, true, false, ◌&&◌, nat_eq, nat_le, cond, if◌then◌else◌, List, [], ◌∷◌, ◌++◌, length, drop, Option, Some, None, refl, sym, ap, ◌∙◌, subst, arith, option_and_then, option_map, is_some}
use Rattle.std.specs.Prelude.{map, is_none}
use Rattle.std.specs.List.{slice_get, insert, remove}
use Rattle.std.proofs.lemmas.Bool.Decides.{nat_tests}
use Rattle.std.proofs.lemmas.Option.{slice_get_past, slice_get_within}
use Rattle.at_model.specs.Trees.{Tree, Cell, Trees, One, Many, Empty, Filled, Holds, class_of, children, from_trees}
use Rattle.at_model.specs.Trees as trees
use Rattle.at_model.specs.Paths.{Node, tree_at, cell_at, children_at, step_eq, parent_of}
use Rattle.at_model.specs.Edits.{Set, Put, Drop, Insert, Token, changed_at, with_child, with_cell, with_node, without_child, with_one_more, left_by, moved_under, past_set, past_put, past_drop, past_insert}
use Rattle.at_model.proofs.Options.{led}
use Rattle.at_model.proofs.Nodes.{step_eq-sound}
use Rattle.at_model.proofs.of_edits.Conforming.{set_in_parent}
use Rattle.at_model.proofs.of_edits.Moving.{Way, KeepsParts}
use Rattle.at_model.proofs.of_edits.Ways.{set_way, put_way, DropWay, drop_way, InsertWay, insert_way, set_keeps, put_keeps, drop_keeps, insert_keeps}
use Rattle.at_model.proofs.of_edits.Ways as way
use Rattle.at_model.proofs.of_edits.Untouched.{tree_at-append, in_cell as kids, FitsAt, child-same, child-other, from_to_trees}
use Rattle.at_model.proofs.of_edits.Untouching.{inserted-fits, nothing_keeps}
use Rattle.at_model.proofs.of_edits.Surviving.{moved_out, drop_out, parent_is, none_mapped, set_out}
use Rattle.at_model.proofs.WithinTree.{tree_at-snoc}
use Rattle.at_store.specs.Numbers.{path_in}
use Rattle.at_store.specs.Memory.{Info, Kids, Token_of, List_of, Optional, kept, with_numbers, Place, Stored, Keeps, IsShallow, top as root_place, with_place, rewritten, placed, renumbered}
use Rattle.at_store.proofs.Found.{number_found}
use Rattle.at_store.proofs.of_edits.Origins.{OriginsOf, OriginsAt, AreNew}
use Rattle.at_store.proofs.of_edits.Edited.{IsAt, IsNone, one_new, none_new, insert_origins, set_origins, put_origins, drop_origins, drop_fits, token_origins}
use Rattle.at_store.proofs.Within.{stands_within}
use Rattle.at_store.proofs.of_edits.Renumbered.{not_eq}
use Rattle.at_store.proofs.of_edits.Changed.{from_place, from_cond, stored_there, later_new, keeps_after}

-- lists
length_map : {A B : Type 0} (f : A → B) (xs : List A) → length (map f xs) ≡ length xs
length_map f [] = refl
length_map f (x ∷ xs) = ap suc (length_map f xs)

pub behind_at : {A : Type 0} (n : ℕ) (xs : List A) (j : ℕ) → slice_get (drop n xs) j ≡ slice_get xs (n + j)
behind_at zero xs j = let e : j ≡ 0 + j = omega arith in ap (slice_get xs) e
behind_at (suc n) [] j = refl
behind_at (suc n) (x ∷ xs) j = let e : suc (n + j) ≡ suc n + j = omega arith in behind_at n xs j ∙ ap (slice_get (x ∷ xs)) e

insert_map : (ts : List Tree) (i : ℕ) (new : Tree) → map class_of (insert ts i new) ≡ insert (map class_of ts) i (class_of new)
insert_map [] zero new = refl
insert_map [] (suc i) new = refl
insert_map (t ∷ ts) zero new = refl
insert_map (t ∷ ts) (suc i) new = ap (λ us. class_of t ∷ us) (insert_map ts i new)

remove_map : (ts : List Tree) (i : ℕ) → map class_of (remove ts i) ≡ remove (map class_of ts) i
remove_map [] zero = refl
remove_map [] (suc i) = refl
remove_map (t ∷ ts) zero = refl
remove_map (t ∷ ts) (suc i) = ap (λ us. class_of t ∷ us) (remove_map ts i)

change_map : (ts : List Tree) (i : ℕ) (new : Tree) → map class_of (changed_at (λ u. new) ts i) ≡ changed_at (λ n. class_of new) (map class_of ts) i
change_map [] i new = refl
change_map (t ∷ ts) zero new = refl
change_map (t ∷ ts) (suc i) new = ap (λ us. class_of t ∷ us) (change_map ts i new)

pub one_there : (ts : List Tree) (i : ℕ) (new : Tree) → i ≤ length ts → slice_get (insert ts i new) i ≡ Some new
one_there [] zero new h = refl
one_there [] (suc i) new h = let f : suc i ≤ 0 = h in absurd (omega arith)
one_there (t ∷ ts) zero new h = refl
one_there (t ∷ ts) (suc i) new h = let f : suc i ≤ suc (length ts) = h in one_there ts i new (omega arith)

-- what is kept of a cell after its change
pub kept_insert : (new : Tree) (i : ℕ) (ts : Trees) → kept (with_one_more new i (Many ts)) ≡ Kids List_of (insert (map class_of (from_trees ts)) i (class_of new))
kept_insert new i ts = ap (Kids List_of) (ap (map class_of) (from_to_trees (insert (from_trees ts) i new)) ∙ insert_map (from_trees ts) i new)

pub kept_set : (new : Tree) (i : ℕ) (c : Cell) → kept (with_child (λ u. new) i c) ≡ with_numbers (λ ns. changed_at (λ n. class_of new) ns i) (kept c)
kept_set new zero (One t) = refl
kept_set new (suc i) (One t) = refl
kept_set new i (Many ts) = ap (Kids List_of) (ap (map class_of) (from_to_trees (changed_at (λ u. new) (from_trees ts) i)) ∙ change_map (from_trees ts) i new)
kept_set new i Empty = refl
kept_set new zero (Filled t) = refl
kept_set new (suc i) (Filled t) = refl
kept_set new i (Holds v) = refl

pub kept_drop : (i : ℕ) (c : Cell) → ((t : Tree) → c ≡ One t → ⊥) → kept (without_child i c) ≡ with_numbers (λ ns. remove ns i) (kept c)
kept_drop i (One t) n = absurd (n t refl)
kept_drop i (Many ts) n = ap (Kids List_of) (ap (map class_of) (from_to_trees (remove (from_trees ts) i)) ∙ remove_map (from_trees ts) i)
kept_drop zero Empty n = refl
kept_drop (suc i) Empty n = refl
kept_drop zero (Filled t) n = refl
kept_drop (suc zero) (Filled t) n = refl
kept_drop (suc (suc i)) (Filled t) n = refl
kept_drop i (Holds v) n = refl

pub numbers_drop : (i : ℕ) (c : Cell) → ((t : Tree) → c ≡ One t → ⊥) → map class_of (children (without_child i c)) ≡ remove (map class_of (children c)) i
numbers_drop i (One t) n = absurd (n t refl)
numbers_drop i (Many ts) n = ap (map class_of) (from_to_trees (remove (from_trees ts) i)) ∙ remove_map (from_trees ts) i
numbers_drop zero Empty n = refl
numbers_drop (suc i) Empty n = refl
numbers_drop zero (Filled t) n = refl
numbers_drop (suc zero) (Filled t) n = refl
numbers_drop (suc (suc i)) (Filled t) n = refl
numbers_drop zero (Holds v) n = refl
numbers_drop (suc i) (Holds v) n = refl

goes_on : (past : Way → Option Way) (p n : Node) (t v : Tree) → ((u : Tree) (r : Way) (y : Tree) → tree_at t p ≡ Some u
    → slice_get (children_at u r.0) r.1 ≡ Some y → is_none (past r) ≡ false) → tree_at t n ≡ Some v
    → is_none (moved_under p past n) ≡ false
goes_on past [] [] t v h is = refl
goes_on past [] (r ∷ rs) t v h is = let (y, child, below) = led (λ x. tree_at x rs) (slice_get (children_at t r.0) r.1) v is in none_mapped (λ (w : Way). w ∷ rs) (past r) ∙ h t r y refl child
goes_on past (a ∷ p) [] t v h is = refl
goes_on past (a ∷ p) (r ∷ rs) t v h is = by_step (step_eq a r) refl (λ y k at'. goes_on past p rs y v k at')
  where
    by_step : (b : Bool) → step_eq a r ≡ b
        → ((y : Tree) → ((u : Tree) (r : Way) (x : Tree) → tree_at y p ≡ Some u → slice_get (children_at u r.0) r.1
        ≡ Some x → is_none (past r) ≡ false) → tree_at y rs ≡ Some v → is_none (moved_under p past rs) ≡ false) →
        is_none (if b then option_map (λ (us : Node). r ∷ us) (moved_under p past rs) else Some (r ∷ rs)) ≡ false
    by_step false e more = refl
    by_step true e more =
        let (y, child, below) = led (λ x. tree_at x rs) (slice_get (children_at t r.0) r.1) v is in
        let child' : slice_get (children_at t a.0) a.1 ≡ Some y = subst (λ (s : Way). slice_get (children_at t s.0) s.1 ≡ Some y) (sym (step_eq-sound a r e)) child in
        none_mapped (λ (us : Node). r ∷ us) (moved_under p past rs) ∙ more y (λ u q x found kid. h u q x (ap (option_and_then (λ z. tree_at z p)) child' ∙ found) kid) below

-- a tree that waited comes in
module _ (g : Cell → Cell) (part spot : ℕ) (past : Way → Option Way) (keeps : KeepsParts past part) (s w : Tree)
    (p : Node) (fits : FitsAt g part past s p) (origins : OriginsAt g part past (IsAt w spot) s p)
    (u : Tree) (c : Cell) (found : tree_at s p ≡ Some u) (here : cell_at u part ≡ Some c) (from : ℕ) (behind : List ℕ)
    (behind_is : (j : ℕ) → slice_get behind j ≡ slice_get (map class_of (children (g c))) (from + j))
    (before : (s w : Way) → s.0 ≡ part → past s ≡ Some w → w.1 < from → w.1 ≡ s.1) (front : spot < from) (child : slice_get (children (g c)) spot ≡ Some w)
    (memory later : ℕ → Option Info) (h : Keeps memory s (Some w)) (gone : ℕ → Bool)
    (changes : (k : ℕ) → later k ≡ cond (gone k) None (renumbered behind from k (placed (class_of w) (Some (class_of u, part), spot) k (rewritten (class_of u) part (kept (g c)) k (memory k)))))
    (gone_old : (n : Node) (v : Tree) → tree_at s n ≡ Some v → gone (class_of v) ≡ is_none (moved_under p past n))
    (gone_new : (m : Node) (v : Tree) → tree_at w m ≡ Some v → gone (class_of v) ≡ false) where
  abbrev place : Place
  place = (Some (class_of u, part), spot)

  news : AreNew g part past (IsAt w spot) keeps s
  news = one_new g part spot past keeps s w h.apart h.waits.1

  place_old : (n : Node) (v : Tree) → tree_at s n ≡ Some v → (o : Option Info) → placed (class_of w) place (class_of v) o ≡ o
  place_old n v was o = ap (λ b. cond b (with_place place o) o) (not_eq (class_of v) (class_of w) (news.fresh w spot (refl, refl) n [] v w was refl))

  place_some : (k : ℕ) (o : Option Info) (i : Info) → placed (class_of w) place k o ≡ Some i → (j : Info) × (o ≡ Some j)
  place_some k o i e = from_cond (nat_eq k (class_of w)) (with_place place o) o i (from_place place o) e

  fronts : (y : Tree) (j : ℕ) → IsAt w spot y j → j < from
  fronts y j (e, f) = subst (λ z. z < from) (sym f) front

  gone_news : (x : Tree) (j : ℕ) → IsAt w spot x j → (m : Node) (v : Tree) → tree_at x m ≡ Some v → gone (class_of v) ≡ false
  gone_news x j (e, f) m v is = gone_new m v (subst (λ z. tree_at z m ≡ Some v) e is)

  in_place : Stored later place w
  in_place = stored_there memory later w root_place place h.waits.1.0 h.waits.0
      (later_new g part past (IsAt w spot) keeps s p fits origins news u c found here from behind behind_is before
      fronts memory later (Some w) h gone (placed (class_of w) place) changes place_old place_some gone_old
      gone_news w spot (refl, refl))

  brought : (x : Tree) (j : ℕ) → IsAt w spot x j → Stored later (Some (class_of u, part), j) x × (slice_get (children (g c)) j ≡ Some x)
  brought x j (e, f) =
      (subst (λ (z : ℕ). Stored later (Some (class_of u, part), z) x) (sym f) (subst (Stored later place) (sym e) in_place), ap (slice_get (children (g c))) f ∙ child ∙ ap Some (sym e))

  pub comes_in : IsShallow 512 (with_node (with_cell g part) s p) → Keeps later (with_node (with_cell g part) s p) None
  comes_in shallow =
      keeps_after g part past (IsAt w spot) keeps s p fits origins news u c found here from behind behind_is before
      fronts memory later (Some w) h gone (placed (class_of w) place) changes place_old place_some
      gone_old gone_news
      brought (λ k e. (w, spot, (refl, refl), e)) shallow

-- nothing comes in
module _ (g : Cell → Cell) (part : ℕ) (past : Way → Option Way) (keeps : KeepsParts past part) (s : Tree) (p : Node) (fits : FitsAt g part past s p) (origins : OriginsAt g part past IsNone s p)
    (u : Tree) (c : Cell) (found : tree_at s p ≡ Some u) (here : cell_at u part ≡ Some c) (from : ℕ) (behind : List ℕ)
    (behind_is : (j : ℕ) → slice_get behind j ≡ slice_get (map class_of (children (g c))) (from + j))
    (before : (s w : Way) → s.0 ≡ part → past s ≡ Some w → w.1 < from → w.1 ≡ s.1)
    (memory later : ℕ → Option Info) (h : Keeps memory s None) (gone : ℕ → Bool)
    (changes : (k : ℕ) → later k ≡ cond (gone k) None (renumbered behind from k (rewritten (class_of u) part (kept (g c)) k (memory k))))
    (gone_old : (n : Node) (v : Tree) → tree_at s n ≡ Some v → gone (class_of v) ≡ is_none (moved_under p past n)) where
  pub nothing_comes : IsShallow 512 (with_node (with_cell g part) s p) → Keeps later (with_node (with_cell g part) s p) None
  nothing_comes shallow =
      keeps_after g part past IsNone keeps s p fits origins (none_new g part past keeps s) u c found here from behind
      behind_is before (λ y j no. absurd no) memory later None h gone (λ k o. o) changes (λ n v was o. refl)
      (λ k o i e. (i, e)) gone_old (λ x j no. absurd no)
      (λ x j no. absurd no) (λ k e. absurd (let f : false ≡ true = e in cc)) shallow

-- the cell that stands there is that one
pub one_cell : (s u : Tree) (p : Node) (part : ℕ) (c : Cell) → tree_at s p ≡ Some u → cell_at u part ≡ Some c → (v : Tree) (d : Cell) → tree_at s p ≡ Some v → cell_at v part ≡ Some d → c ≡ d
one_cell s u p part c found here v d is at' =
    let e : Some u ≡ Some v = sym found ∙ is in
    let f : u ≡ v = cc in
    let k : Some c ≡ Some d = sym here ∙ ap (λ z. cell_at z part) f ∙ at' in
    cc

-- a token
module _ (memory later : ℕ → Option Info) (s u : Tree) (h : Keeps memory s None) (node : Node) (part : ℕ)
    (old new : trees.Token) (found : tree_at s node ≡ Some u) (here : cell_at u part ≡ Some (Holds old))
    (changes : (k : ℕ) → later k ≡ rewritten (class_of u) part (Token_of new) k (memory k)) where
  pub token_set : IsShallow 512 (left_by s (Token node part new)) → Keeps later (left_by s (Token node part new)) None
  token_set shallow =
      let past : Way → Option Way = λ r. Some r in
      nothing_comes (λ c. Holds new) part past (nothing_keeps part) s node
      (λ v d is at' r w same e. ap (λ (z : Cell). slice_get (children z) r.1) (one_cell s u node part (Holds old) found here v d is at')) (λ v d is at'. token_origins part new d)
      u (Holds old) found here 0 [] (λ j. refl) (λ r w same e less. absurd (omega arith)) memory later h (λ k. false) changes
      (λ n v was. sym (goes_on past node n s v (λ x r y at' child. refl) was)) shallow

-- an element
module _ (memory later : ℕ → Option Info) (s w u : Tree) (h : Keeps memory s (Some w)) (node : Node) (part index : ℕ)
    (ts : Trees) (found : tree_at s node ≡ Some u) (here : cell_at u part ≡ Some (Many ts))
    (bound : index ≤ length (from_trees ts))
    (numbers : List ℕ) (numbers_are : numbers ≡ insert (map class_of (from_trees ts)) index (class_of w))
    (changes : (k : ℕ) → later k ≡ renumbered (drop (suc index) numbers) (suc index) k (placed (class_of w)
    (Some (class_of u, part), index) k (rewritten (class_of u) part (Kids List_of numbers) k (memory k)))) where
  pub inserted : IsShallow 512 (left_by s (Insert node part index w)) → Keeps later (left_by s (Insert node part index w)) None
  inserted shallow =
      let g = with_one_more w index in
      let past = past_insert (part, index) in
      let same : (v : Tree) (d : Cell) → tree_at s node ≡ Some v → cell_at v part ≡ Some d → Many ts ≡ d = one_cell s u node part (Many ts) found here in
      let kids_are : kept (g (Many ts)) ≡ Kids List_of numbers = kept_insert w index ts ∙ ap (Kids List_of) (sym numbers_are) in
      let list_is : numbers ≡ map class_of (children (g (Many ts))) = numbers_are ∙ sym (ap (map class_of) (from_to_trees (insert (from_trees ts) index w)) ∙ insert_map (from_trees ts) index w) in
      comes_in g part index past (insert_keeps (part, index)) s w node
      (λ v d is at' r x e moves. subst (λ (z : Cell). slice_get (children (g z)) x.1 ≡ slice_get (children z) r.1)
      (same v d is at') (inserted-fits ts (part, index) r x w bound e (insert_way (part, index) r x moves)))
      (λ v d is at'. subst (λ (z : Cell). OriginsOf g part past (IsAt w index) z) (same v d is at') (insert_origins part index w ts bound))
      u (Many ts) found here (suc index) (drop (suc index) numbers) (λ j. behind_at (suc index) numbers j ∙ ap (λ ns. slice_get ns (suc index + j)) list_is)
      (λ r x e moves less. kept_in_front r x less e (insert_way (part, index) r x moves)) (omega arith)
      (ap (λ us. slice_get us index) (from_to_trees (insert (from_trees ts) index w))
      ∙ one_there (from_trees ts) index w bound)
      memory later h (λ k. false) (λ k. changes k ∙ ap (λ z. renumbered (drop (suc index) numbers) (suc index) k (placed
      (class_of w) (Some (class_of u, part), index) k (rewritten (class_of u) part z k (memory k)))) (sym kids_are))
      (λ n v was. sym (goes_on past node n s v (λ x r y at' child. no_way_out r (nat_eq part r.0 && nat_le index r.1)) was)) (λ m v is. refl) shallow
    where
      kept_in_front : (r x : Way) → x.1 < suc index → r.0 ≡ part → InsertWay (part, index) r x → x.1 ≡ r.1
      kept_in_front r x less e (way.behind a b c d) = absurd (omega arith)
      kept_in_front r x less e (way.stays is before) = ap (λ (z : Way). z.1) is

      no_way_out : (r : Way) (b : Bool) → is_none (if b then Some (r.0, r.1 + 1) else Some r) ≡ false
      no_way_out r true = refl
      no_way_out r false = refl

-- into an empty optional
module _ (memory later : ℕ → Option Info) (s w u : Tree) (h : Keeps memory s (Some w)) (node : Node) (part : ℕ) (found : tree_at s node ≡ Some u) (here : cell_at u part ≡ Some Empty)
    (changes : (k : ℕ) → later k ≡ placed (class_of w) (Some (class_of u, part), 0) k (rewritten (class_of u) part (Kids Optional (class_of w ∷ [])) k (memory k))) where
  not_there : (r x : Way) → r.0 ≡ part → past_put part r ≡ Some x → ⊥
  not_there r x e moves =
      let a : nat_eq part r.0 ≡ true = grind (arith, nat_tests) in
      let b : true ≡ false = sym a ∙ (put_way part r x moves).1 in cc

  no_way_out : (x : Tree) (r : Way) (y : Tree) → tree_at s node ≡ Some x → slice_get (children_at x r.0) r.1 ≡ Some y → is_none (past_put part r) ≡ false
  no_way_out x r y at' child = by_part (nat_eq part r.0) refl
    where
      by_part : (b : Bool) → nat_eq part r.0 ≡ b → is_none (if b then None else Some r) ≡ false
      by_part false e = refl
      by_part true e =
          let same : part ≡ r.0 = grind (arith, nat_tests) in
          let e : Some u ≡ Some x = sym found ∙ at' in
          let f : u ≡ x = cc in
          let empty : cell_at x r.0 ≡ Some Empty = ap (cell_at x) (sym same) ∙ ap (λ z. cell_at z part) (sym f) ∙ here in
          let gone : None ≡ Some y = sym (ap (λ o. slice_get (kids o) r.1) empty) ∙ child in absurd cc

  pub put_in : IsShallow 512 (left_by s (Put node part w)) → Keeps later (left_by s (Put node part w)) None
  put_in shallow =
      comes_in (λ c. Filled w) part 0 (past_put part) (put_keeps part) s w node (λ v d is at' r x e moves. absurd (not_there r x e moves)) (λ v d is at'. put_origins part w d)
      u Empty found here 1 [] (λ j. let e : suc j ≡ 1 + j = omega arith in ap (slice_get (class_of w ∷ [])) e) (λ r x e moves less. absurd (not_there r x e moves)) (omega arith) refl
      memory later h (λ k. false) changes (λ n v was. sym (goes_on (past_put part) node n s v no_way_out was)) (λ m v is. refl) shallow

-- in the place of a node that is no root
module _ (memory later : ℕ → Option Info) (s w u x : Tree) (h : Keeps memory s (Some w)) (node p : Node) (place : Way)
    (parent : parent_of node ≡ Some (p, place)) (c : Cell) (found : tree_at s p ≡ Some u)
    (here : cell_at u place.0 ≡ Some c) (there : tree_at s node ≡ Some x)
    (changes : (k : ℕ) → later k ≡ cond (is_some (path_in k x)) None
    (placed (class_of w) (Some (class_of u, place.0), place.1) k (rewritten (class_of u) place.0
    (with_numbers (λ ns. changed_at (λ n. class_of w) ns place.1) (kept c)) k (memory k)))) where
  abbrev g : Cell → Cell
  g = with_child (λ u. w) place.1

  top : tree_at s (p ++ place ∷ []) ≡ Some x
  top = ap (tree_at s) (sym (parent_is node (p, place) parent)) ∙ there

  child : slice_get (children c) place.1 ≡ Some x
  child = sym (ap (λ o. slice_get (kids o) place.1) here) ∙ sym (tree_at-snoc s p place u found) ∙ top

  fits : FitsAt g place.0 (past_set place) s p
  fits v d is at' r y same e =
      let (stays, other) = set_way place r y e in
      let differs : place.1 ≡ r.1 → ⊥ = λ h. (let g : nat_eq place.0 r.0 ≡ true = grind (arith, nat_tests) in
      let k : nat_eq place.1 r.1 ≡ true = grind (arith, nat_tests) in
      let m : true ≡ false = sym (ap (λ b. b && nat_eq place.1 r.1) g ∙ k) ∙ other in cc) in
      ap (λ (z : Way). slice_get (children (with_child (λ u. w) place.1 d)) z.1) (sym stays) ∙ child-other (λ u. w) place.1 r.1 d differs

  not_within : (m : Node) (v : Tree) → tree_at w m ≡ Some v → is_some (path_in (class_of v) x) ≡ false
  not_within m v is = by_path (path_in (class_of v) x) refl
    where
      by_path : (o : Option Node) → path_in (class_of v) x ≡ o → is_some o ≡ false
      by_path None e = refl
      by_path (Some r) e =
          let (y, at', same) = number_found x (class_of v) r e in
          let old : tree_at s ((p ++ place ∷ []) ++ r) ≡ Some y = tree_at-append s (p ++ place ∷ []) r ∙ ap (option_and_then (λ z. tree_at z r)) top ∙ at' in
          absurd ((one_new g place.0 place.1 (past_set place) (set_keeps place) s w h.apart h.waits.1).fresh w place.1 (refl, refl) ((p ++ place ∷ []) ++ r) m y v old is same)

  pub set_there : IsShallow 512 (left_by s (Set node w)) → Keeps later (left_by s (Set node w)) None
  set_there shallow =
      let left : left_by s (Set node w) ≡ with_node (with_cell g place.0) s p = set_in_parent [] w node (p, place) parent s in
      let new : slice_get (children (g c)) place.1 ≡ Some w = child-same (λ u. w) place.1 c ∙ ap (option_map (λ u. w)) child in
      let past_end : (j : ℕ) → length (map class_of (children (g c))) ≤ length (children (g c)) + j = λ j. (let e = length_map class_of (children (g c)) in omega arith) in
      subst (λ (z : Tree). Keeps later z None) (sym left)
      (comes_in g place.0 place.1 (past_set place) (set_keeps place) s w p fits (λ v d is at'. set_origins place.0 place.1 w d) u c found here (length (children (g c))) []
      (λ j. sym (slice_get_past (map class_of (children (g c))) (length (children (g c)) + j) (past_end j)))
      (λ r y same e less. ap (λ (z : Way). z.1) (sym (set_way place r y e).0))
      (slice_get_within (children (g c)) place.1 w new) new
      memory later h (λ k. is_some (path_in k x))
      (λ k. changes k ∙ ap (λ z. cond (is_some (path_in k x)) None (placed (class_of w) (
        Some (class_of u, place.0),
        place.1,
      ) k (rewritten (class_of u) place.0 z k (memory k)))) (sym (kept_set w place.1 c)))
      (λ n v was. stands_within s x (p ++ place ∷ []) h.apart top n v was ∙ sym (moved_out (past_set place) place (set_out place) p n)) not_within
      (subst (IsShallow 512) left shallow))

-- a child of a list or of an optional is taken away
module _ (memory later : ℕ → Option Info) (s u x : Tree) (h : Keeps memory s None) (node p : Node) (place : Way)
    (parent : parent_of node ≡ Some (p, place)) (c : Cell) (found : tree_at s p ≡ Some u)
    (here : cell_at u place.0 ≡ Some c) (there : tree_at s node ≡ Some x) (plain : (t : Tree) → c ≡ One t → ⊥)
    (numbers : List ℕ) (numbers_are : numbers ≡ remove (map class_of (children c)) place.1)
    (changes : (k : ℕ) → later k ≡ cond (is_some (path_in k x)) None (renumbered (drop place.1 numbers) place.1 k
    (rewritten (class_of u) place.0 (with_numbers (λ ns. numbers) (kept c)) k (memory k)))) where
  abbrev without : Cell → Cell
  without = without_child place.1

  not_one : (v : Tree) (d : Cell) → tree_at s p ≡ Some v → cell_at v place.0 ≡ Some d → (t : Tree) → d ≡ One t → ⊥
  not_one v d is at' t one = plain t (one_cell s u p place.0 c found here v d is at' ∙ one)

  kept_in_front : (r y : Way) → y.1 < place.1 → DropWay place r y → y.1 ≡ r.1
  kept_in_front r y less (way.behind a b c d) = absurd (omega arith)
  kept_in_front r y less (way.stays is before) = ap (λ (z : Way). z.1) is

  stood : tree_at s (p ++ place ∷ []) ≡ Some x
  stood = ap (tree_at s) (sym (parent_is node (p, place) parent)) ∙ there

  kept_is : (d : Cell) → ((t : Tree) → d ≡ One t → ⊥) → numbers ≡ remove (map class_of (children d)) place.1 → with_numbers (λ ns. numbers) (kept d) ≡ kept (without d)
  kept_is (One t) n e = absurd (n t refl)
  kept_is (Many ts) n e = ap (Kids List_of) e ∙ sym (kept_drop place.1 (Many ts) n)
  kept_is Empty n e = ap (Kids Optional) e ∙ sym (kept_drop place.1 Empty n)
  kept_is (Filled t) n e = ap (Kids Optional) e ∙ sym (kept_drop place.1 (Filled t) n)
  kept_is (Holds v) n e = sym (kept_drop place.1 (Holds v) n)

  pub dropped : IsShallow 512 (left_by s (Drop node)) → Keeps later (left_by s (Drop node)) None
  dropped shallow =
      let left : left_by s (Drop node) ≡ with_node (with_cell without place.0) s p = ap (λ (o : Option (Node × Way)).
      elim o [ None ↦ s | Some p ↦ with_node (with_cell (without_child p.1.1) p.1.0) s p.0 ]) parent in
      let list_is : numbers ≡ map class_of (children (without c)) = numbers_are ∙ sym (numbers_drop place.1 c plain) in
      subst (λ (z : Tree). Keeps later z None) (sym left)
      (nothing_comes without place.0 (past_drop place) (drop_keeps place) s p (λ v d is at' r y same e.
      drop_fits place r y d (not_one v d is at') same (drop_way place r y e)) (λ v d is at'.
      drop_origins place.0 place.1 d (not_one v d is at')) u c found here place.1 (drop place.1 numbers)
      (λ j. behind_at place.1 numbers j ∙ ap (λ ns. slice_get ns (place.1 + j)) list_is) (λ r y same e less. kept_in_front r y less (drop_way place r y e)) memory later h (λ k. is_some (path_in k x))
      (λ k. changes k ∙ ap (λ z. cond (is_some (path_in k x)) None (renumbered (drop place.1 numbers) place.1 k (rewritten (class_of u) place.0 z k (memory k)))) (kept_is c plain numbers_are))
      (λ n v was. stands_within s x (p ++ place ∷ []) h.apart stood n v was ∙ sym (moved_out (past_drop place) place (drop_out place) p n))
      (subst (IsShallow 512) left shallow))
