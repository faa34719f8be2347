-- Where numbers stand after an edit.
use Rattle.std.proofs.Common.{◌≡◌, ℕ, zero, suc, ◌+◌, ◌-◌, ◌<◌, ◌≤◌, Bool, true, false, ◌&&◌, nat_eq, nat_lt, nat_le, List, [], ◌∷◌, length, Option, Some, None, ◌⊎◌, inl, inr, refl, sym, ap, ◌∙◌, subst, arith, option_and_then, option_map, is_some}
use Rattle.std.specs.Prelude.{map}
use Rattle.std.specs.List.{slice_get, insert, remove}
use Rattle.std.proofs.lemmas.Bool.{eq-eqb}
use Rattle.std.proofs.lemmas.Bool.Decides.{nat_tests}
use Rattle.at_model.specs.Classes.{Classes}
use Rattle.at_model.specs.Trees.{Tree, Cell, Trees, One, Many, Empty, Filled, Holds, class_of, children, to_trees, from_trees, conforms, cell_conforms}
use Rattle.at_model.specs.Trees as trees
use Rattle.at_model.specs.Paths.{Node, tree_at, cell_at, parent_of}
use Rattle.at_model.specs.Edits.{Edit, Insert, Token, shape_at, plain_class, list_class, token_kind, has_component, is_in_range, children_of, with_child, with_cell, with_node, without_child, with_one_more, left_by, moved_under, past_set, past_put, past_drop, past_insert, carried}
use Rattle.at_model.proofs.of_edits.Conforming.{set_in_parent, root_alone}
use Rattle.at_model.proofs.Options.{mapped}
use Rattle.at_model.proofs.of_edits.Moving.{Way, KeepsParts}
use Rattle.at_model.proofs.of_edits.Ways.{set_way, put_way, DropWay, drop_way, insert_way, set_keeps, put_keeps, drop_keeps, insert_keeps}
use Rattle.at_model.proofs.of_edits.Ways as way
use Rattle.at_model.proofs.of_edits.Untouched.{FitsAt, child-same, child-other, from_to_trees, by_nat}
use Rattle.at_model.proofs.of_edits.Untouching.{shape_there, component_there, counted, list_cell, token_cell, plain_cell, selected, inserted-fits, removed-before, removed-behind, nothing_keeps}
use Rattle.at_store.specs.Numbers.{relabel, relabel_cell, path_in, IsApart, IsFreshTree, path_in_new}
use Rattle.at_store.proofs.Found.{named}
use Rattle.at_store.proofs.Relabelled.{relabelled-tree_at, relabelled-cell_at, relabelled-trees}
use Rattle.at_store.proofs.of_edits.Origins.{OriginsOf, OriginsAt, AreNew, apart_after, number_after}

-- one new tree, or none
abbrev pub IsAt : Tree → ℕ → Tree → ℕ → Type 0
IsAt new spot x j = (x ≡ new) × (j ≡ spot)

abbrev pub IsNone : Tree → ℕ → Type 0
IsNone x j = ⊥

pub some_none : {A : Type 0} (o : Option A) (a : A) → o ≡ Some a → o ≡ None → ⊥
some_none o a e f = let g : Some a ≡ None = sym e ∙ f in cc

pub one_new : (g : Cell → Cell) (part spot : ℕ) (past : Way → Option Way) (keeps : KeepsParts past part) (t new : Tree) → IsApart t → IsFreshTree t new → AreNew g part past (IsAt new spot) keeps t
one_new g part spot past keeps t new apart (inside, fresh) = record {
  one = λ x y i j h k. (h.0 ∙ sym k.0, h.1 ∙ sym k.1);
  apart = λ x i h. subst IsApart (sym h.0) inside;
  fresh = λ x i h n m u v is at' same.
      let found : path_in (class_of v) new ≡ Some m = named new inside m v (subst (λ z. tree_at z m ≡ Some v) h.0 at') in
      let here : path_in (class_of v) t ≡ Some n = ap (λ k. path_in k t) (sym same) ∙ named t apart n u is in
      some_none _ m found (fresh (class_of v) n here);
}

pub none_new : (g : Cell → Cell) (part : ℕ) (past : Way → Option Way) (keeps : KeepsParts past part) (t : Tree) → AreNew g part past IsNone keeps t
none_new g part past keeps t = record {
  one = λ x y i j h k. absurd h;
  apart = λ x i h. absurd h;
  fresh = λ x i h n m u v is at' same. h;
}

-- elements after one is inserted or removed
data Inserted (us : List Tree) (i j : ℕ) (new x : Tree) : Type 0 where
  before : j < i → slice_get us j ≡ Some x → Inserted us i j new x
  spot : j ≡ i → x ≡ new → Inserted us i j new x
  behind : (k : ℕ) → j ≡ suc k → i ≤ k → slice_get us k ≡ Some x → Inserted us i j new x

inserted : (us : List Tree) (i j : ℕ) (new x : Tree) → i ≤ length us → slice_get (insert us i new) j ≡ Some x → Inserted us i j new x
inserted [] zero zero new x h e = spot refl (let f : new ≡ x = cc in sym f)
inserted [] zero (suc j) new x h e = absurd cc
inserted [] (suc i) j new x h e = let f : suc i ≤ 0 = h in absurd (omega arith)
inserted (u ∷ us) zero zero new x h e = spot refl (let f : new ≡ x = cc in sym f)
inserted (u ∷ us) zero (suc j) new x h e = behind j refl (omega arith) e
inserted (u ∷ us) (suc i) zero new x h e = before (omega arith) e
inserted (u ∷ us) (suc i) (suc j) new x h e = let f : suc i ≤ suc (length us) = h in further (inserted us i j new x (omega arith) e)
  where
    further : Inserted us i j new x → Inserted (u ∷ us) (suc i) (suc j) new x
    further (before a b) = before (omega arith) b
    further (spot a b) = spot (ap suc a) b
    further (behind k a b c) = behind (suc k) (ap suc a) (omega arith) c

removed : (us : List Tree) (i j : ℕ) (x : Tree) → slice_get (remove us i) j ≡ Some x → ((j < i) × (slice_get us j ≡ Some x)) ⊎ ((i ≤ j) × (slice_get us (suc j) ≡ Some x))
removed us i j x e = by_test (nat_lt j i) refl
  where
    by_test : (b : Bool) → nat_lt j i ≡ b → ((j < i) × (slice_get us j ≡ Some x)) ⊎ ((i ≤ j) × (slice_get us (suc j) ≡ Some x))
    by_test true h = let less : j < i = grind (arith, nat_tests) in inl (less, sym (removed-before us i j less) ∙ e)
    by_test false h = let more : i ≤ j = grind (arith, nat_tests) in inr (more, sym (removed-behind us i j more) ∙ e)

insert_stays : (part i j : ℕ) → j < i → past_insert (part, i) (part, j) ≡ Some (part, j)
insert_stays part i j h = let e : nat_le i j ≡ false = grind (arith, nat_tests) in rw (eq-eqb part part refl, e) refl

insert_moves : (part i j : ℕ) → i ≤ j → past_insert (part, i) (part, j) ≡ Some (part, suc j)
insert_moves part i j h = let e : nat_le i j ≡ true = grind (arith, nat_tests) in let f : j + 1 ≡ suc j = omega arith in rw (eq-eqb part part refl, e, f) refl

drop_stays : (part i j : ℕ) → j < i → past_drop (part, i) (part, j) ≡ Some (part, j)
drop_stays part i j h = let e : nat_eq i j ≡ false = grind (arith, nat_tests) in let f : nat_lt i j ≡ false = grind (arith, nat_tests) in rw (eq-eqb part part refl, e, f) refl

drop_moves : (part i j : ℕ) → i ≤ j → past_drop (part, i) (part, suc j) ≡ Some (part, j)
drop_moves part i j h =
    let e : nat_eq i (suc j) ≡ false = grind (arith, nat_tests) in
    let f : nat_lt i (suc j) ≡ true = grind (arith, nat_tests) in
    let g : suc j - 1 ≡ j = omega arith in
    rw (eq-eqb part part refl, e, f, g) refl

set_stays : (part i j : ℕ) → (i ≡ j → ⊥) → past_set (part, i) (part, j) ≡ Some (part, j)
set_stays part i j h = by_test (nat_eq i j) refl
  where
    by_test : (b : Bool) → nat_eq i j ≡ b → past_set (part, i) (part, j) ≡ Some (part, j)
    by_test true e = absurd (h (grind (arith, nat_tests)))
    by_test false e = rw (eq-eqb part part refl, e) refl

-- where the children of a changed cell come from
Origins : Cell → (Cell → Cell) → ℕ → (Way → Option Way) → (Tree → ℕ → Type 0) → Type 0
Origins c g part past IsNew = OriginsOf g part past IsNew c

pub insert_origins : (part i : ℕ) (new : Tree) (ts : Trees) → i ≤ length (from_trees ts) → OriginsOf (with_one_more new i) part (past_insert (part, i)) (IsAt new i) (Many ts)
insert_origins part i new ts h j x e = by_place (inserted (from_trees ts) i j new x h (ap (λ us. slice_get us j) (sym (from_to_trees (insert (from_trees ts) i new))) ∙ e))
  where
    by_place : Inserted (from_trees ts) i j new x → ((k : ℕ) × (slice_get (from_trees ts) k ≡ Some x) × (past_insert (part, i) (part, k) ≡ Some (part, j))) ⊎ IsAt new i x j
    by_place (before a b) = inl (j, b, insert_stays part i j a)
    by_place (spot a b) = inr (b, a)
    by_place (behind k a b c) = inl (k, c, insert_moves part i k b ∙ ap (λ z. Some (part, z)) (sym a))

pub drop_origins : (part i : ℕ) (c : Cell) → ((t : Tree) → c ≡ One t → ⊥) → OriginsOf (without_child i) part (past_drop (part, i)) IsNone c
drop_origins part i (One t) n j x e = absurd (n t refl)
drop_origins part i (Many ts) n j x e = elim (removed (from_trees ts) i j x (ap (λ us. slice_get us j) (sym (from_to_trees (remove (from_trees ts) i))) ∙ e)) [
  | inl (less, is) ↦ inl (j, is, drop_stays part i j less)
  | inr (more, is) ↦ inl (suc j, is, drop_moves part i j more)
]
drop_origins part i Empty n j x e = absurd cc
drop_origins part zero (Filled t) n j x e = absurd cc
drop_origins part (suc i) (Filled t) n zero x e = inl (zero, e, drop_stays part (suc i) zero (omega arith))
drop_origins part (suc i) (Filled t) n (suc j) x e = absurd cc
drop_origins part i (Holds v) n j x e = absurd cc

pub set_origins : (part i : ℕ) (new : Tree) (c : Cell) → OriginsOf (with_child (λ u. new) i) part (past_set (part, i)) (IsAt new i) c
set_origins part i new c j x e = by_nat i j _
    (λ same.
    let e' = subst (λ k. slice_get (children (with_child (λ u. new) i c)) k ≡ Some x) (sym same) e in
    let (u, is, f) = mapped (λ (u : Tree). new) (slice_get (children c) i) x (sym (child-same (λ u. new) i c) ∙ e') in
    inr (sym f, sym same))
    (λ n. inl (j, sym (child-other (λ u. new) i j c n) ∙ e, set_stays part i j n))

pub put_origins : (part : ℕ) (new : Tree) (c : Cell) → OriginsOf (λ c. Filled new) part (past_put part) (IsAt new 0) c
put_origins part new c zero x e = inr ((let f : new ≡ x = cc in sym f), refl)
put_origins part new c (suc j) x e = absurd cc

pub token_origins : (part : ℕ) (v : _) (c : Cell) → OriginsOf (λ c. Holds v) part (λ (s : Way). Some s) IsNone c
token_origins part v c j x e = absurd cc

-- where children are found again
pub drop_fits : (place s u : Way) (c : Cell) → ((t : Tree) → c ≡ One t → ⊥) → s.0 ≡ place.0 → DropWay place s u → slice_get (children (without_child place.1 c)) u.1 ≡ slice_get (children c) s.1
drop_fits place s u (One t) n same w = absurd (n t refl)
drop_fits place s u (Many ts) n same (way.behind a less b next) =
    let is : s.1 ≡ suc u.1 = omega arith in
    ap (λ xs. slice_get xs u.1) (from_to_trees (remove (from_trees ts) place.1)) ∙ removed-behind (from_trees ts) place.1 u.1 (omega arith) ∙ ap (slice_get (from_trees ts)) (sym is)
drop_fits place s u (Many ts) n same (way.stays is less) =
    let at' : u.1 ≡ s.1 = ap (λ (w : Way). w.1) is in
    ap (λ xs. slice_get xs u.1) (from_to_trees (remove (from_trees ts) place.1)) ∙ ap (slice_get (remove (from_trees ts) place.1)) at' ∙ removed-before (from_trees ts) place.1 s.1 (less same)
drop_fits place s u Empty n same w = refl
drop_fits place s u (Filled t) n same w = at_place place.1 refl w
  where
    unfilled : (j : ℕ) → 0 < j → slice_get (t ∷ []) j ≡ None
    unfilled zero h = absurd (omega arith)
    unfilled (suc j) h = refl

    at_place : (i : ℕ) → place.1 ≡ i → DropWay place s u → slice_get (children (without_child i (Filled t))) u.1 ≡ slice_get (t ∷ []) s.1
    at_place zero f (way.behind a less b next) = sym (unfilled s.1 (omega arith))
    at_place zero f (way.stays is less) = let g : s.1 < place.1 = less same in absurd (omega arith)
    at_place (suc i) f (way.behind a less b next) = unfilled u.1 (omega arith) ∙ sym (unfilled s.1 (omega arith))
    at_place (suc i) f (way.stays is less) = ap (slice_get (t ∷ [])) (ap (λ (w : Way). w.1) is)
drop_fits place s u (Holds v) n same w = refl

-- the cell of the tree of classes tells the shape of the cell of numbers
many_there : (f : ℕ → ℕ) (c : Cell) (us : Trees) → relabel_cell f c ≡ Many us → (ts : Trees) × (c ≡ Many ts) × (length (from_trees us) ≡ length (from_trees ts))
many_there f (Many ts) us e = (ts, refl, (let g : from_trees (relabel_cell_list ts) ≡ from_trees us = cc in ap length (sym g)) ∙ same_length ts)
  where
    relabel_cell_list : Trees → Trees
    relabel_cell_list ts = elim (relabel_cell f (Many ts)) [ One t ↦ ts | Many us ↦ us | Empty ↦ ts | Filled t ↦ ts | Holds v ↦ ts ]

    length_map : (xs : List Tree) → length (map (relabel f) xs) ≡ length xs
    length_map [] = refl
    length_map (x ∷ xs) = ap suc (length_map xs)

    same_length : (ts : Trees) → length (from_trees (relabel_cell_list ts)) ≡ length (from_trees ts)
    same_length ts = ap length (relabelled-trees f ts) ∙ length_map (from_trees ts)
many_there f (One t) us e = absurd cc
many_there f Empty us e = absurd cc
many_there f (Filled t) us e = absurd cc
many_there f (Holds v) us e = absurd cc

no_children : (f : ℕ → ℕ) (c : Cell) → children (relabel_cell f c) ≡ [] → children c ≡ []
no_children f (One t) e = absurd cc
no_children f (Many trees.no_trees) e = refl
no_children f (Many (trees.tree t ts)) e = absurd cc
no_children f Empty e = refl
no_children f (Filled t) e = absurd cc
no_children f (Holds v) e = refl

module _ (classes : Classes) (f : ℕ → ℕ) (s : Tree) (ok : conforms classes (relabel f s) 0 ≡ true) (apart : IsApart s) where
  pub there : (n : Node) (u : Tree) → tree_at s n ≡ Some u → tree_at (relabel f s) n ≡ Some (relabel f u)
  there n u is = relabelled-tree_at f s n ∙ ap (option_map (relabel f)) is

  cell_of : (u : Tree) (part : ℕ) (c : Cell) → cell_at u part ≡ Some c → cell_at (relabel f u) part ≡ Some (relabel_cell f c)
  cell_of u part c is = relabelled-cell_at f u part ∙ ap (option_map (relabel_cell f)) is

  -- after an edit numbers are apart, and each stands where its node is carried
  pub record IsAfter (e : Edit) : Type 0 where
    pub apart_then : IsApart (left_by s e)
    pub goes : (k : ℕ) → path_in_new k e ≡ None → path_in k (left_by s e) ≡ option_and_then (carried e) (path_in k s)

  pub insert_cell : (node : Node) (part index : ℕ) (new : Tree) → has_component classes (relabel f s)
      (Insert node part index new) ≡ true → is_in_range (relabel f s) (Insert node part index new) ≡ true →
      (u : Tree) (c : Cell) → tree_at s node ≡ Some u → cell_at u part ≡ Some c → (ts : Trees) × (c ≡ Many ts) × (index ≤ length (from_trees ts))
  insert_cell node part index new has range u c is here =
      let (shape, some, conf) = component_there classes (relabel f s) ok list_class node part (relabel f u) (relabel_cell f c) has (there node u is) (cell_of u part c here) in
      let (us, many) = list_cell classes (relabel_cell f c) shape some conf in
      let (ts, is', same) = many_there f c us many in
      let count : length (children_of (relabel f s) node part) ≡ length (from_trees us) = ap length (counted classes
      (relabel f s) ok node part (relabel f u) us (there node u is) (cell_of u part c here ∙ ap Some many)) in
      let bound : index ≤ length (children_of (relabel f s) node part) = grind (arith, nat_tests) in
      (ts, is', omega arith)

  pub insert_after : (node : Node) (part index : ℕ) (new : Tree) → has_component classes (relabel f s)
      (Insert node part index new) ≡ true → is_in_range (relabel f s) (Insert node part index new) ≡ true
      → IsFreshTree s new → IsAfter (Insert node part index new)
  insert_after node part index new has range fresh =
      let cells = insert_cell node part index new has range in
      let g = with_one_more new index in
      let past = past_insert (part, index) in
      let keeps = insert_keeps (part, index) in
      let fits : FitsAt g part past s node = λ u c is here r w same e. (let (ts, many, bound) = cells u c is here in
      subst (λ (x : Cell). slice_get (children (with_one_more new index x)) w.1 ≡ slice_get (children x) r.1)
      (sym many) (inserted-fits ts (part, index) r w new bound same (insert_way (part, index) r w e))) in
      let origins : OriginsAt g part past (IsAt new index) s node = λ u c is here.
      (let (ts, many, bound) = cells u c is here in subst (λ (x : Cell). OriginsOf g part past (IsAt new index) x)
      (sym many) (insert_origins part index new ts bound)) in
      let news = one_new g part index past keeps s new apart fresh in
      record {
        apart_then = apart_after g part past (IsAt new index) keeps s node apart fits origins news;
        goes = λ k none. number_after g part past (IsAt new index) keeps s node apart fits origins news k (λ x j h. ap (path_in k) h.0 ∙ none);
      }

  not_one : (p : Node × Way) → is_some (option_and_then plain_class (shape_at classes (relabel f s) p.0 p.1.0)) ≡ false
      → (u : Tree) (c : Cell) → tree_at s p.0 ≡ Some u → cell_at u p.1.0 ≡ Some c → (t : Tree) → c ≡ One t → ⊥
  not_one p plain u c is here t one =
      let (shape, sees, conf) = shape_there classes (relabel f s) p.0 p.1.0 (relabel f u) (relabel_cell f c) ok (there p.0 u is) (cell_of u p.1.0 c here) in
      plain_cell classes (relabel f t) shape (selected plain_class (shape_at classes (relabel f s) p.0 p.1.0) false
      shape sees plain) (subst (λ (x : Cell). cell_conforms classes (relabel_cell f x) shape ≡ true) one conf)

  -- after the change of a cell
  abbrev pub Goes : (Node → Option Node) → Tree → (ℕ → Option Node) → Type 0
  Goes carry t new = IsApart t × ((k : ℕ) → new k ≡ None → path_in k t ≡ option_and_then carry (path_in k s))

  pub drop_goes : (p : Node × Way)
      → is_some (option_and_then plain_class (shape_at classes (relabel f s) p.0 p.1.0)) ≡ false
      → Goes (moved_under p.0 (past_drop p.1)) (with_node (with_cell (without_child p.1.1) p.1.0) s p.0) (λ k. None)
  drop_goes p plain =
      let g = without_child p.1.1 in
      let keeps = drop_keeps p.1 in
      let fits : FitsAt g p.1.0 (past_drop p.1) s p.0 = λ u c is here r w same e. drop_fits p.1 r w c (not_one p plain u c is here) same (drop_way p.1 r w e) in
      let origins : OriginsAt g p.1.0 (past_drop p.1) IsNone s p.0 = λ u c is here. drop_origins p.1.0 p.1.1 c (not_one p plain u c is here) in
      let news = none_new g p.1.0 (past_drop p.1) keeps s in
      (apart_after g p.1.0 (past_drop p.1) IsNone keeps s p.0 apart fits origins news, λ k none. number_after g p.1.0 (past_drop p.1) IsNone keeps s p.0 apart fits origins news k (λ x j h. absurd h))

  pub drop_after : (node : Node) (o : Option (Node × Way)) → elim o [ None ↦ true | Some p ↦ is_some (option_and_then plain_class (shape_at classes (relabel f s) p.0 p.1.0)) ] ≡ false →
      Goes (λ n. elim o [ None ↦ None | Some p ↦ moved_under p.0 (past_drop p.1) n ]) (elim o [ None ↦ s | Some p ↦ with_node (with_cell (without_child p.1.1) p.1.0) s p.0 ]) (λ k. None)
  drop_after node None plain = absurd cc
  drop_after node (Some p) plain = drop_goes p plain

  set_fits : (new : Tree) (p : Node × Way) → FitsAt (with_child (λ u. new) p.1.1) p.1.0 (past_set p.1) s p.0
  set_fits new p u c is here r w same e =
      let (stays, other) = set_way p.1 r w e in
      let differs : p.1.1 ≡ r.1 → ⊥ = λ h. let g : nat_eq p.1.0 r.0 ≡ true = grind (arith, nat_tests) in
      let k : nat_eq p.1.1 r.1 ≡ true = grind (arith, nat_tests) in
      let m : true ≡ false = sym (ap (λ b. b && nat_eq p.1.1 r.1) g ∙ k) ∙ other in cc in
      ap (λ (x : Way). slice_get (children (with_child (λ u. new) p.1.1 c)) x.1) (sym stays) ∙ child-other (λ u. new) p.1.1 r.1 c differs

  set_goes : (new : Tree) (p : Node × Way) → IsFreshTree s new → Goes (moved_under p.0 (past_set p.1)) (with_node (with_cell (with_child (λ u. new) p.1.1) p.1.0) s p.0) (λ k. path_in k new)
  set_goes new p fresh =
      let g = with_child (λ u. new) p.1.1 in
      let keeps = set_keeps p.1 in
      let origins : OriginsAt g p.1.0 (past_set p.1) (IsAt new p.1.1) s p.0 = λ u c is here. set_origins p.1.0 p.1.1 new c in
      let news = one_new g p.1.0 p.1.1 (past_set p.1) keeps s new apart fresh in (
        apart_after g p.1.0 (past_set p.1) (IsAt new p.1.1) keeps s p.0 apart (set_fits new p) origins news,
        λ k none. number_after g p.1.0 (past_set p.1) (IsAt new p.1.1) keeps s p.0 apart (set_fits new p) origins news
            k (λ x j h. ap (path_in k) h.0 ∙ none),
      )

  pub set_after : (node : Node) (new : Tree) (o : Option (Node × Way)) → parent_of node ≡ o → IsFreshTree s new →
      Goes (λ n. elim o [ None ↦ None | Some p ↦ moved_under p.0 (past_set p.1) n ]) (with_node (λ u. new) s node) (λ k. path_in k new)
  set_after node new None is fresh =
      let e : new ≡ with_node (λ u. new) s node = ap (with_node (λ u. new) s) (sym (root_alone node is)) in
      subst (λ x. Goes (λ n. None) x (λ k. path_in k new)) e (fresh.0, λ k none. none ∙ sym (nowhere (path_in k s)))
    where
      nowhere : (o : Option Node) → option_and_then (λ (n : Node). let x : Option Node = None in x) o ≡ None
      nowhere None = refl
      nowhere (Some n) = refl
  set_after node new (Some p) is fresh = subst (λ x. Goes (moved_under p.0 (past_set p.1)) x (λ k. path_in k new)) (sym (set_in_parent classes new node p is s)) (set_goes new p fresh)

  pub put_after : (node : Node) (part : ℕ) (new : Tree) → IsFreshTree s new → Goes (moved_under node (past_put part)) (with_node (with_cell (λ c. Filled new) part) s node) (λ k. path_in k new)
  put_after node part new fresh =
      let g : Cell → Cell = λ c. Filled new in
      let keeps = put_keeps part in
      let fits : FitsAt g part (past_put part) s node = λ u c is here r w same e. (let h : nat_eq part r.0 ≡ true =
      grind (arith, nat_tests) in let m : true ≡ false = sym h ∙ (put_way part r w e).1 in absurd cc) in
      let origins : OriginsAt g part (past_put part) (IsAt new 0) s node = λ u c is here. put_origins part new c in
      let news = one_new g part 0 (past_put part) keeps s new apart fresh in (
        apart_after g part (past_put part) (IsAt new 0) keeps s node apart fits origins news,
        λ k none. number_after g
            part (past_put part) (IsAt new 0) keeps s node apart fits origins news k (λ x j h. ap (path_in k) h.0 ∙ none),
      )

  pub token_after : (node : Node) (part : ℕ) (v : trees.Token)
      → has_component classes (relabel f s) (Token node part v) ≡ true
      → Goes (moved_under node (λ (w : Way). Some w)) (with_node (with_cell (λ c. Holds v) part) s node) (λ k. None)
  token_after node part v has =
      let g : Cell → Cell = λ c. Holds v in
      let past : Way → Option Way = λ w. Some w in
      let keeps = nothing_keeps part in
      let fits : FitsAt g part past s node = λ u c is here r w same e. (
      let (shape, some, conf) = component_there classes (relabel f s) ok token_kind node part (relabel f u) (relabel_cell f c) has (there node u is) (cell_of u part c here) in
      sym (ap (λ (xs : List Tree). slice_get xs r.1) (no_children f c (token_cell classes (relabel_cell f c) shape some conf)))) in
      let origins : OriginsAt g part past IsNone s node = λ u c is here. token_origins part v c in
      let news = none_new g part past keeps s in
      (apart_after g part past IsNone keeps s node apart fits origins news, λ k none. number_after g part past IsNone keeps s node apart fits origins news k (λ x j h. absurd h))
