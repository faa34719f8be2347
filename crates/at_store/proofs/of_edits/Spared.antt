-- What isn't named by the places of an edit isn't touched.
use Rattle.std.proofs.Common.{◌≡◌, ℕ, zero, suc, Bool, true, false, not, ◌&&◌, ◌||◌, nat_eq, List, [], ◌∷◌, Option, Some, None, Contains, get_or, refl, sym, ap, ◌∙◌, subst, eqb-true, option_map}
use Rattle.std.specs.Prelude.{map}
use Rattle.std.specs.List.{list_any, slice_get}
use Rattle.std.proofs.lemmas.Bool.{eq-eqb}
use Rattle.std.proofs.lemmas.List.Folds.{list_any_at}
use Rattle.std.proofs.lemmas.Option.{slice_get-map}
use Rattle.at_model.specs.Bodies.{bool_eq}
use Rattle.at_model.specs.Drawers.{Key}
use Rattle.at_model.specs.Paths.{Node, cell_at, children_at, parent_of, tree_at}
use Rattle.at_model.specs.Run.{Idx, Is, Location, Slot, Tok, Up, Drawer}
use Rattle.at_model.specs.Touches.{node_of}
use Rattle.at_model.specs.Trees.{Tree, cells_of, class_of, from_cells}
use Rattle.at_model.proofs.of_edits.Surviving.{parent_is}
use Rattle.at_store.specs.Marked.{told}
use Rattle.at_store.specs.Memory.{Info, Place, Stored, kids_in, numbers_in, place_at, top, up_in}
use Rattle.at_store.specs.Numbers.{path_in}
use Rattle.at_store.specs.Places.{IsChild, NamesAround, NamesComponent, NamesParent, is_drawer_at, is_index_among, is_node, names_around}
use Rattle.at_store.specs.Shifting.{is_drawer_in, is_drawer_of, stands, touched_by}
use Rattle.at_store.specs.Touching.{Change, at_parent, is_index_of, is_slot_of, is_token_of, is_up_of}
use Rattle.at_store.specs.Touching as change
use Rattle.at_store.specs.declared.places.Changing.{Changing}
use Rattle.at_store.proofs.Found.{number_found}
use Rattle.at_store.proofs.Looked.{kept_at, same_kids}
use Rattle.at_store.proofs.of_edits.Removed.{place_below}
use Rattle.at_store.proofs.Sizes.{above_there}
use Rattle.at_store.proofs.of_edits.TouchesTold.{up_stored}

pub neither : (a b : Bool) → (a || b) ≡ false → (a ≡ false) × (b ≡ false)
neither true b h = absurd cc
neither false b h = (refl, h)

pub both_false : (a b : Bool) → a ≡ false → b ≡ false → (a || b) ≡ false
both_false a b h k = ap (λ c. c || b) h ∙ k

pub slot_spared : (a part : ℕ) (l : Location ℕ) → nat_eq a (node_of l) ≡ false → is_slot_of nat_eq a part l ≡ false
slot_spared a part (Is n) h = refl
slot_spared a part (Tok n p) h = refl
slot_spared a part (Slot n p) h = ap (λ b. b && nat_eq part p) h
slot_spared a part (Up n) h = refl
slot_spared a part (Idx n) h = refl
slot_spared a part (Drawer n p key mark) h = refl

pub token_spared : (a part : ℕ) (l : Location ℕ) → nat_eq a (node_of l) ≡ false → is_token_of nat_eq a part l ≡ false
token_spared a part (Is n) h = refl
token_spared a part (Tok n p) h = ap (λ b. b && nat_eq part p) h
token_spared a part (Slot n p) h = refl
token_spared a part (Up n) h = refl
token_spared a part (Idx n) h = refl
token_spared a part (Drawer n p key mark) h = refl

pub up_spared : (a : ℕ) (l : Location ℕ) → is_node (Some a) (node_of l) ≡ false → is_up_of nat_eq a l ≡ false
up_spared a (Is n) h = refl
up_spared a (Tok n p) h = refl
up_spared a (Slot n p) h = refl
up_spared a (Up n) h = h
up_spared a (Idx n) h = refl
up_spared a (Drawer n p key mark) h = refl

pub drawer_spared : (a part : ℕ) (test : Key → ℕ → Bool) (l : Location ℕ) → nat_eq a (node_of l) ≡ false → is_drawer_of nat_eq a part test l ≡ false
drawer_spared a part test (Is n) h = refl
drawer_spared a part test (Tok n p) h = refl
drawer_spared a part test (Slot n p) h = refl
drawer_spared a part test (Up n) h = refl
drawer_spared a part test (Idx n) h = refl
drawer_spared a part test (Drawer n p key mark) h = ap (λ b. b && nat_eq part p && test key mark) h

-- a drawer of a node alone that isn't named
keyed_spared : (a part : ℕ) (test : Key → ℕ → Bool) (l : Location ℕ) → is_drawer_at (Some a) l ≡ false → is_drawer_of nat_eq a part test l ≡ false
keyed_spared a part test (Is n) h = refl
keyed_spared a part test (Tok n p) h = refl
keyed_spared a part test (Slot n p) h = refl
keyed_spared a part test (Up n) h = refl
keyed_spared a part test (Idx n) h = refl
keyed_spared a part test (Drawer n p key mark) h = ap (λ b. b && nat_eq part p && test key mark) h

above_spared : (o : Option (ℕ × ℕ)) (test : Key → ℕ → Bool) (l : Location ℕ) → is_drawer_at (option_map (λ p. p.0) o) l ≡ false → is_drawer_in nat_eq test l o ≡ false
above_spared None test l h = refl
above_spared (Some p) test l h = keyed_spared p.0 p.1 test l h

-- a node that isn't among the children of a component doesn't stand there
apart_from : (memory : ℕ → Option Info) (a part n : ℕ) → IsChild memory n
    → list_any (nat_eq n) (kids_in (memory a) part) ≡ false → (o : Option (ℕ × ℕ)) → up_in (memory n) ≡ o
    → at_parent (λ p. nat_eq a p.0 && nat_eq part p.1) o ≡ false
apart_from memory a part n child none None e = refl
apart_from memory a part n child none (Some (b, other)) e = by_tests (nat_eq a b) refl (nat_eq part other) refl
  where
    by_tests : (x : Bool) → nat_eq a b ≡ x → (y : Bool) → nat_eq part other ≡ y → (x && y) ≡ false
    by_tests false f y g = refl
    by_tests true f false g = refl
    by_tests true f true g =
        let there : list_any (nat_eq n) (kids_in (memory a) part) ≡ true = subst (λ q. list_any (nat_eq n) (kids_in (memory a) q) ≡ true) (sym (eqb-true part other g))
        (subst (λ c. list_any (nat_eq n) (kids_in (memory c) other) ≡ true) (sym (eqb-true a b f)) (child b other e)) in
        let off : true ≡ false = sym there ∙ none in absurd cc

pub index_spared : (memory : ℕ → Option Info) (a part : ℕ) (l : Location ℕ) → IsChild memory (node_of l)
    → is_index_among (kids_in (memory a) part) l ≡ false → is_index_of nat_eq (told memory) a part l ≡ false
index_spared memory a part (Is n) child h = refl
index_spared memory a part (Tok n p) child h = refl
index_spared memory a part (Slot n p) child h = refl
index_spared memory a part (Up n) child h = refl
index_spared memory a part (Drawer n p key mark) child h = refl
index_spared memory a part (Idx n) child h = apart_from memory a part n child h (up_in (memory n)) refl

-- a component, with the children there
pub component_named : (memory : ℕ → Option Info) (node part : ℕ) (c : Changing) → c.node ≡ node → c.children.now ≡ kids_in (memory node) part → NamesComponent memory node part c
component_named memory node part c at' kids l child h =
    let (apart, none) = neither (nat_eq c.node (node_of l)) (is_index_among c.children.now l) h in
    let off : nat_eq node (node_of l) ≡ false = ap (λ a. nat_eq a (node_of l)) (sym at') ∙ apart in
    (slot_spared node part l off, index_spared memory node part l child (ap (λ ns. is_index_among ns l) (sym kids) ∙ none), λ test. drawer_spared node part test l off)

-- the component around a node
pub around_named : (memory : ℕ → Option Info) (node : ℕ) (place : ℕ × ℕ) (c : Changing) → up_in (memory node) ≡ Some place → NamesComponent memory place.0 place.1 c → NamesAround memory node (Some c)
around_named memory node place c up names l child h =
    let spared = names l child h in (
      ap (at_parent (λ p. is_slot_of nat_eq p.0 p.1 l)) up ∙ spared.0,
      ap (at_parent (λ p. is_index_of nat_eq (told memory) p.0 p.1 l)) up ∙ spared.1,
      λ test. ap (is_drawer_in nat_eq test l) up ∙ spared.2 test,
    )

pub nothing_around : (memory : ℕ → Option Info) (node : ℕ) → up_in (memory node) ≡ None → NamesAround memory node None
nothing_around memory node up l child h = (
  ap (at_parent (λ p. is_slot_of nat_eq p.0 p.1 l)) up,
  ap (at_parent (λ p. is_index_of nat_eq (told memory) p.0 p.1 l)) up,
  λ test. ap (is_drawer_in nat_eq test l) up,
)

pub parent_named : (memory : ℕ → Option Info) (node : ℕ) (place : ℕ × ℕ) (c : Changing) → up_in (memory node) ≡ Some place → c.node ≡ place.0 → NamesParent memory node (Some c)
parent_named memory node place c up at' l h =
    let apart = neither (nat_eq c.node (node_of l)) (is_index_among c.children.now l) h in
    let off : nat_eq place.0 (node_of l) ≡ false = ap (λ a. nat_eq a (node_of l)) (sym at') ∙ apart.0 in (
      ap (at_parent (λ p. is_slot_of nat_eq p.0 p.1 l)) up ∙ slot_spared place.0 place.1 l off,
      λ test. ap (is_drawer_in nat_eq test l) up ∙ drawer_spared place.0 place.1 test l off,
    )

pub no_parent_named : (memory : ℕ → Option Info) (node : ℕ) → up_in (memory node) ≡ None → NamesParent memory node None
no_parent_named memory node up l h = (ap (at_parent (λ p. is_slot_of nat_eq p.0 p.1 l)) up, λ test. ap (is_drawer_in nat_eq test l) up)

-- what isn't listed doesn't leave
pub stays : (leaves : ℕ → Bool) (nodes : List ℕ) → ((k : ℕ) → leaves k ≡ true → list_any (nat_eq k) nodes ≡ true) → (k : ℕ) → list_any (nat_eq k) nodes ≡ false → leaves k ≡ false
stays leaves nodes listed k none = by_test (leaves k) refl
  where
    by_test : (b : Bool) → leaves k ≡ b → leaves k ≡ false
    by_test true e = let off : true ≡ false = sym (listed k e) ∙ none in absurd cc
    by_test false e = e

found_in : (k : ℕ) (xs : List ℕ) (i : ℕ) → slice_get xs i ≡ Some k → list_any (nat_eq k) xs ≡ true
found_in k [] i e = absurd cc
found_in k (x ∷ xs) zero e = let same : x ≡ k = cc in ap (λ b. b || list_any (nat_eq k) xs) (eq-eqb k x (sym same))
found_in k (x ∷ xs) (suc i) e = ap (λ b. nat_eq k x || b) (found_in k xs i e) ∙ or_true (nat_eq k x)
  where
    or_true : (b : Bool) → (b || true) ≡ true
    or_true true = refl
    or_true false = refl

not_there : (p : ℕ × ℕ) → None ≡ Some p → ⊥
not_there p e = cc

-- a node of a tree that is stored is a child
pub child_there : (memory : ℕ → Option Info) (s : Tree) → Stored memory top s → (k : ℕ) (n : Node) → path_in k s ≡ Some n → IsChild memory k
child_there memory s stored k n p a part up = by_parent (parent_of n) refl
  where
    standing : (place_at top s n).0 ≡ Some (a, part)
    standing = sym (up_stored memory s stored k n p) ∙ up

    by_parent : (o : Option (Node × (ℕ × ℕ))) → parent_of n ≡ o → list_any (nat_eq k) (kids_in (memory a) part) ≡ true
    by_parent None e =
        absurd (not_there (a, part)
        (sym (ap (λ (o : Option (Node × (ℕ × ℕ))). (elim o as (λ _. Place) [
          | None ↦ top
          | Some q ↦ (
            Some
                ((elim (tree_at s q.0) as (λ _. ℕ) [ None ↦ 0 | Some v ↦ class_of v ]), q.1.0),
            q.1.1,
          )
        ]).0) e) ∙ standing))
    by_parent (Some (q, way)) e =
        let (u, is, number) = number_found s k n p in
        let (v, there, child) = above_there s q way u (sym (ap (tree_at s) (parent_is n (q, way) e)) ∙ is) in
        let same : Some (class_of v, way.0) ≡ Some (a, part) = sym (ap (λ x. x.0) (place_below s v n q way e there)) ∙ standing in
        let pair : (class_of v, way.0) ≡ (a, part) = cc in
        let kids : kids_in (memory (class_of v)) way.0 ≡ map class_of (children_at v way.0) =
        ap (λ o. kids_in o way.0) (stored q v there).is ∙ ap numbers_in (kept_at (from_cells (cells_of v)) way.0)
        ∙ same_kids (cell_at v way.0) in
        let at' : slice_get (kids_in (memory (class_of v)) way.0) way.1 ≡ Some k = ap (λ ns. slice_get ns way.1) kids
        ∙ slice_get-map class_of (children_at v way.0) way.1 ∙ ap (option_map class_of) child ∙ ap Some number in
        subst (λ (x : ℕ × ℕ). list_any (nat_eq k) (kids_in (memory x.0) x.1) ≡ true) pair (found_in k (kids_in (memory (class_of v)) way.0) way.1 at')

-- a listed number is found
pub listed_in : (nodes : List ℕ) (k : ℕ) → Contains nodes k → list_any (nat_eq k) nodes ≡ true
listed_in nodes k (i, less, is) = list_any_at (nat_eq k) nodes i k less (eq-eqb k (get_or nodes i k) (sym is))

-- of a location that isn't named nothing is touched, edit by edit
module _ (memory : ℕ → Option Info) (leaves : ℕ → Bool) (nodes : List ℕ) (listed : (k : ℕ) → leaves k ≡ true → list_any (nat_eq k) nodes ≡ true)
    (brings : Key → ℕ → Bool) (l : Location ℕ) where
  abbrev Touches : Change ℕ → Bool
  Touches c = touched_by nat_eq (told memory) leaves brings c l

  abbrev named_by : (a b c d : Bool) → Bool
  named_by a b c d = list_any (nat_eq (node_of l)) nodes || a || b || c || d

  apart : (a b c d : Bool) → named_by a b c d ≡ false → (leaves (node_of l) ≡ false) × (a ≡ false) × (b ≡ false) × (c ≡ false) × (d ≡ false)
  apart a b c d h =
      let (most, fourth) = neither (list_any (nat_eq (node_of l)) nodes || a || b || c) d h in
      let (front, third) = neither (list_any (nat_eq (node_of l)) nodes || a || b) c most in
      let (first, second) = neither (list_any (nat_eq (node_of l)) nodes || a) b front in
      let (out, one) = neither (list_any (nat_eq (node_of l)) nodes) a first in
      (stays leaves nodes listed (node_of l) out, one, second, third, fourth)

  at_node : (node : ℕ) (c : Changing) → c.node ≡ node → names_around (Some c) l ≡ false → nat_eq node (node_of l) ≡ false
  at_node node c at' h = ap (λ a. nat_eq a (node_of l)) (sym at') ∙ (neither (nat_eq c.node (node_of l)) (is_index_among c.children.now l) h).0

  pub set_spared : (node : ℕ) (source : Option Changing) → NamesParent memory node source → named_by false false (names_around source l) (is_drawer_at None l) ≡ false
      → Touches (change.Set node) ≡ false
  set_spared node source names h =
      let parts = apart false false (names_around source l) (is_drawer_at None l) h in
      let spared = names l parts.3 in
      both_false _ _ (both_false _ _ parts.0 spared.0) (both_false _ _ (spared.1 (stands (told memory) node)) (spared.1 brings))

  pub put_spared : (node part : ℕ) (c : Changing) → c.node ≡ node → named_by false (names_around (Some c) l) false (is_drawer_at None l) ≡ false
      → Touches (change.Put node part) ≡ false
  put_spared node part c at' h =
      let parts = apart false (names_around (Some c) l) false (is_drawer_at None l) h in
      let off = at_node node c at' parts.2 in
      both_false _ _ (slot_spared node part l off) (drawer_spared node part brings l off)

  pub token_spared_by : (node part : ℕ) (c : Changing) (keyed : Option ℕ) → c.node ≡ node → keyed ≡ option_map (λ p. p.0) (up_in (memory node))
      → named_by false (names_around (Some c) l) false (is_drawer_at keyed l) ≡ false → Touches (change.Token node part) ≡ false
  token_spared_by node part c keyed at' above h =
      let parts = apart false (names_around (Some c) l) false (is_drawer_at keyed l) h in
      let off : is_drawer_at (option_map (λ p. p.0) (up_in (memory node))) l ≡ false = ap (λ o. is_drawer_at o l) (sym above) ∙ parts.4 in
      both_false _ _ (token_spared node part l (at_node node c at' parts.2))
      (λ i. not (bool_eq (above_spared (up_in (memory node)) (stands (told memory) node) l off i) (above_spared (up_in (memory node)) brings l off i)))

  pub drop_spared : (node : ℕ) (source : Option Changing) → NamesAround memory node source → IsChild memory (node_of l)
      → named_by false false (names_around source l) (is_drawer_at None l) ≡ false → Touches (change.Drop node) ≡ false
  drop_spared node source names child h =
      let parts = apart false false (names_around source l) (is_drawer_at None l) h in
      let (slot, index, drawers) = names l child parts.3 in
      both_false _ _ (both_false _ _ (both_false _ _ parts.0 slot) index) (drawers (stands (told memory) node))

  pub insert_spared : (node part : ℕ) (c : Changing) → NamesComponent memory node part c → IsChild memory (node_of l)
      → named_by false (names_around (Some c) l) false (is_drawer_at None l) ≡ false → Touches (change.Insert node part) ≡ false
  insert_spared node part c names child h =
      let parts = apart false (names_around (Some c) l) false (is_drawer_at None l) h in
      let (slot, index, drawers) = names l child parts.2 in
      both_false _ _ (both_false _ _ slot index) (drawers brings)

  pub move_spared : (node to part : ℕ) (c : Changing) (source : Option Changing) → NamesComponent memory to part c → NamesAround memory node source → IsChild memory (node_of l)
      → named_by (is_node (Some node) (node_of l)) (names_around (Some c) l) (names_around source l) (is_drawer_at None l) ≡ false → Touches (change.Move node to part) ≡ false
  move_spared node to part c source names around child h =
      let parts = apart (is_node (Some node) (node_of l)) (names_around (Some c) l) (names_around source l) (is_drawer_at None l) h in
      let (there, there_index, there_drawers) = names l child parts.2 in
      let (here, here_index, here_drawers) = around l child parts.3 in
      both_false _ _ (both_false _ _ (both_false _ _ (both_false _ _ (both_false _ _ (up_spared node l parts.1) here) there) here_index) there_index)
      (both_false _ _ (here_drawers (stands (told memory) node)) (there_drawers (stands (told memory) node)))
