-- A tree is freed, or marked, child by child, in the order of its steps.
use Rattle.std.proofs.Common.{◌≡◌, ℕ, suc, ◌<◌, ◌≤◌, Bool, true, false, ◌&&◌, ◌||◌, nat_eq, nat_lt, cond, if◌then◌else◌, [], ◌∷◌, length, Option, Some, None, refl, sym, ap, ◌∙◌, subst, arith, option_and_then, option_map, is_some}
use Rattle.std.proofs.lemmas.Bool.{eqb-true}
use Rattle.std.proofs.lemmas.Option.{slice_get-map, slice_get_within}
use Rattle.std.specs.Prelude.{map}
use Rattle.std.specs.List.{slice_get}
use Rattle.std.proofs.lemmas.Bool.Decides.{nat_tests}
use Rattle.at_model.specs.Trees.{Tree, Cell, Node as branch, class_of, cells_of, from_cells}
use Rattle.at_model.specs.Paths.{Node, tree_at, cell_at, children_at, step_eq}
use Rattle.at_model.proofs.of_edits.Moving.{Way}
use Rattle.at_model.proofs.Nodes.{step_eq-sound}
use Rattle.at_model.proofs.Options.{led, mapped}
use Rattle.at_model.proofs.of_edits.Untouched.{in_cell as kids}
use Rattle.at_store.specs.Numbers.{path_in, in_cells, IsApart}
use Rattle.at_store.specs.Memory.{Info, Kept, kept_of, Place, Stored, numbers_in, cells_in, is_before, IsSpreadTo, IsFreedTo, IsFreed}
use Rattle.at_store.proofs.Found.{number_found, named, met}
use Rattle.at_store.proofs.of_planting.Composed.{child_stored}
use Rattle.at_store.proofs.Looked.{kept_at, same_kids}
use Rattle.at_store.proofs.Slots.{map_length}

or_true : (b : Bool) → true ≡ (b || true)
or_true true = refl
or_true false = refl

-- of a child the number stands below its step
below : (x y : Tree) (w : Way) (k : ℕ) (n : Node) → IsApart x → slice_get (children_at x w.0) w.1 ≡ Some y → path_in k y ≡ Some n → path_in k x ≡ Some (w ∷ n)
below x y w k n apart child e =
    let (v, is, number) = number_found y k n e in
    ap (λ j. path_in j x) (sym number) ∙ named x apart (w ∷ n) v (ap (option_and_then (λ z. tree_at z n)) child ∙ is)

-- one more child
pub one_more : (x y : Tree) (w : Way) → IsApart x → slice_get (children_at x w.0) w.1 ≡ Some y → (k : ℕ) → is_before (w.0, suc w.1) (path_in k x) ≡ (is_some (path_in k y) || is_before w (path_in k x))
one_more x y w apart child k = by_paths (path_in k x) (path_in k y) refl refl
  where
    other : (r : Way) (b : Bool) → step_eq r w ≡ b → b ≡ false → (nat_lt r.0 w.0 || (nat_eq r.0 w.0 && nat_lt r.1 (suc w.1))) ≡ (nat_lt r.0 w.0 || (nat_eq r.0 w.0 && nat_lt r.1 w.1))
    other r b e f = by_tests (nat_eq r.0 w.0) refl (nat_eq r.1 w.1) refl
      where
        by_tests : (a : Bool) → nat_eq r.0 w.0 ≡ a → (c : Bool) → nat_eq r.1 w.1 ≡ c → (nat_lt r.0 w.0 || (a && nat_lt r.1 (suc w.1))) ≡ (nat_lt r.0 w.0 || (a && nat_lt r.1 w.1))
        by_tests false g c h = refl
        by_tests true g true h = let m : true ≡ false = sym ((λ i. g i && h i)) ∙ e ∙ f in absurd cc
        by_tests true g false h = let m : nat_lt r.1 (suc w.1) ≡ nat_lt r.1 w.1 = grind (arith, nat_tests) in ap (λ b. nat_lt r.0 w.0 || b) m

    same : (r : Way) → r ≡ w → (nat_lt r.0 w.0 || (nat_eq r.0 w.0 && nat_lt r.1 (suc w.1))) ≡ true
    same r e =
        let a : r.0 ≡ w.0 = ap (λ (z : Way). z.0) e in
        let b : r.1 ≡ w.1 = ap (λ (z : Way). z.1) e in
        let f : nat_lt r.0 w.0 ≡ false = grind (arith, nat_tests) in
        let g : nat_eq r.0 w.0 ≡ true = grind (arith, nat_tests) in
        let h : nat_lt r.1 (suc w.1) ≡ true = grind (arith, nat_tests) in
        λ i. f i || (g i && h i)

    by_paths : (o q : Option Node) → path_in k x ≡ o → path_in k y ≡ q → is_before (w.0, suc w.1) o ≡ (is_some q || is_before w o)
    by_paths None None e f = refl
    by_paths None (Some n) e f = let g : None ≡ Some (w ∷ n) = sym e ∙ below x y w k n apart child f in absurd cc
    by_paths (Some []) q e f = or_true (is_some q)
    by_paths (Some (r ∷ m)) (Some n) e f =
        let g : Some (r ∷ m) ≡ Some (w ∷ n) = sym e ∙ below x y w k n apart child f in
        let h : r ≡ w = cc in
        same r h
    by_paths (Some (r ∷ m)) None e f = by_step (step_eq r w) refl
      where
        by_step : (b : Bool) → step_eq r w ≡ b → (nat_lt r.0 w.0 || (nat_eq r.0 w.0 && nat_lt r.1 (suc w.1))) ≡ (nat_lt r.0 w.0 || (nat_eq r.0 w.0 && nat_lt r.1 w.1))
        by_step false g = other r false g refl
        by_step true g =
            let way = step_eq-sound r w g in
            let (v, is, number) = number_found x k (r ∷ m) e in
            let is' = subst (λ (z : Way). tree_at x (z ∷ m) ≡ Some v) way is in
            let there : tree_at y m ≡ Some v = sym (ap (option_and_then (λ z. tree_at z m)) child) ∙ is' in
            let a : true ≡ false = sym (met k y m (v, there, number)) ∙ ap is_some f in absurd cc

-- the root alone
root_first : (x : Tree) (k : ℕ) → is_before (0, 0) (path_in k x) ≡ nat_eq k (class_of x)
root_first (branch n cells) k = by_root (nat_eq k n)
  where
    not_first : (o : Option (ℕ × (ℕ × Node))) → is_before (0, 0) (option_map (λ (x : ℕ × (ℕ × Node)). let y : Node = (x.0, x.1.0) ∷ x.1.1 in y) o) ≡ false
    not_first None = refl
    not_first (Some y) =
        let f : nat_lt y.0 0 ≡ false = grind (arith, nat_tests) in
        let g : nat_lt y.1.0 0 ≡ false = grind (arith, nat_tests) in
        by_tests (nat_eq y.0 0) f g
      where
        by_tests : (b : Bool) → nat_lt y.0 0 ≡ false → nat_lt y.1.0 0 ≡ false → (nat_lt y.0 0 || (b && nat_lt y.1.0 0)) ≡ false
        by_tests true f g = λ i. f i || g i
        by_tests false f g = λ i. f i || false

    by_root : (b : Bool) → is_before (0, 0) (if b then Some [] else option_map (λ x. (x.0, x.1.0) ∷ x.1.1) (in_cells k cells)) ≡ b
    by_root true = refl
    by_root false = not_first (in_cells k cells)

pub spread_root : {A : Type 0} (a : A) (before later : ℕ → A) (x : Tree) → ((k : ℕ) → later k ≡ cond (nat_eq k (class_of x)) a (before k)) → IsSpreadTo a before later x (0, 0)
spread_root a before later x h k = h k ∙ ap (λ b. cond b a (before k)) (sym (root_first x k))

-- one more child
pub spread_child : {A : Type 0} (a : A) (before later next : ℕ → A) (x y : Tree) (w : Way) → IsApart x → slice_get (children_at x w.0) w.1 ≡ Some y → IsSpreadTo a before later x w →
    ((k : ℕ) → next k ≡ cond (is_some (path_in k y)) a (later k)) → IsSpreadTo a before next x (w.0, suc w.1)
spread_child a before later next x y w apart child h more k =
    more k ∙ ap (cond (is_some (path_in k y)) a) (h k) ∙ twice a (is_some (path_in k y)) (is_before w (path_in k x)) (before k) ∙ ap (λ b. cond b a (before k)) (sym (one_more x y w apart child k))
  where
    twice : {A : Type 0} (a : A) (b c : Bool) (o : A) → cond b a (cond c a o) ≡ cond (b || c) a o
    twice a true c o = refl
    twice a false c o = refl

-- the end of a component
pub spread_cell : {A : Type 0} (a : A) (before later : ℕ → A) (x : Tree) (part : ℕ) → IsSpreadTo a before later x (part, length (children_at x part)) → IsSpreadTo a before later x (suc part, 0)
spread_cell a before later x part h k = h k ∙ ap (λ b. cond b a (before k)) (by_path (path_in k x) refl)
  where
    by_path : (o : Option Node) → path_in k x ≡ o → is_before (part, length (children_at x part)) o ≡ is_before (suc part, 0) o
    by_path None e = refl
    by_path (Some []) e = refl
    by_path (Some (r ∷ n)) e =
        let (v, is, number) = number_found x k (r ∷ n) e in
        let (y, child, below) = led (λ z. tree_at z n) (slice_get (children_at x r.0) r.1) v is in
        by_part (nat_eq r.0 part) refl (slice_get_within (children_at x r.0) r.1 y child)
      where
        by_part : (b : Bool) → nat_eq r.0 part ≡ b → r.1 < length (children_at x r.0)
            → (nat_lt r.0 part || (nat_eq r.0 part && nat_lt r.1 (length (children_at x part))))
            ≡ (nat_lt r.0 (suc part) || (nat_eq r.0 (suc part) && nat_lt r.1 0))
        by_part true same within =
            let e : r.0 ≡ part = eqb-true r.0 part same in
            let within' : r.1 < length (children_at x part) = subst (λ (q : ℕ). r.1 < length (children_at x q)) e within in
            let a : nat_lt r.0 part ≡ false = grind (arith, nat_tests) in
            let b : nat_lt r.1 (length (children_at x part)) ≡ true = lt_true r.1 (length (children_at x part)) within' in
            let d : nat_lt r.0 (suc part) ≡ true = grind (arith, nat_tests) in
            (λ i. a i || (same i && b i)) ∙ sym (λ i. d i || (nat_eq r.0 (suc part) && nat_lt r.1 0))
          where
            lt_true : (a b : ℕ) → a < b → nat_lt a b ≡ true
            lt_true a b h = grind (arith, nat_tests)
        by_part false other within =
            let a : nat_lt r.0 part ≡ nat_lt r.0 (suc part) = grind (arith, nat_tests) in
            let b : nat_lt r.1 0 ≡ false = grind (arith, nat_tests) in
            (λ i. a i || (other i && nat_lt r.1 (length (children_at x part))))
            ∙ sym (ap (λ z. nat_lt r.0 (suc part) || (nat_eq r.0 (suc part) && z)) b
            ∙ ap (λ z. nat_lt r.0 (suc part) || z) (and_off (nat_eq r.0 (suc part))))
          where
            and_off : (b : Bool) → (b && false) ≡ false
            and_off true = refl
            and_off false = refl

-- the end
pub spread_whole : {A : Type 0} (a : A) (before later : ℕ → A) (x : Tree) (part : ℕ) → length (from_cells (cells_of x))
    ≤ part → IsSpreadTo a before later x (part, 0) → (k : ℕ) → later k ≡ cond (is_some (path_in k x)) a (before k)
spread_whole a before later x part all h k = h k ∙ ap (λ b. cond b a (before k)) (by_path (path_in k x) refl)
  where
    by_path : (o : Option Node) → path_in k x ≡ o → is_before (part, 0) o ≡ is_some o
    by_path None e = refl
    by_path (Some []) e = refl
    by_path (Some (r ∷ n)) e =
        let (v, is, number) = number_found x k (r ∷ n) e in
        let (y, child, below) = led (λ z. tree_at z n) (slice_get (children_at x r.0) r.1) v is in
        let less : r.0 < length (from_cells (cells_of x)) = by_cell (cell_at x r.0) refl child in
        let f : nat_lt r.0 part ≡ true = less_true r.0 (length (from_cells (cells_of x))) part less all in
        λ i. f i || (nat_eq r.0 part && nat_lt r.1 0)
      where
        less_true : (a b c : ℕ) → a < b → b ≤ c → nat_lt a c ≡ true
        less_true a b c h k = grind (arith, nat_tests)

        by_cell : {y : Tree} (o : Option Cell) → cell_at x r.0 ≡ o → slice_get (kids o) r.1 ≡ Some y → r.0 < length (from_cells (cells_of x))
        by_cell None e child = absurd cc
        by_cell (Some c) e child = slice_get_within (from_cells (cells_of x)) r.0 c e

-- a child that is still to be freed is stored, and its numbers are apart
pub child_apart : (x y : Tree) (w : Way) → IsApart x → slice_get (children_at x w.0) w.1 ≡ Some y → IsApart y
child_apart x y w apart child n m u v is at' same =
    let e : w ∷ n ≡ w ∷ m = apart (w ∷ n) (w ∷ m) u v (ap (option_and_then (λ z. tree_at z n)) child ∙ is) (ap (option_and_then (λ z. tree_at z m)) child ∙ at') same in
    cc

pub child_left : (before later : ℕ → Option Info) (place : Place) (x y : Tree) (w : Way) → IsApart x
    → Stored before place x → slice_get (children_at x w.0) w.1 ≡ Some y → IsFreedTo before later x w
    → Stored later (Some (class_of x, w.0), w.1) y
child_left before later place x y w apart stored child h n v is =
    let k = child_stored before place x w y stored child n v is in
    let path : path_in (class_of v) x ≡ Some (w ∷ n) = named x apart (w ∷ n) v (ap (option_and_then (λ z. tree_at z n)) child ∙ is) in
    record { class = k.class; is = h (class_of v) ∙ ap (λ b. cond b None (before (class_of v))) (ap (is_before w) path ∙ itself) ∙ k.is }
  where
    itself : (nat_lt w.0 w.0 || (nat_eq w.0 w.0 && nat_lt w.1 w.1)) ≡ false
    itself =
        let a : nat_lt w.0 w.0 ≡ false = grind (arith, nat_tests) in
        let b : nat_eq w.0 w.0 ≡ true = grind (arith, nat_tests) in
        let c : nat_lt w.1 w.1 ≡ false = grind (arith, nat_tests) in
        λ i. a i || (b i && c i)

-- the numbers that are kept of a cell are those of the children
pub child_numbered : (x : Tree) (part i k : ℕ) → slice_get (numbers_in (slice_get (kept_of x) part)) i ≡ Some k → (y : Tree) × (slice_get (children_at x part) i ≡ Some y) × (class_of y ≡ k)
child_numbered x part i k e =
    mapped class_of (slice_get (children_at x part) i) k
    (sym (slice_get-map class_of (children_at x part) i) ∙ sym (ap (λ ns. slice_get ns i) (ap numbers_in (kept_at (from_cells (cells_of x)) part) ∙ same_kids (cell_at x part))) ∙ e)

-- the last child of a component
pub cell_done : {A : Type 0} (a : A) (before later : ℕ → A) (x : Tree) (part i : ℕ) (c : Kept)
    → slice_get (kept_of x) part ≡ Some c → length (numbers_in (Some c)) ≡ i → IsSpreadTo a before later x (part, i)
    → IsSpreadTo a before later x (suc part, 0)
cell_done a before later x part i c is len h =
    let same : numbers_in (Some c) ≡ map class_of (children_at x part) = ap numbers_in (sym is) ∙ ap numbers_in (kept_at (from_cells (cells_of x)) part) ∙ same_kids (cell_at x part) in
    let e : i ≡ length (children_at x part) = sym len ∙ ap length same ∙ map_length class_of (children_at x part) in
    spread_cell a before later x part (subst (λ (j : ℕ). IsSpreadTo a before later x (part, j)) e h)

-- one more child is freed
pub child_freed : (before later next : ℕ → Option Info) (place : Place) (x : Tree) (part i k : ℕ) (c : Kept) → IsApart x
    → Stored before place x → slice_get (kept_of x) part ≡ Some c → slice_get (numbers_in (Some c)) i ≡ Some k
    → IsFreedTo before later x (part, i) →
    IsFreed k later next → IsFreedTo before next x (part, suc i)
child_freed before later next place x part i k c apart stored is at' h free =
    let (y, child, number) = child_numbered x part i k (ap (λ o. slice_get (numbers_in o) i) is ∙ at') in
    spread_child None before later next x y (part, i) apart child h (free (Some (class_of x, part), i) y number
    (child_apart x y (part, i) apart child) (child_left before later place x y (part, i) apart stored child h))

-- what is kept of the root's cells
pub root_cells : (memory : ℕ → Option Info) (place : Place) (x : Tree) (i : Info) → Stored memory place x → memory (class_of x) ≡ Some i → kept_of x ≡ i.cells
root_cells memory place x i stored is = let e : Some _ ≡ Some i = sym (stored [] x refl).is ∙ is in ap cells_in e

-- no tree is stored at a number that is free
pub none_stored : (memory : ℕ → Option Info) (place : Place) (x : Tree) → Stored memory place x → memory (class_of x) ≡ None → ⊥
none_stored memory place x stored is = let e : Some _ ≡ None = sym (stored [] x refl).is ∙ is in absurd cc
