-- Where numbers stand.
use Rattle.std.proofs.Common.{◌≡◌, ℕ, zero, suc, Bool, true, false, nat_eq, if◌then◌else◌, List, [], ◌∷◌, Option, Some, None, ◌⊎◌, inl, inr, refl, sym, ap, ◌∙◌, subst, option_and_then, option_map, is_some}
use Rattle.std.specs.Option.{option_or}
use Rattle.std.specs.List.{slice_get}
use Rattle.std.proofs.lemmas.Bool.{eqb-true, eq-eqb}
use Rattle.at_model.specs.Trees.{Tree, Cells, Cell, Trees, Node as branch, no_cells, cell, One, Many, Empty, Filled, Holds, no_trees, tree, class_of, children, from_cells, from_trees}
use Rattle.at_model.specs.Paths.{Node, tree_at}
use Rattle.at_model.specs.Alike.{IsInjective}
use Rattle.at_model.proofs.Options.{mapped}
use Rattle.at_model.proofs.of_edits.Untouched.{in_cell as kids}
use Rattle.at_store.specs.Numbers.{path_in, in_cells, in_cell, in_trees, IsApart}

-- a tree of that number is there
abbrev pub Has : ℕ → Option Tree → Type 0
Has k o = (u : Tree) × (o ≡ Some u) × (class_of u ≡ k)

abbrev pub below : List Tree → ℕ → Node → Option Tree
below ts i n = option_and_then (λ v. tree_at v n) (slice_get ts i)

abbrev pub below_cells : Cells → ℕ → ℕ → Node → Option Tree
below_cells cs part i n = below (kids (slice_get (from_cells cs) part)) i n

either : {A : Type 0} (o p : Option A) (x : A) → option_or o p ≡ Some x → (o ≡ Some x) ⊎ (p ≡ Some x)
either None p x e = inr e
either (Some a) p x e = inl e

first_of : {A B : Type 0} (P : B → Type 0) (f : A → B) (o : Option A) (x : B) → option_map f o ≡ Some x → ((a : A) → o ≡ Some a → P (f a)) → P x
first_of P f o x e h = let (a, is, g) = mapped f o x e in subst P g (h a is)

mutual
  found : (k : ℕ) (t : Tree) (n : Node) → path_in k t ≡ Some n → Has k (tree_at t n)
  found k (branch c cells) n e = at_root (nat_eq k c) refl e (λ part i m h. found_cells k cells part i m h)
    where
      at_root : (b : Bool) → nat_eq k c ≡ b
          → (if b then Some [] else option_map (λ x. (x.0, x.1.0) ∷ x.1.1) (in_cells k cells)) ≡ Some n
          → ((part i : ℕ) (m : Node) → in_cells k cells ≡ Some (part, (i, m)) → Has k (below_cells cells part i m))
          → Has k (tree_at (branch c cells) n)
      at_root true is f more = let g : [] ≡ n = cc in subst (λ m. Has k (tree_at (branch c cells) m)) g (branch c cells, refl, sym (eqb-true k c is))
      at_root false is f more = first_of (λ m. Has k (tree_at (branch c cells) m)) (λ x. (x.0, x.1.0) ∷ x.1.1) (in_cells k cells) n f (λ x h. more x.0 x.1.0 x.1.1 h)

  found_cells : (k : ℕ) (cs : Cells) (part i : ℕ) (n : Node) → in_cells k cs ≡ Some (part, (i, n)) → Has k (below_cells cs part i n)
  found_cells k no_cells part i n e = absurd cc
  found_cells k (cell c cs) part i n e = elim (either _ _ _ e) [
    | inl f ↦ first_of (λ (x : ℕ × (ℕ × Node)). Has k (below_cells (cell c cs) x.0 x.1.0 x.1.1)) (λ x. (zero, x)) (in_cell k c) (part, (i, n)) f (λ x h. found_cell k c x.0 x.1 h)
    | inr f ↦ first_of (λ (x : ℕ × (ℕ × Node)). Has k (below_cells (cell c cs) x.0 x.1.0 x.1.1)) (λ x. (suc x.0, x.1)) (in_cells k cs) (part, (i, n)) f (λ x h. found_cells k cs x.0 x.1.0 x.1.1 h)
  ]

  found_cell : (k : ℕ) (c : Cell) (i : ℕ) (n : Node) → in_cell k c ≡ Some (i, n) → Has k (below (children c) i n)
  found_cell k (One t) i n e = first_of (λ (x : ℕ × Node). Has k (below (t ∷ []) x.0 x.1)) (λ m. (zero, m)) (path_in k t) (i, n) e (λ m h. found k t m h)
  found_cell k (Many ts) i n e = found_trees k ts i n e
  found_cell k Empty i n e = absurd cc
  found_cell k (Filled t) i n e = first_of (λ (x : ℕ × Node). Has k (below (t ∷ []) x.0 x.1)) (λ m. (zero, m)) (path_in k t) (i, n) e (λ m h. found k t m h)
  found_cell k (Holds v) i n e = absurd cc

  found_trees : (k : ℕ) (ts : Trees) (i : ℕ) (n : Node) → in_trees k ts ≡ Some (i, n) → Has k (below (from_trees ts) i n)
  found_trees k no_trees i n e = absurd cc
  found_trees k (tree t ts) i n e = elim (either _ _ _ e) [
    | inl f ↦ first_of (λ (x : ℕ × Node). Has k (below (from_trees (tree t ts)) x.0 x.1)) (λ m. (zero, m)) (path_in k t) (i, n) f (λ m h. found k t m h)
    | inr f ↦ first_of (λ (x : ℕ × Node). Has k (below (from_trees (tree t ts)) x.0 x.1)) (λ x. (suc x.0, x.1)) (in_trees k ts) (i, n) f (λ x h. found_trees k ts x.0 x.1 h)
  ]

pub number_found : (s : Tree) (k : ℕ) (n : Node) → path_in k s ≡ Some n → Has k (tree_at s n)
number_found s k n e = found k s n e

some_or : {A : Type 0} (o p : Option A) → is_some o ≡ true → is_some (option_or o p) ≡ true
some_or None p e = absurd cc
some_or (Some a) p e = refl

or_some : {A : Type 0} (o p : Option A) → is_some p ≡ true → is_some (option_or o p) ≡ true
or_some None p e = e
or_some (Some a) p e = refl

some_mapped : {A B : Type 0} (f : A → B) (o : Option A) → is_some o ≡ true → is_some (option_map f o) ≡ true
some_mapped f None e = absurd cc
some_mapped f (Some a) e = refl

-- a number that stands somewhere is found
mutual
  pub met : (k : ℕ) (t : Tree) (n : Node) → Has k (tree_at t n) → is_some (path_in k t) ≡ true
  met k (branch c cells) [] (u, is, e) =
      let f : branch c cells ≡ u = cc in
      let g : nat_eq k c ≡ true = eq-eqb k c (sym (ap class_of f ∙ e)) in
      rw g refl
  met k (branch c cells) (s ∷ ss) h = at_root (nat_eq k c) (met_cells k cells s.0 s.1 ss h)
    where
      at_root : (b : Bool) → is_some (in_cells k cells) ≡ true → is_some (if b then Some [] else option_map (λ x. (x.0, x.1.0) ∷ x.1.1) (in_cells k cells)) ≡ true
      at_root true more = refl
      at_root false more = some_mapped _ (in_cells k cells) more

  met_cells : (k : ℕ) (cs : Cells) (part i : ℕ) (n : Node) → Has k (below_cells cs part i n) → is_some (in_cells k cs) ≡ true
  met_cells k no_cells part i n (u, is, e) = absurd cc
  met_cells k (cell c cs) zero i n h = some_or _ _ (some_mapped _ (in_cell k c) (met_cell k c i n h))
  met_cells k (cell c cs) (suc part) i n h = or_some _ _ (some_mapped _ (in_cells k cs) (met_cells k cs part i n h))

  met_cell : (k : ℕ) (c : Cell) (i : ℕ) (n : Node) → Has k (below (children c) i n) → is_some (in_cell k c) ≡ true
  met_cell k (One t) zero n h = some_mapped _ (path_in k t) (met k t n h)
  met_cell k (One t) (suc i) n (u, is, e) = absurd cc
  met_cell k (Many ts) i n h = met_trees k ts i n h
  met_cell k Empty i n (u, is, e) = absurd cc
  met_cell k (Filled t) zero n h = some_mapped _ (path_in k t) (met k t n h)
  met_cell k (Filled t) (suc i) n (u, is, e) = absurd cc
  met_cell k (Holds v) i n (u, is, e) = absurd cc

  met_trees : (k : ℕ) (ts : Trees) (i : ℕ) (n : Node) → Has k (below (from_trees ts) i n) → is_some (in_trees k ts) ≡ true
  met_trees k no_trees i n (u, is, e) = absurd cc
  met_trees k (tree t ts) zero n h = some_or _ _ (some_mapped _ (path_in k t) (met k t n h))
  met_trees k (tree t ts) (suc i) n h = or_some _ _ (some_mapped _ (in_trees k ts) (met_trees k ts i n h))

pub got : {A : Type 0} (o : Option A) → is_some o ≡ true → (a : A) × (o ≡ Some a)
got None e = absurd cc
got (Some a) e = (a, refl)

-- the number of a node is found there
pub named : (s : Tree) → IsApart s → (n : Node) (u : Tree) → tree_at s n ≡ Some u → path_in (class_of u) s ≡ Some n
named s apart n u is =
    let (m, there) = got (path_in (class_of u) s) (met (class_of u) s n (u, is, refl)) in
    let (v, at', same) = found (class_of u) s m there in
    there ∙ ap Some (apart m n v u at' is same)

pub path_injective : (s : Tree) → IsInjective (λ k. path_in k s)
path_injective s a b c e f =
    let (u, is, x) = found a s c e in
    let (v, at', y) = found b s c f in
    let g : Some u ≡ Some v = sym is ∙ at' in
    let h : u ≡ v = cc in
    sym x ∙ ap class_of h ∙ y
