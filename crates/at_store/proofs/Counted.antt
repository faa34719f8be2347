-- A memory that keeps a tree keeps just as many nodes as the tree has.
use Rattle.std.proofs.Common.{◌≡◌, ◌≤◌, ◌<◌, ◌⊎◌, inl, inr, ℕ, zero, suc, ◌+◌, Bool, true, false, cond, nat_eq, nat_le, List, [], ◌∷◌, length, Option, Some, None, refl, sym, ap, ◌∙◌, arith, is_some, count_by, slice_index_or}
use Rattle.std.proofs.lemmas.Bool.{eqb-true, eq-eqb, leb-true}
use Rattle.std.proofs.lemmas.Bool.Decides.{nat_tests}
use Rattle.std.proofs.lemmas.List.{get_or_past}
use Rattle.std.proofs.lemmas.List.Recursion.{is_count_by}
use Rattle.at_model.specs.Trees.{Tree, Cells, Cell, Trees, Node as branch, no_cells, cell, One, Many, Empty, Filled, Holds, no_trees, tree, class_of, children, from_trees, nodes, cells_nodes, cell_nodes, trees_nodes}
use Rattle.at_model.specs.Paths.{Node, tree_at}
use Rattle.slab.specs.Slab.{Slab, get, slab_len}
use Rattle.at_store.specs.Memory.{Info, Keeps, place_in, reindexed}
use Rattle.at_store.specs.View.{info_of, memory_of, stored_of}
use Rattle.at_store.specs.declared.entry.Entry.{Entry}
use Rattle.at_store.specs.Numbers.{path_in}
use Rattle.at_store.proofs.Found.{Has, below, below_cells, got, number_found}

abbrev bit : Bool → ℕ
bit true = 1
bit false = 0

-- how often a number stands in a tree
abbrev mutual
  times : ℕ → Tree → ℕ
  times k (branch c cells) = bit (nat_eq k c) + times_cells k cells

  times_cells : ℕ → Cells → ℕ
  times_cells k no_cells = 0
  times_cells k (cell c cs) = times_cell k c + times_cells k cs

  times_cell : ℕ → Cell → ℕ
  times_cell k (One t) = times k t
  times_cell k (Many ts) = times_trees k ts
  times_cell k Empty = 0
  times_cell k (Filled t) = times k t
  times_cell k (Holds v) = 0

  times_trees : ℕ → Trees → ℕ
  times_trees k no_trees = 0
  times_trees k (tree t ts) = times k t + times_trees k ts

abbrev sum_to : ℕ → (ℕ → ℕ) → ℕ
sum_to zero f = 0
sum_to (suc n) f = sum_to n f + f n

sum_add : (n : ℕ) (f g : ℕ → ℕ) → sum_to n (λ k. f k + g k) ≡ sum_to n f + sum_to n g
sum_add zero f g = refl
sum_add (suc n) f g = let h = sum_add n f g in omega (arith, h)

sum_zero : (n : ℕ) → sum_to n (λ k. 0) ≡ 0
sum_zero zero = refl
sum_zero (suc n) = let h = sum_zero n in omega (arith, h)

sum_shift : (n : ℕ) (f : ℕ → ℕ) → sum_to (suc n) f ≡ f 0 + sum_to n (λ k. f (suc k))
sum_shift zero f = omega arith
sum_shift (suc n) f = let h = sum_shift n f in omega (arith, h)

sum_same : (n : ℕ) (f g : ℕ → ℕ) → ((k : ℕ) → f k ≡ g k) → sum_to n f ≡ sum_to n g
sum_same zero f g h = refl
sum_same (suc n) f g h = let e = sum_same n f g h in let d = h n in omega (arith, e, d)

bit_false : (a b : ℕ) → (a ≡ b → ⊥) → bit (nat_eq a b) ≡ 0
bit_false a b h = by_test (nat_eq a b) refl
  where
    by_test : (t : Bool) → nat_eq a b ≡ t → bit t ≡ 0
    by_test true e = absurd (h (eqb-true a b e))
    by_test false e = refl

bit_true : (a b : ℕ) → a ≡ b → bit (nat_eq a b) ≡ 1
bit_true a b e = ap bit (eq-eqb a b e)

sum_past : (n c : ℕ) → n ≤ c → sum_to n (λ k. bit (nat_eq k c)) ≡ 0
sum_past zero c h = refl
sum_past (suc n) c h = let e = sum_past n c (omega (arith, h)) in let d = bit_false n c (λ z. omega (arith, z, h)) in omega (arith, e, d)

sum_bit : (n c : ℕ) → c < n → sum_to n (λ k. bit (nat_eq k c)) ≡ 1
sum_bit zero c h = absurd (omega (arith, h))
sum_bit (suc n) c h = by_test (nat_eq n c) refl (λ l. sum_bit n c l)
  where
    by_test : (t : Bool) → nat_eq n c ≡ t → (c < n → sum_to n (λ k. bit (nat_eq k c)) ≡ 1) → sum_to n (λ k. bit (nat_eq k c)) + bit (nat_eq n c) ≡ 1
    by_test true e more = let g = eqb-true n c e in let f = sum_past n c (omega (arith, g)) in let d = bit_true n c g in omega (arith, f, d)
    by_test false e more =
        let d : bit (nat_eq n c) ≡ 0 = ap bit e in
        let f = more (strict n c h (λ g. (let k : true ≡ false = sym (eq-eqb n c g) ∙ e in absurd cc))) in
        omega (arith, f, d)
      where
        strict : (n c : ℕ) → c < suc n → (n ≡ c → ⊥) → c < n
        strict n c h differs = omega (arith, h, differs)

module _ (n : ℕ) where
  mutual
    tree_sum : (t : Tree) → ((k : ℕ) → 0 < times k t → k < n) → sum_to n (λ k. times k t) ≡ nodes t
    tree_sum (branch c cells) h =
        let one = bit_true c c refl in
        let within : c < n = h c (omega (arith, one)) in
        let f = cells_sum cells (λ k l. h k (omega (arith, l))) in
        let g = sum_add n (λ k. bit (nat_eq k c)) (λ k. times_cells k cells) in
        let d = sum_bit n c within in
        omega (arith, f, g, d)

    cells_sum : (cs : Cells) → ((k : ℕ) → 0 < times_cells k cs → k < n) → sum_to n (λ k. times_cells k cs) ≡ cells_nodes cs
    cells_sum no_cells h = sum_zero n
    cells_sum (cell c cs) h =
        let f = cell_sum c (λ k l. h k (omega (arith, l))) in
        let g = cells_sum cs (λ k l. h k (omega (arith, l))) in
        let d = sum_add n (λ k. times_cell k c) (λ k. times_cells k cs) in
        omega (arith, f, g, d)

    cell_sum : (c : Cell) → ((k : ℕ) → 0 < times_cell k c → k < n) → sum_to n (λ k. times_cell k c) ≡ cell_nodes c
    cell_sum (One t) h = tree_sum t h
    cell_sum (Many ts) h = trees_sum ts h
    cell_sum Empty h = sum_zero n
    cell_sum (Filled t) h = tree_sum t h
    cell_sum (Holds v) h = sum_zero n

    trees_sum : (ts : Trees) → ((k : ℕ) → 0 < times_trees k ts → k < n) → sum_to n (λ k. times_trees k ts) ≡ trees_nodes ts
    trees_sum no_trees h = sum_zero n
    trees_sum (tree t ts) h =
        let f = tree_sum t (λ k l. h k (omega (arith, l))) in
        let g = trees_sum ts (λ k l. h k (omega (arith, l))) in
        let d = sum_add n (λ k. times k t) (λ k. times_trees k ts) in
        omega (arith, f, g, d)

abbrev way_on : ℕ × (ℕ × Node) → Node
way_on p = (p.0, p.1.0) ∷ p.1.1

same_front : (a b : ℕ × ℕ) (n m : Node) → a ∷ n ≡ b ∷ m → a ≡ b
same_front a b n m e = cc

same_rest : (a b : ℕ × ℕ) (n m : Node) → a ∷ n ≡ b ∷ m → n ≡ m
same_rest a b n m e = cc

same_way : (p q : ℕ × (ℕ × Node)) → way_on p ≡ way_on q → p ≡ q
same_way p q e = let f = same_front (p.0, p.1.0) (q.0, q.1.0) p.1.1 q.1.1 e in let g = same_rest (p.0, p.1.0) (q.0, q.1.0) p.1.1 q.1.1 e in λ i. ((f i).0, ((f i).1, g i))

not_here : (a : ℕ × ℕ) (n : Node) → [] ≡ a ∷ n → ⊥
not_here a n e = cc

module _ (k : ℕ) where
  abbrev InCells : Cells → Type 0
  InCells cs = (part : ℕ) × (i : ℕ) × (n : Node) × Has k (below_cells cs part i n)

  abbrev InList : List Tree → Type 0
  InList ts = (i : ℕ) × (n : Node) × Has k (below ts i n)

  some_of : (a b : ℕ) → 0 < a + b → (0 < a) ⊎ (0 < b)
  some_of zero b h = inr (omega (arith, h))
  some_of (suc a) b h = inl (omega arith)

  -- a number that is counted stands somewhere
  mutual
    tree_stands : (t : Tree) → 0 < times k t → (n : Node) × Has k (tree_at t n)
    tree_stands (branch c cells) h = by_test (nat_eq k c) refl (λ l. cells_stand cells l)
      where
        by_test : (b : Bool) → nat_eq k c ≡ b → (0 < times_cells k cells → InCells cells) → (n : Node) × Has k (tree_at (branch c cells) n)
        by_test true e more = ([], (branch c cells, refl, sym (eqb-true k c e)))
        by_test false e more = let d : bit (nat_eq k c) ≡ 0 = ap bit e in let (part, i, n, has) = more (omega (arith, d, h)) in ((part, i) ∷ n, has)

    cells_stand : (cs : Cells) → 0 < times_cells k cs → InCells cs
    cells_stand no_cells h = absurd (omega (arith, h))
    cells_stand (cell c cs) h = elim (some_of (times_cell k c) (times_cells k cs) h) [
      | inl f ↦ (let (i, n, has) = cell_stands c f in (0, i, n, has))
      | inr f ↦ (let (part, i, n, has) = cells_stand cs f in (suc part, i, n, has))
    ]

    cell_stands : (c : Cell) → 0 < times_cell k c → InList (children c)
    cell_stands (One t) h = let (n, has) = tree_stands t h in (0, n, has)
    cell_stands (Many ts) h = trees_stand ts h
    cell_stands Empty h = absurd (omega (arith, h))
    cell_stands (Filled t) h = let (n, has) = tree_stands t h in (0, n, has)
    cell_stands (Holds v) h = absurd (omega (arith, h))

    trees_stand : (ts : Trees) → 0 < times_trees k ts → InList (from_trees ts)
    trees_stand no_trees h = absurd (omega (arith, h))
    trees_stand (tree t ts) h = elim (some_of (times k t) (times_trees k ts) h) [
      | inl f ↦ (let (n, has) = tree_stands t f in (0, n, has))
      | inr f ↦ (let (i, n, has) = trees_stand ts f in (suc i, n, has))
    ]

  -- and one that stands somewhere is counted
  mutual
    tree_counts : (t : Tree) (n : Node) → Has k (tree_at t n) → 0 < times k t
    tree_counts (branch c cells) [] (u, is, e) =
        let f : branch c cells ≡ u = cc in
        let d = bit_true k c (sym (ap class_of f ∙ e)) in
        omega (arith, d)
    tree_counts (branch c cells) (s ∷ ss) h = let f = cells_count cells s.0 s.1 ss h in omega (arith, f)

    cells_count : (cs : Cells) (part i : ℕ) (n : Node) → Has k (below_cells cs part i n) → 0 < times_cells k cs
    cells_count no_cells part i n (u, is, e) = absurd cc
    cells_count (cell c cs) zero i n h = let f = cell_counts c i n h in omega (arith, f)
    cells_count (cell c cs) (suc part) i n h = let f = cells_count cs part i n h in omega (arith, f)

    cell_counts : (c : Cell) (i : ℕ) (n : Node) → Has k (below (children c) i n) → 0 < times_cell k c
    cell_counts (One t) zero n h = tree_counts t n h
    cell_counts (One t) (suc i) n (u, is, e) = absurd cc
    cell_counts (Many ts) i n h = trees_count ts i n h
    cell_counts Empty i n (u, is, e) = absurd cc
    cell_counts (Filled t) zero n h = tree_counts t n h
    cell_counts (Filled t) (suc i) n (u, is, e) = absurd cc
    cell_counts (Holds v) i n (u, is, e) = absurd cc

    trees_count : (ts : Trees) (i : ℕ) (n : Node) → Has k (below (from_trees ts) i n) → 0 < times_trees k ts
    trees_count no_trees i n (u, is, e) = absurd cc
    trees_count (tree t ts) zero n h = let f = tree_counts t n h in omega (arith, f)
    trees_count (tree t ts) (suc i) n h = let f = trees_count ts i n h in omega (arith, f)

  -- where it stands is one place, so it is counted once
  abbrev IsOneOf : {P : Type 0} → (P → Option Tree) → Type 0
  IsOneOf {P} look = (p q : P) → Has k (look p) → Has k (look q) → p ≡ q

  at_most : (a b : ℕ) → a ≤ 1 → b ≤ 1 → (0 < a → 0 < b → ⊥) → a + b ≤ 1
  at_most zero b h g apart = omega (arith, g)
  at_most (suc a) zero h g apart = omega (arith, h)
  at_most (suc a) (suc b) h g apart = absurd (apart (omega arith) (omega arith))

  mutual
    tree_once : (t : Tree) → IsOneOf (tree_at t) → times k t ≤ 1
    tree_once (branch c cells) one = at_most (bit (nat_eq k c)) (times_cells k cells) (small (nat_eq k c)) (cells_once cells (λ p q f g. same_way p q (one (way_on p) (way_on q) f g)))
        (λ f g. (let (part, i, n, has) = cells_stand cells g in absurd (not_here (part, i) n (one [] ((part, i) ∷ n) (branch c cells, refl, root f) has))))
      where
        small : (b : Bool) → bit b ≤ 1
        small true = omega arith
        small false = omega arith

        root : 0 < bit (nat_eq k c) → c ≡ k
        root f = by_test (nat_eq k c) refl
          where
            by_test : (b : Bool) → nat_eq k c ≡ b → c ≡ k
            by_test true e = sym (eqb-true k c e)
            by_test false e = let d : bit (nat_eq k c) ≡ 0 = ap bit e in absurd (omega (arith, d, f))

    cells_once : (cs : Cells) → IsOneOf (λ (p : ℕ × (ℕ × Node)). below_cells cs p.0 p.1.0 p.1.1) → times_cells k cs ≤ 1
    cells_once no_cells one = omega arith
    cells_once (cell c cs) one = at_most (times_cell k c) (times_cells k cs)
        (cell_once c (λ p q f g. ap (λ z. z.1) (one (0, p) (0, q) f g)))
        (cells_once cs (λ p q f g. (let e = one (suc p.0, p.1) (suc q.0, q.1) f g in let z : p.0 ≡ q.0 = omega (arith, ap (λ y. y.0) e) in λ i. (z i, (ap (λ y. y.1) e) i))))
        (λ f g. (let (i, n, has) = cell_stands c f in let (part, j, m, more) = cells_stand cs g in let e = ap (λ z. z.0) (one (0, (i, n)) (suc part, (j, m)) has more) in absurd (omega (arith, e))))

    cell_once : (c : Cell) → IsOneOf (λ (p : ℕ × Node). below (children c) p.0 p.1) → times_cell k c ≤ 1
    cell_once (One t) one = tree_once t (λ p q f g. ap (λ z. z.1) (one (0, p) (0, q) f g))
    cell_once (Many ts) one = trees_once ts one
    cell_once Empty one = omega arith
    cell_once (Filled t) one = tree_once t (λ p q f g. ap (λ z. z.1) (one (0, p) (0, q) f g))
    cell_once (Holds v) one = omega arith

    trees_once : (ts : Trees) → IsOneOf (λ (p : ℕ × Node). below (from_trees ts) p.0 p.1) → times_trees k ts ≤ 1
    trees_once no_trees one = omega arith
    trees_once (tree t ts) one = at_most (times k t) (times_trees k ts)
        (tree_once t (λ p q f g. ap (λ z. z.1) (one (0, p) (0, q) f g)))
        (trees_once ts (λ p q f g. (let e = one (suc p.0, p.1) (suc q.0, q.1) f g in let z : p.0 ≡ q.0 = omega (arith, ap (λ y. y.0) e) in λ i. (z i, (ap (λ y. y.1) e) i))))
        (λ f g. (let (n, has) = tree_stands t f in let (j, m, more) = trees_stand ts g in let e = ap (λ z. z.0) (one (0, n) (suc j, m) has more) in absurd (omega (arith, e))))

-- the count of a slab's slots
pub slots_counted : {A : Type 0} (xs : List (Option A)) → sum_to (length xs) (λ k. bit (is_some (slice_index_or xs k None))) ≡ count_by is_some xs
slots_counted {A} xs = is_count_by (λ ys. sum_to (length ys) (λ k. bit (is_some (slice_index_or ys k None)))) is_some
    refl (λ y ys. sum_shift (length ys) (λ k. bit (is_some (slice_index_or (y ∷ ys) k None)))
    ∙ head (is_some y) (sum_to (length ys) (λ k. bit (is_some (slice_index_or ys k None))))) xs
  where
    head : (b : Bool) (n : ℕ) → bit b + n ≡ cond b (1 + n) n
    head true n = refl
    head false n = omega arith

module _ (memory : ℕ → Option Info) (s : Tree) (h : Keeps memory s None) where
  one_place : (k : ℕ) (p q : Node) → Has k (tree_at s p) → Has k (tree_at s q) → p ≡ q
  one_place k p q (u, is, e) (v, at', f) = h.apart p q u v is at' (e ∙ sym f)

  pub told_once : (k : ℕ) → times k s ≡ bit (is_some (memory k))
  told_once k = by_memory (memory k) refl
    where
      by_memory : (o : Option Info) → memory k ≡ o → times k s ≡ bit (is_some o)
      by_memory None e = by_times (times k s) refl
        where
          by_times : (m : ℕ) → times k s ≡ m → m ≡ 0
          by_times zero f = refl
          by_times (suc m) f =
              let (n, (u, is, number)) = tree_stands k s (omega (arith, f)) in
              let there = ap memory (sym number) ∙ (h.stored n u is).is in
              let g : true ≡ false = sym (ap is_some there) ∙ ap is_some e in absurd cc
      by_memory (Some i) e = elim (h.covered k i e) [
        | inl there ↦ (let (n, p) = got (path_in k s) there in let f = tree_counts k s n (number_found s k n p) in let g = tree_once k s (one_place k) in omega (arith, f, g))
        | inr there ↦ (let f : false ≡ true = there in absurd cc)
      ]

  pub counted : (n : ℕ) → ((k : ℕ) (i : Info) → memory k ≡ Some i → k < n) → sum_to n (λ k. bit (is_some (memory k))) ≡ nodes s
  counted n within = sum_same n (λ k. bit (is_some (memory k))) (λ k. times k s)
      (λ k. sym (told_once k)) ∙ tree_sum n s (λ k l.
      (let (m, (u, is, number)) = tree_stands k s l in within k _ (ap memory (sym number) ∙ (h.stored m u is).is)))

some_info : (slab : Slab Entry) (k : ℕ) (o : Option Entry) → is_some (reindexed (place_in (stored_of slab)) k (info_of o)) ≡ is_some o
some_info slab k None = refl
some_info slab k (Some e) = refl

-- a slab that keeps a tree counts its nodes
pub slab_counted : (slab : Slab Entry) (s : Tree) → Keeps (memory_of slab) s None → slab_len slab ≡ nodes s
slab_counted slab s h =
    sym (slots_counted slab.slots) ∙ sum_same (length slab.slots)
    (λ k. bit (is_some (slice_index_or slab.slots k None))) (λ k. bit (is_some (memory_of slab k)))
    (λ k. sym (ap bit (some_info slab k (get slab k)))) ∙
    counted (memory_of slab) s h (length slab.slots) (λ k i e. within k i e)
  where
    within : (k : ℕ) (i : Info) → memory_of slab k ≡ Some i → k < length slab.slots
    within k i e = by_test (nat_le (length slab.slots) k) refl
      where
        by_test : (b : Bool) → nat_le (length slab.slots) k ≡ b → k < length slab.slots
        by_test true f =
            let past = ap (λ o. reindexed (place_in (stored_of slab)) k (info_of o)) (get_or_past slab.slots k None (leb-true (length slab.slots) k f)) in
            let g : false ≡ true = sym (ap is_some past) ∙ ap is_some e in absurd cc
        by_test false f = let g : k < length slab.slots = grind (arith, nat_tests) in g
