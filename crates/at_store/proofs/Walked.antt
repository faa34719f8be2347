-- Steps from a node to its children, in the memory and in the tree.
use Rattle.std.proofs.Common.{◌≡◌, ◌≤◌, ◌-◌, ℕ, suc, List, [], ◌∷◌, ◌++◌, Option, Some, None, refl, sym, ap, ◌∙◌, arith, subst, length, take, drop, option_map, option_and_then}
use Rattle.std.specs.Prelude.{map}
use Rattle.std.specs.List.{slice_get, slice_index_or}
use Rattle.std.proofs.lemmas.List.{append_assoc, take_all}
use Rattle.std.proofs.lemmas.Option.{slice_get-map}
use Rattle.at_model.specs.Classes.{Classes}
use Rattle.at_model.specs.Trees.{Tree, Node as branch, no_cells, class_of, cells_of, from_cells}
use Rattle.at_model.specs.Paths.{Node, Path, Step, tree_at, cell_at, children_at, step_in, node_at}
use Rattle.at_model.proofs.WithinTree.{tree_at-snoc}
use Rattle.at_store.specs.Numbers.{path_in, relabel}
use Rattle.at_store.specs.Memory.{Info, Keeps, class_in, kept, kids_in, numbers_in}
use Rattle.at_store.specs.Led.{Led}
use Rattle.at_store.proofs.Found.{number_found, named}
use Rattle.at_store.proofs.Looked.{same_kids}
use Rattle.at_store.proofs.Relabelled.{relabel-class, relabelled-children_at}

module _ (memory : ℕ → Option Info) (s : Tree) (h : Keeps memory s None) where
  -- the numbers that are kept of a component are those of the children
  pub kids_kept : (n : Node) (u : Tree) → tree_at s n ≡ Some u → (part : ℕ) → kids_in (memory (class_of u)) part ≡ map class_of (children_at u part)
  kids_kept n u is part =
      let there = h.stored n u is in
      ap (λ o. kids_in o part) there.is ∙ ap numbers_in (slice_get-map kept (from_cells (cells_of u)) part) ∙ same_kids (cell_at u part)

  abbrev shown : Tree → Tree
  shown u = relabel (class_in memory) u

  module _ (classes : Classes) (n : Node) (u : Tree) (is : tree_at s n ≡ Some u) (step : Step) (rest : Path) where
    abbrev onward : ℕ × ℕ → Option Node
    onward way = option_and_then (λ v. option_map (λ ways. way ∷ ways) (node_at classes v rest)) (slice_get (children_at (shown u) way.0) way.1)

    abbrev kid_of : ℕ × ℕ → Option ℕ
    kid_of way = slice_get (kids_in (memory (class_of u)) way.0) way.1

    -- what one step leads to, and what is then left to show of the others
    abbrev Stepped : Option ℕ → Type 0
    Stepped None = node_at classes (shown u) (step ∷ rest) ≡ None
    Stepped (Some next) = (m : Node) × (y : Tree) × (path_in next s ≡ Some m) × (tree_at s m ≡ Some y) × ((r : Option ℕ) → Led s classes m (shown y) rest r → Led s classes n (shown u) (step ∷ rest) r)

    by_child : (way : ℕ × ℕ) → step_in classes (shown u) step ≡ Some way → (c : Option Tree) → slice_get (children_at u way.0) way.1 ≡ c → Stepped (option_map class_of c)
    by_child way we None ce =
        ap (option_and_then onward) we ∙ ap (option_and_then (λ v. option_map (λ ways. way ∷ ways) (node_at classes v rest)))
        (ap (λ ts. slice_get ts way.1) (relabelled-children_at (class_in memory) u way.0) ∙ slice_get-map shown (children_at u way.0) way.1 ∙ ap (option_map shown) ce)
    by_child way we (Some y) ce =
        let at' : tree_at s (n ++ way ∷ []) ≡ Some y = tree_at-snoc s n way u is ∙ ce in
        let same : node_at classes (shown u) (step ∷ rest) ≡ option_map (λ ways. way ∷ ways) (node_at classes (shown y) rest) =
        ap (option_and_then onward) we ∙ ap (option_and_then (λ v. option_map (λ ways. way ∷ ways) (node_at classes v rest)))
        (ap (λ ts. slice_get ts way.1) (relabelled-children_at (class_in memory) u way.0) ∙ slice_get-map shown (children_at u way.0) way.1 ∙ ap (option_map shown) ce) in
        (n ++ way ∷ [], y, named s h.apart _ y at', at', λ r led. by_rest y way same r led)
      where
        by_rest : (y : Tree) (way : ℕ × ℕ) → node_at classes (shown u) (step ∷ rest) ≡ option_map (λ ways. way ∷ ways) (node_at classes (shown y) rest) →
            (r : Option ℕ) → Led s classes (n ++ way ∷ []) (shown y) rest r → Led s classes n (shown u) (step ∷ rest) r
        by_rest y way same None led = same ∙ ap (option_map (λ ways. way ∷ ways)) led
        by_rest y way same (Some k) (m, led, p) = (way ∷ m, same ∙ ap (option_map (λ ways. way ∷ ways)) led, p ∙ ap Some (append_assoc n (way ∷ []) m))

    by_way : (w : Option (ℕ × ℕ)) → step_in classes (shown u) step ≡ w → Stepped (option_and_then kid_of w)
    by_way None we = ap (option_and_then onward) we
    by_way (Some way) we = subst Stepped (sym (ap (λ ks. slice_get ks way.1) (kids_kept n u is way.0) ∙ slice_get-map
        class_of (children_at u way.0) way.1)) (by_child way we (slice_get (children_at u way.0) way.1) refl)

    abbrev bare_step : ℕ → Option (ℕ × ℕ)
    bare_step c = step_in classes (branch c no_cells) step

    -- the node to which one step leads, as it is found in the memory
    pub stepped : (k : ℕ) → class_of u ≡ k → (o : Option ℕ) → o ≡ option_and_then (λ way. slice_get (kids_in (memory k) way.0) way.1) (bare_step (class_in memory k)) → Stepped o
    stepped k number o e =
        subst Stepped (sym (e ∙ ap (λ j. option_and_then (λ way. slice_get (kids_in (memory j) way.0) way.1)
        (bare_step (class_in memory j))) (sym number)
        ∙ ap (λ c. option_and_then kid_of (bare_step c)) (sym (relabel-class (class_in memory) u))))
        (by_way (step_in classes (shown u) step) refl)

  number_of : (k : ℕ) (n : Node) (u : Tree) → path_in k s ≡ Some n → tree_at s n ≡ Some u → class_of u ≡ k
  number_of k n u p is = let (v, at', number) = number_found s k n p in let same : v ≡ u = (let e : Some v ≡ Some u = sym at' ∙ is in cc) in ap class_of (sym same) ∙ number

  -- the next node, as one step finds it in the memory
  abbrev pub next_of : Classes → ℕ → Step → Option ℕ
  next_of classes k step = option_and_then (λ way. slice_get (kids_in (memory k) way.0) way.1) (step_in classes (branch (class_in memory k) no_cells) step)

  pub walked_off : (classes : Classes) (k : ℕ) (n : Node) (u : Tree) (step : Step) (rest steps : Path) (o : Option ℕ)
      (r : Option ℕ) → path_in k s ≡ Some n → tree_at s n ≡ Some u → steps ≡ step ∷ rest →
      o ≡ next_of classes k step → o ≡ None → r ≡ None → Led s classes n (shown u) steps r
  walked_off classes k n u step rest steps o r p is split e none off =
      subst (λ x. Led s classes n (shown u) steps x) (sym off) (ap (node_at classes (shown u)) split ∙
      subst (Stepped classes n u is step rest) none (stepped classes n u is step rest k (number_of k n u p is) o e))

  pub walked_on : (classes : Classes) (k next : ℕ) (n : Node) (u : Tree) (step : Step) (rest steps : Path)
      (o : Option ℕ) (r : Option ℕ) → path_in k s ≡ Some n → tree_at s n ≡ Some u → steps ≡ step ∷ rest →
      o ≡ next_of classes k step → o ≡ Some next → ((m : Node) (y : Tree) → path_in next s ≡ Some m → tree_at s m ≡ Some y → Led s classes m (shown y) rest r) → Led s classes n (shown u) steps r
  walked_on classes k next n u step rest steps o r p is split e some more =
      let (m, y, found, at', led) = subst (Stepped classes n u is step rest) some (stepped classes n u is step rest k (number_of k n u p is) o e) in
      subst (λ xs. Led s classes n (shown u) xs r) (sym split) (led r (more m y found at'))

take_whole : {A : Type 0} (n : ℕ) (xs : List A) → n ≡ length xs → take n xs ≡ xs
take_whole n xs e = take_all n xs (omega (arith, e))

pub split_off : {A : Type 0} (xs : List A) (d : A) → 1 ≤ length xs → d ≡ slice_index_or xs 0 d → xs ≡ d ∷ take (length xs - 1) (drop 1 xs)
split_off [] d h e = absurd (omega arith)
split_off (x ∷ xs) d h e = let first : x ≡ d = sym e in let n : suc (length xs) - 1 ≡ length xs = omega arith in λ i. first i ∷ sym (take_whole _ xs n) i
