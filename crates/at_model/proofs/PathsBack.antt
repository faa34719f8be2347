-- The path of a node leads back to it.
use Rattle.std.proofs.Common.{◌≡◌, ℕ, zero, suc, true, [], ◌∷◌, Option, Some, None, refl, sym, ap, ◌∙◌, subst, option_and_then, option_map}
use Rattle.std.specs.List.{slice_get}
use Rattle.at_model.specs.Classes.{Classes, Component, Shape, parts}
use Rattle.at_model.specs.Classes as class
use Rattle.at_model.specs.Trees.{Tree, Cell, Node as branch, One, Many, Empty, Filled, Holds, class_of, from_cells, children, conforms, cell_conforms}
use Rattle.at_model.specs.Paths.{Path, Step, Node, children_at, tree_at, place_in, step_in, node_at, index_in, step_of, path_of, ArePartsApart}
use Rattle.at_model.proofs.Options.{led}
use Rattle.at_model.proofs.of_texts.ConformingParts.{conforming_parts}
use Rattle.at_model.proofs.Complete.{cell_there, child_conforms}

-- a child's index is written so that it is found again
placed : (classes : Classes) (c : Cell) (shape : Shape) (i : ℕ) (v : Tree) → cell_conforms classes c shape ≡ true → slice_get (children c) i ≡ Some v → place_in shape (index_in shape i) ≡ Some i
placed classes (One t) (class.One b) zero v e at' = refl
placed classes (One t) (class.One b) (suc i) v e at' = absurd cc
placed classes (One t) (class.Many b) i v e at' = refl
placed classes (One t) (class.Maybe b) i v e at' = absurd cc
placed classes (One t) (class.Token kind) i v e at' = absurd cc
placed classes (Many ts) (class.One b) i v e at' = absurd cc
placed classes (Many ts) (class.Many b) i v e at' = refl
placed classes (Many ts) (class.Maybe b) i v e at' = absurd cc
placed classes (Many ts) (class.Token kind) i v e at' = absurd cc
placed classes Empty shape i v e at' = absurd cc
placed classes (Filled t) (class.One b) i v e at' = absurd cc
placed classes (Filled t) (class.Many b) i v e at' = refl
placed classes (Filled t) (class.Maybe b) zero v e at' = refl
placed classes (Filled t) (class.Maybe b) (suc i) v e at' = absurd cc
placed classes (Filled t) (class.Token kind) i v e at' = absurd cc
placed classes (Holds w) shape i v e at' = absurd cc

in_some : (o : Option Cell) (i : ℕ) (v : Tree) → slice_get (elim o [ None ↦ [] | Some c ↦ children c ]) i ≡ Some v → (c : Cell) × (o ≡ Some c) × (slice_get (children c) i ≡ Some v)
in_some None i v e = absurd cc
in_some (Some c) i v e = (c, refl, e)

-- the step to a child, and that it leads there
pub record LeadsTo (classes : Classes) (t : Tree) (way : ℕ × ℕ) : Type 0 where
  pub step : Step
  pub written : step_of classes (class_of t) way ≡ Some step
  pub read : step_in classes t step ≡ Some way

step_back : (classes : Classes) → ArePartsApart classes → (t : Tree) (b : ℕ) (way : ℕ × ℕ) (v : Tree)
    → conforms classes t b ≡ true → slice_get (children_at t way.0) way.1 ≡ Some v → LeadsTo classes t way
step_back classes apart (branch k cells) b way v ok child =
    let (c, here, at') = in_some (slice_get (from_cells cells) way.0) way.1 v child in
    let (q, is, fits) = cell_there classes cells (parts classes k) way.0 c (conforming_parts classes k cells b ok).1 here in
    let P : Option ℕ → Type 0 = λ o. option_and_then (λ part. option_and_then (λ p. option_map (λ i. (part, i))
    (place_in p.shape (index_in q.shape way.1))) (slice_get (parts classes k) part)) o ≡ Some way in
    let found = placed classes c q.shape way.1 v fits at' in
    record {
      step = record { part = q.name; index = index_in q.shape way.1 };
      written = ap (option_map (λ p. record { part = p.name; index = index_in p.shape way.1 })) is;
      read = subst P (sym (apart k way.0 q is)) (ap (option_and_then (λ p. option_map (λ i. (way.0, i)) (place_in p.shape (index_in q.shape way.1)))) is ∙ ap (option_map (λ i. (way.0, i))) found);
    }

pub path_back : (classes : Classes) → ArePartsApart classes → (t : Tree) (b : ℕ) (n : Node) (u : Tree)
    → conforms classes t b ≡ true → tree_at t n ≡ Some u
    → (p : Path) × (path_of classes t n ≡ Some p) × (node_at classes t p ≡ Some n)
path_back classes apart t b [] u ok found = ([], refl, refl)
path_back classes apart t b (way ∷ ways) u ok found =
    let (v, child, below) = led (λ x. tree_at x ways) (slice_get (children_at t way.0) way.1) u found in
    let (b', is, ok') = child_conforms classes t b way.0 way.1 v ok child in
    let (p, written, read) = path_back classes apart v b' ways u ok' below in
    let s = step_back classes apart t b way v ok child in (
      s.step ∷ p,
      ap (option_and_then (λ x. option_and_then (λ y. option_map (λ ss. x ∷ ss) (path_of classes y ways))
          (slice_get (children_at t way.0) way.1))) s.written
          ∙ ap (option_and_then (λ y. option_map (λ ss. s.step ∷ ss) (path_of classes y ways))) child
          ∙ ap (option_map (λ ss. s.step ∷ ss)) written,
      ap (option_and_then (λ w. option_and_then (λ y. option_map (λ ws. w ∷ ws) (node_at classes y p))
          (slice_get (children_at t w.0) w.1))) s.read ∙ ap (option_and_then
          (λ y. option_map (λ ws. way ∷ ws) (node_at classes y p))) child ∙ ap (option_map (λ ws. way ∷ ws)) read,
    )
