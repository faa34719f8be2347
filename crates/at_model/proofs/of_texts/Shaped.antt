-- The tree that a term is shaped to conforms and is written as that term, and it is the only one where names are apart.
use Rattle.std.proofs.Common.{◌≡◌, ℕ, ◌<◌, Bool, true, false, ◌&&◌, not, if◌then◌else◌, List, [], ◌∷◌, length, Option, Some, None, refl, sym, ap, ◌∙◌, subst, option_and_then, option_map}
use Rattle.std.specs.List.{slice_get}
use Rattle.std.specs.Str.{bytes_eq}
use Rattle.std.proofs.lemmas.List.Quantifiers.{position-Some}
use Rattle.std.proofs.lemmas.Option.{slice_get-get_or, slice_get_within}
use Rattle.std.proofs.lemmas.Slice.Eq.{bytes_eq-Decides}
use Rattle.at_model.specs.Classes.{AreNamedApart, Classes, Class, Component, Shape, parts, free, is_fixed, fits, is_sub, is_concrete, name_of, class_of_name}
use Rattle.at_model.specs.Classes as class
use Rattle.at_model.specs.Trees.{Tree, is_of_kind, conforms, cells_conform, cell_conforms, trees_conform, fixed_stand}
use Rattle.at_model.specs.Trees as tree
use Rattle.at_model.specs.Terms.{Term, Cells, Cell, Terms, Node, no_cells, cell, One, Many, Empty, Holds, no_terms, term, written, term_of, cells_of, cell_of, terms_of}
use Rattle.at_model.specs.Shaping.{fixed_fit, planted, shaped, cells_shaped, cell_shaped, terms_shaped, names_classes, cells_name_classes, cell_names_classes, terms_name_classes}
use Rattle.at_model.proofs.Options.{both, and_true, led, mapped, if_some, if_true}
use Rattle.at_model.proofs.of_texts.ConformingParts.{conforming_parts, conforming_whole}
use Rattle.at_model.proofs.of_texts.Planting.{loose, planted_conform, planted_written, fixed_conform, loose_planted}

no_class : Class
no_class = record { name = []; is_abstract = false; parent = None; own = [] }

pub same_bytes : (xs ys : List ℕ) → bytes_eq xs ys ≡ true → xs ≡ ys
same_bytes xs ys e = (bytes_eq-Decides xs ys).0 e

name_found : (classes : Classes) (name : List ℕ) (c : ℕ) → class_of_name classes name ≡ Some c → name_of classes c ≡ name
name_found classes name c e =
    let (inside, test, first) = position-Some (λ k. bytes_eq name k.name) classes c no_class e in
    let P : Option Class → Type 0 = λ o. elim o [ None ↦ [] | Some k ↦ k.name ] ≡ name in
    subst P (sym (slice_get-get_or classes c no_class inside)) (sym (same_bytes _ _ test))

module _ (classes : Classes) where
  mutual
    pub shaped_conforms : (t : Term) (b : ℕ) (u : Tree) → shaped classes t b ≡ Some u → (conforms classes u b ≡ true) × (term_of classes u ≡ t)
    shaped_conforms (Node name cs) b u e =
        let (c, named, f) = led (λ c. if fits classes c b && fixed_fit classes (parts classes c)
        then option_map (λ ds. tree.Node c (planted (parts classes c) ds)) (cells_shaped classes cs (free (parts classes c))) else None) (class_of_name classes name) u e in
        let (test, g) = if_some (fits classes c b && fixed_fit classes (parts classes c)) _ u f in
        let (fit, fixed) = both (fits classes c b) (fixed_fit classes (parts classes c)) test in
        let (ds, made, h) = mapped (λ ds. tree.Node c (planted (parts classes c) ds)) (cells_shaped classes cs (free (parts classes c))) u g in
        let inner = cells_shaped_conform cs (free (parts classes c)) ds made in
        let (conform, stand) = planted_conform classes (parts classes c) ds fixed inner.0 in
        let same = name_found classes name c named in
        let P : Tree → Type 0 = λ x. (conforms classes x b ≡ true) × (term_of classes x ≡ Node name cs) in
        subst P h (conforming_whole classes c _ b fit conform stand, λ i. Node (same i) ((planted_written classes (parts classes c) ds inner.0 ∙ inner.1) i))

    cells_shaped_conform : (cs : Cells) (ps : List Component) (ds : tree.Cells) → cells_shaped classes cs ps ≡ Some ds → (cells_conform classes ds ps ≡ true) × (cells_of classes ds ≡ cs)
    cells_shaped_conform no_cells [] ds e = let P : tree.Cells → Type 0 = λ x. (cells_conform classes x [] ≡ true)
        × (cells_of classes x ≡ no_cells) in let same : tree.no_cells ≡ ds = cc in subst P same (refl, refl)
    cells_shaped_conform no_cells (p ∷ ps) ds e = absurd cc
    cells_shaped_conform (cell c cs) [] ds e = absurd cc
    cells_shaped_conform (cell c cs) (p ∷ ps) ds e =
        let (d, first, f) = led (λ d. option_map (λ ds. tree.cell d ds) (cells_shaped classes cs ps)) (cell_shaped classes c p.shape) ds e in
        let (rest, made, h) = mapped (λ ds. tree.cell d ds) (cells_shaped classes cs ps) ds f in
        let here = cell_shaped_conforms c p.shape d first in
        let there = cells_shaped_conform cs ps rest made in
        let P : tree.Cells → Type 0 = λ x. (cells_conform classes x (p ∷ ps) ≡ true) × (cells_of classes x ≡ cell c cs) in
        subst P h (and_true _ _ here.0 there.0, λ i. cell (here.1 i) (there.1 i))

    cell_shaped_conforms : (c : Cell) (shape : Shape) (d : tree.Cell) → cell_shaped classes c shape ≡ Some d → (cell_conforms classes d shape ≡ true) × (cell_of classes d ≡ c)
    cell_shaped_conforms (One t) (class.One b) d e =
        let (u, made, h) = mapped (λ u. tree.One u) (shaped classes t b) d e in
        let P : tree.Cell → Type 0 = λ x. (cell_conforms classes x (class.One b) ≡ true) × (cell_of classes x ≡ One t) in
        let here = shaped_conforms t b u made in subst P h (here.0, ap One here.1)
    cell_shaped_conforms (One t) (class.Maybe b) d e =
        let (u, made, h) = mapped (λ u. tree.Filled u) (shaped classes t b) d e in
        let P : tree.Cell → Type 0 = λ x. (cell_conforms classes x (class.Maybe b) ≡ true) × (cell_of classes x ≡ One t) in
        let here = shaped_conforms t b u made in subst P h (here.0, ap One here.1)
    cell_shaped_conforms (One t) (class.Many b) d e = absurd cc
    cell_shaped_conforms (One t) (class.Token kind) d e = absurd cc
    cell_shaped_conforms (Many ts) (class.Many b) d e =
        let (us, made, h) = mapped (λ us. tree.Many us) (terms_shaped classes ts b) d e in
        let P : tree.Cell → Type 0 = λ x. (cell_conforms classes x (class.Many b) ≡ true) × (cell_of classes x ≡ Many ts) in
        let here = terms_shaped_conform ts b us made in subst P h (here.0, ap Many here.1)
    cell_shaped_conforms (Many ts) (class.One b) d e = absurd cc
    cell_shaped_conforms (Many ts) (class.Maybe b) d e = absurd cc
    cell_shaped_conforms (Many ts) (class.Token kind) d e = absurd cc
    cell_shaped_conforms Empty (class.Maybe b) d e = let P : tree.Cell
        → Type 0 = λ x. (cell_conforms classes x (class.Maybe b) ≡ true) × (cell_of classes x ≡ Empty) in
        let same : tree.Empty ≡ d = cc in subst P same (refl, refl)
    cell_shaped_conforms Empty (class.One b) d e = absurd cc
    cell_shaped_conforms Empty (class.Many b) d e = absurd cc
    cell_shaped_conforms Empty (class.Token kind) d e = absurd cc
    cell_shaped_conforms (Holds v) (class.Token kind) d e =
        let (fit, f) = if_some (is_of_kind v kind) (Some (tree.Holds v)) d e in
        let P : tree.Cell → Type 0 = λ x. (cell_conforms classes x (class.Token kind) ≡ true) × (cell_of classes x ≡ Holds v) in
        let same : tree.Holds v ≡ d = cc in subst P same (fit, refl)
    cell_shaped_conforms (Holds v) (class.One b) d e = absurd cc
    cell_shaped_conforms (Holds v) (class.Many b) d e = absurd cc
    cell_shaped_conforms (Holds v) (class.Maybe b) d e = absurd cc

    terms_shaped_conform : (ts : Terms) (b : ℕ) (us : tree.Trees) → terms_shaped classes ts b ≡ Some us → (trees_conform classes us b ≡ true) × (terms_of classes us ≡ ts)
    terms_shaped_conform no_terms b us e = let P : tree.Trees → Type 0 = λ x. (trees_conform classes x b ≡ true)
        × (terms_of classes x ≡ no_terms) in let same : tree.no_trees ≡ us = cc in subst P same (refl, refl)
    terms_shaped_conform (term t ts) b us e =
        let (u, first, f) = led (λ u. option_map (λ us. tree.tree u us) (terms_shaped classes ts b)) (shaped classes t b) us e in
        let (rest, made, h) = mapped (λ us. tree.tree u us) (terms_shaped classes ts b) us f in
        let here = shaped_conforms t b u first in
        let there = terms_shaped_conform ts b rest made in
        let P : tree.Trees → Type 0 = λ x. (trees_conform classes x b ≡ true) × (terms_of classes x ≡ term t ts) in
        subst P h (and_true _ _ here.0 there.0, λ i. term (here.1 i) (there.1 i))

  -- a concrete class is there
  concrete_there : (c : ℕ) → is_concrete classes c ≡ true → c < length classes
  concrete_there c e = at_class (slice_get classes c) refl e
    where
      at_class : (o : Option Class) → slice_get classes c ≡ o → elim o [ None ↦ false | Some k ↦ not k.is_abstract ] ≡ true → c < length classes
      at_class None is e = absurd cc
      at_class (Some k) is e = slice_get_within classes c k is

  module _ (apart : AreNamedApart classes) where
    mutual
      pub conforms_shaped : (u : Tree) (b : ℕ) → conforms classes u b ≡ true → (shaped classes (term_of classes u) b ≡ Some u) × (names_classes classes (term_of classes u) ≡ true)
      conforms_shaped (tree.Node c ds) b e =
          let ps = parts classes c in
          let (fit, conform, stand) = conforming_parts classes c ds b e in
          let concrete = both (is_concrete classes c) (is_sub classes c b) fit in
          let named = apart c (concrete_there c concrete.0) in
          let (shape, names) = cells_conform_shaped ds ps conform stand in
          let P : Option ℕ → Type 0 = λ o. (option_and_then (λ k. if fits classes k b && fixed_fit classes (parts classes k)
          then option_map (λ x. tree.Node k (planted (parts classes k) x)) (cells_shaped classes (written ps (cells_of classes ds)) (free (parts classes k))) else None) o
          ≡ Some (tree.Node c ds)) × ((elim o [ None ↦ false | Some k ↦ is_concrete classes k ]
          && cells_name_classes classes (written ps (cells_of classes ds))) ≡ true) in
          subst P (sym named) (
            if_true (fits classes c b && fixed_fit classes ps) _ None (and_true _ _ fit (fixed_conform classes ps ds conform stand))
                ∙ ap (option_map (λ x. tree.Node c (planted ps x))) shape ∙ ap (λ x. Some (tree.Node c x)) (loose_planted classes ps ds conform stand),
            and_true _ _ concrete.0 names,
          )

      cells_conform_shaped : (ds : tree.Cells) (ps : List Component) → cells_conform classes ds ps ≡ true → fixed_stand ps ds ≡ true
          → (cells_shaped classes (written ps (cells_of classes ds)) (free ps) ≡ Some (loose ps ds))
          × (cells_name_classes classes (written ps (cells_of classes ds)) ≡ true)
      cells_conform_shaped tree.no_cells [] e stand = (refl, refl)
      cells_conform_shaped tree.no_cells (p ∷ ps) e stand = absurd cc
      cells_conform_shaped (tree.cell d ds) [] e stand = absurd cc
      cells_conform_shaped (tree.cell d ds) (p ∷ ps) e stand =
          let both_parts = both (cell_conforms classes d p.shape) (cells_conform classes ds ps) e in
          let here = cell_conform_shaped d p.shape both_parts.0 in
          let there = cells_conform_shaped ds ps both_parts.1 (both _ (fixed_stand ps ds) stand).1 in
          by_fixed (is_fixed p) here there
        where
          by_fixed : (b : Bool) → (cell_shaped classes (cell_of classes d) p.shape ≡ Some d) × (cell_names_classes classes (cell_of classes d) ≡ true)
              → (cells_shaped classes (written ps (cells_of classes ds)) (free ps) ≡ Some (loose ps ds)) × (cells_name_classes classes (written ps (cells_of classes ds)) ≡ true)
              → (cells_shaped classes (if b then written ps (cells_of classes ds) else cell (cell_of classes d) (written ps (cells_of classes ds)))
              (if b then free ps else p ∷ free ps) ≡ Some (if b then loose ps ds else tree.cell d (loose ps ds)))
              × (cells_name_classes classes (if b then written ps (cells_of classes ds) else cell (cell_of classes d) (written ps (cells_of classes ds))) ≡ true)
          by_fixed true here there = there
          by_fixed false here there = (
            ap (option_and_then (λ x. option_map (λ y. tree.cell x y) (cells_shaped classes (written ps (cells_of classes ds)) (free ps))))
                here.0 ∙ ap (option_map (λ y. tree.cell d y)) there.0,
            and_true _ _ here.1 there.1,
          )

      cell_conform_shaped : (d : tree.Cell) (shape : Shape) → cell_conforms classes d shape ≡ true → (cell_shaped
          classes (cell_of classes d) shape ≡ Some d) × (cell_names_classes classes (cell_of classes d) ≡ true)
      cell_conform_shaped (tree.One t) (class.One b) e = let here = conforms_shaped t b e in (ap (option_map (λ u. tree.One u)) here.0, here.1)
      cell_conform_shaped (tree.One t) (class.Many b) e = absurd cc
      cell_conform_shaped (tree.One t) (class.Maybe b) e = absurd cc
      cell_conform_shaped (tree.One t) (class.Token kind) e = absurd cc
      cell_conform_shaped (tree.Many ts) (class.Many b) e = let here = terms_conform_shaped ts b e in (ap (option_map (λ u. tree.Many u)) here.0, here.1)
      cell_conform_shaped (tree.Many ts) (class.One b) e = absurd cc
      cell_conform_shaped (tree.Many ts) (class.Maybe b) e = absurd cc
      cell_conform_shaped (tree.Many ts) (class.Token kind) e = absurd cc
      cell_conform_shaped tree.Empty (class.Maybe b) e = (refl, refl)
      cell_conform_shaped tree.Empty (class.One b) e = absurd cc
      cell_conform_shaped tree.Empty (class.Many b) e = absurd cc
      cell_conform_shaped tree.Empty (class.Token kind) e = absurd cc
      cell_conform_shaped (tree.Filled t) (class.Maybe b) e = let here = conforms_shaped t b e in (ap (option_map (λ u. tree.Filled u)) here.0, here.1)
      cell_conform_shaped (tree.Filled t) (class.One b) e = absurd cc
      cell_conform_shaped (tree.Filled t) (class.Many b) e = absurd cc
      cell_conform_shaped (tree.Filled t) (class.Token kind) e = absurd cc
      cell_conform_shaped (tree.Holds v) (class.Token kind) e = (if_true (is_of_kind v kind) _ None e, refl)
      cell_conform_shaped (tree.Holds v) (class.One b) e = absurd cc
      cell_conform_shaped (tree.Holds v) (class.Many b) e = absurd cc
      cell_conform_shaped (tree.Holds v) (class.Maybe b) e = absurd cc

      terms_conform_shaped : (us : tree.Trees) (b : ℕ) → trees_conform classes us b ≡ true → (terms_shaped classes
          (terms_of classes us) b ≡ Some us) × (terms_name_classes classes (terms_of classes us) ≡ true)
      terms_conform_shaped tree.no_trees b e = (refl, refl)
      terms_conform_shaped (tree.tree u us) b e =
          let both_parts = both (conforms classes u b) (trees_conform classes us b) e in
          let here = conforms_shaped u b both_parts.0 in
          let there = terms_conform_shaped us b both_parts.1 in (
            ap (option_and_then (λ x. option_map (λ y. tree.tree x y) (terms_shaped classes (terms_of classes us) b)))
                here.0 ∙ ap (option_map (λ y. tree.tree u y)) there.0,
            and_true _ _ here.1 there.1,
          )
