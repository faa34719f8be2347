-- What is fixed comes between the cells that are written, and is left out where they are written again.
use Rattle.std.proofs.Common.{◌≡◌, Bool, true, if◌then◌else◌, List, [], ◌∷◌, Option, Some, None, refl, sym, ap, ◌∙◌, subst, is_some}
use Rattle.at_model.specs.Classes.{Classes, Component, is_fixed, free}
use Rattle.at_model.specs.Trees.{Cells, Cell, no_cells, cell, cells_conform, cell_conforms, fixed_stand}
use Rattle.at_model.specs.SyntaxTrees.{cell_eq}
use Rattle.at_model.specs.Terms.{written, cells_of, cell_of}
use Rattle.at_model.specs.Terms as term
use Rattle.at_model.specs.Shaping.{fixed_fit, planted}
use Rattle.at_model.proofs.Options.{both, and_true}
use Rattle.at_model.proofs.of_texts.SameTrees.{cell_eq-sound, cell_eq-refl}

-- the cells of the components that aren't fixed
abbrev pub loose : List Component → Cells → Cells
loose [] cs = cs
loose (p ∷ ps) no_cells = no_cells
loose (p ∷ ps) (cell c cs) = if is_fixed p then loose ps cs else cell c (loose ps cs)

module _ (classes : Classes) where
  -- cells that conform to what isn't fixed conform to all, with what is fixed between them
  pub planted_conform : (ps : List Component) (ds : Cells) → fixed_fit classes ps ≡ true → cells_conform classes ds (free ps) ≡ true
      → (cells_conform classes (planted ps ds) ps ≡ true) × (fixed_stand ps (planted ps ds) ≡ true)
  planted_conform [] ds fit e = (e, refl)
  planted_conform (p ∷ ps) ds fit e = at_part (λ xs more f. planted_conform ps xs more f) p.fixed refl ds (both _ (fixed_fit classes ps) fit) e
    where
      at_part : ((xs : Cells) → fixed_fit classes ps ≡ true → cells_conform classes xs (free ps) ≡ true
          → (cells_conform classes (planted ps xs) ps ≡ true) × (fixed_stand ps (planted ps xs) ≡ true)) → (o : Option Cell) → p.fixed ≡ o → (ds : Cells) → (elim o as (λ _. Bool) [ None ↦ true | Some d ↦ cell_conforms classes d p.shape ] ≡ true) × (fixed_fit classes ps ≡ true)
          → cells_conform classes ds (if is_some o then free ps else p ∷ free ps) ≡ true
          → (cells_conform classes (elim o as (λ _. Cells) [
            | Some d ↦ cell d (planted ps ds)
            | None ↦ elim ds [ no_cells ↦ no_cells | cell d rest ↦ cell d (planted ps rest) ]
          ]) (p ∷ ps) ≡ true) × (fixed_stand (p ∷ ps) (elim o as (λ _. Cells) [
            | Some d ↦ cell d (planted ps ds)
            | None ↦ elim ds [ no_cells ↦ no_cells | cell d rest ↦ cell d (planted ps rest) ]
          ]) ≡ true)
      at_part below (Some d) is ds (here, more) e =
          let (conform, stand) = below ds more e in
          let same : elim p.fixed as (λ _. Bool) [ None ↦ true | Some x ↦ cell_eq x d ] ≡ true =
          ap (λ (o : Option Cell). elim o as (λ _. Bool) [ None ↦ true | Some x ↦ cell_eq x d ]) is ∙ cell_eq-refl d in
          (and_true _ _ here conform, and_true _ _ same stand)
      at_part below None is no_cells (here, more) e = absurd cc
      at_part below None is (cell d rest) (here, more) e =
          let (first, others) = both (cell_conforms classes d p.shape) (cells_conform classes rest (free ps)) e in
          let (conform, stand) = below rest more others in
          let same : elim p.fixed as (λ _. Bool) [ None ↦ true | Some x ↦ cell_eq x d ] ≡ true =
          ap (λ (o : Option Cell). elim o as (λ _. Bool) [ None ↦ true | Some x ↦ cell_eq x d ]) is in
          (and_true _ _ first conform, and_true _ _ same stand)

  -- what is written of them are these cells
  pub planted_written : (ps : List Component) (ds : Cells) → cells_conform classes ds (free ps) ≡ true → written ps (cells_of classes (planted ps ds)) ≡ cells_of classes ds
  planted_written [] ds e = refl
  planted_written (p ∷ ps) ds e = at_part (λ xs f. planted_written ps xs f) p.fixed ds e
    where
      at_part : ((xs : Cells) → cells_conform classes xs (free ps) ≡ true → written ps (cells_of classes (planted ps xs)) ≡ cells_of classes xs) → (o : Option Cell) (ds : Cells) → cells_conform classes ds (if is_some o then free ps else p ∷ free ps) ≡ true
          → (elim (cells_of classes (elim o as (λ _. Cells) [
            | Some d ↦ cell d (planted ps ds)
            | None ↦ elim ds [ no_cells ↦ no_cells | cell d rest ↦ cell d (planted ps rest) ]
          ])) as (λ _. term.Cells) [
            | term.no_cells ↦ term.no_cells
            | term.cell c cs ↦ if is_some o then written ps cs else term.cell c (written ps cs)
          ]) ≡ cells_of classes ds
      at_part below (Some d) ds e = below ds e
      at_part below None no_cells e = refl
      at_part below None (cell d rest) e = ap (term.cell (cell_of classes d)) (below rest (both (cell_conforms classes d p.shape) (cells_conform classes rest (free ps)) e).1)

  -- what is fixed conforms where it stands in cells that do
  pub fixed_conform : (ps : List Component) (ds : Cells) → cells_conform classes ds ps ≡ true → fixed_stand ps ds ≡ true → fixed_fit classes ps ≡ true
  fixed_conform [] ds e stand = refl
  fixed_conform (p ∷ ps) no_cells e stand = absurd cc
  fixed_conform (p ∷ ps) (cell c cs) e stand =
      let (first, others) = both (cell_conforms classes c p.shape) (cells_conform classes cs ps) e in
      let (same, rest) = both _ (fixed_stand ps cs) stand in
      and_true _ _ (at_fixed p.fixed same first) (fixed_conform ps cs others rest)
    where
      at_fixed : (o : Option Cell) → elim o as (λ _. Bool) [ None ↦ true | Some d ↦ cell_eq d c ] ≡ true → cell_conforms classes c p.shape ≡ true
          → elim o as (λ _. Bool) [ None ↦ true | Some d ↦ cell_conforms classes d p.shape ] ≡ true
      at_fixed None same first = refl
      at_fixed (Some d) same first = subst (λ (x : Cell). cell_conforms classes x p.shape ≡ true) (sym (cell_eq-sound d c same)) first

  -- and so the cells are those that aren't fixed, with what is fixed between them
  pub loose_planted : (ps : List Component) (ds : Cells) → cells_conform classes ds ps ≡ true → fixed_stand ps ds ≡ true → planted ps (loose ps ds) ≡ ds
  loose_planted [] ds e stand = refl
  loose_planted (p ∷ ps) no_cells e stand = absurd cc
  loose_planted (p ∷ ps) (cell c cs) e stand =
      let (first, others) = both (cell_conforms classes c p.shape) (cells_conform classes cs ps) e in
      let (same, rest) = both _ (fixed_stand ps cs) stand in
      at_fixed p.fixed same (loose_planted ps cs others rest)
    where
      at_fixed : (o : Option Cell) → elim o as (λ _. Bool) [ None ↦ true | Some d ↦ cell_eq d c ] ≡ true → planted ps (loose ps cs) ≡ cs
          → (elim o as (λ _. Cells) [
            | Some d ↦ cell d (planted ps (if is_some o then loose ps cs else cell c (loose ps cs)))
            | None ↦ elim (if is_some o then loose ps cs else cell c (loose ps cs)) [ no_cells ↦ no_cells | cell d more ↦ cell d (planted ps more) ]
          ]) ≡ cell c cs
      at_fixed None same more = ap (cell c) more
      at_fixed (Some d) same more = λ i. cell (cell_eq-sound d c same i) (more i)
