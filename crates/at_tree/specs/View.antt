-- What a term stands for.
use Rattle.std.specs.Prelude.{List, [], ◌∷◌, string_bytes}
use Rattle.at_model.specs.Terms.{Term, Node, Cells, no_cells, cell, Cell, One, Many, Empty, Holds, Terms, no_terms, term}
use Rattle.at_class.specs.Token.{token_view}
use Rattle.at_tree.specs.declared.term.Term.{Term as TermValue}
use Rattle.at_tree.specs.declared.term.TermCell.{TermCell as CellValue}
use Rattle.at_tree.specs.declared.term.TermCell.TheOpen.{TermCell-F, Term-F}
use Rattle.at_tree.specs.declared.term.TermCell.TheFolds.{fold-Term, fold-TermCell}

abbrev pub to_cells : List Cell → Cells
to_cells [] = no_cells
to_cells (c ∷ cs) = cell c (to_cells cs)

abbrev pub to_terms : List Term → Terms
to_terms [] = no_terms
to_terms (t ∷ ts) = term t (to_terms ts)

-- one level, with the terms and cells inside already seen
abbrev pub see_term : Term-F Cell Term → Term
see_term t = Node (string_bytes t.name) (to_cells t.cells.items)

abbrev pub see_cell : TermCell-F Cell Term → Cell
see_cell (TermCell-F.One t) = One t
see_cell (TermCell-F.Many ts) = Many (to_terms ts.items)
see_cell TermCell-F.Empty = Empty
see_cell (TermCell-F.Holds v) = Holds (token_view v)

abbrev pub term_view : TermValue → Term
term_view = fold-Term Cell Term see_cell see_term

abbrev pub cell_view : CellValue → Cell
cell_view = fold-TermCell Cell Term see_cell see_term
