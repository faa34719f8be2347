-- The tokens of a tree stay ones that can be written over every line, and a tree that conforms is then written as a term.
use Rattle.std.proofs.Common.{◌≡◌, ℕ, zero, suc, ◌-◌, Bool, true, false, if◌then◌else◌, List, [], ◌∷◌, length, Option, Some, None, Ok, refl, sym, subst, is_some}
use Rattle.std.specs.List.{AllByRecursion, slice_get, insert, remove}
use Rattle.std.specs.Option.{IfSome}
use Rattle.std.proofs.lemmas.List.Elements.{recursion_from_All}
use Rattle.at_model.specs.Classes.{Classes, Component, Shape, IsComponentSound, AreSound, parts}
use Rattle.at_model.specs.Classes as class
use Rattle.at_model.specs.Trees.{Tree, Cells, Cell, Trees, One, Many, Empty, Filled, Holds, no_cells, cell, no_trees, tree, to_cells, from_cells, to_trees, from_trees, children, conforms, cells_conform, cell_conforms, trees_conform, fixed_stand}
use Rattle.at_model.specs.SyntaxTrees.{cell_eq}
use Rattle.at_model.specs.Trees as trees
use Rattle.at_model.specs.Terms.{IsToken, IsTerm, IsTermWithin, AreCellsWithin, IsCellWithin, AreTermsWithin, written, term_of, cells_of, cell_of, terms_of, max_depth}
use Rattle.at_model.specs.Terms as term
use Rattle.at_model.specs.Paths.{Node, tree_at, children_at, parent_of}
use Rattle.at_model.specs.Rules.{Rules}
use Rattle.at_model.specs.Edits.{Edit, Set, Put, Drop, Insert, Token, Move, changed_at, with_child, with_cell, with_node, without_child, with_one_more, taken_out, past_taking, put_in, left_by, fits_class, edited}
use Rattle.at_model.specs.Lines.{Line, Command, IsCommand}
use Rattle.at_model.specs.Replies.{Reply}
use Rattle.at_model.specs.Machine.{State, Verdict, Step, Handles, obeys, waits, refuses, Serves, handles, runs_out, after, verdict, is_edit}
use Rattle.at_model.specs.Effects.{IsEditOf, set, put, drop, insert as inserted, token, move}
use Rattle.at_model.specs.Enduring.{AreTokens, CellsAreTokens, CellIsTokens, TreesAreTokens}
use Rattle.at_model.proofs.Options.{both, led}
use Rattle.at_model.proofs.of_texts.ConformingParts.{conforming_parts}
use Rattle.at_model.proofs.of_texts.SameTrees.{cell_eq-sound}
use Rattle.at_model.proofs.PathsWritten.{parts_sound}
use Rattle.at_model.proofs.of_edits.Conforming.{accepted as is_accepted}
use Rattle.at_model.proofs.of_machines.Machines.{waited}
use Rattle.at_model.proofs.of_edits.Changes.{whole, other_step}
use Rattle.at_model.proofs.of_machines.Commanded.{IsChangeOf, refused, accepted, edit_of}

-- edits ---------------------------------------------------------------------------------------------------------------

cells_changed : (f : Cell → Cell) → ((c : Cell) → CellIsTokens c → CellIsTokens (f c)) → (cs : Cells) (i : ℕ) → CellsAreTokens cs → CellsAreTokens (to_cells (changed_at f (from_cells cs) i))
cells_changed f h no_cells i k = k
cells_changed f h (cell c cs) zero k = (h c k.0, same_cells cs k.1)
  where
    same_cells : (ds : Cells) → CellsAreTokens ds → CellsAreTokens (to_cells (from_cells ds))
    same_cells no_cells k = k
    same_cells (cell d ds) k = (k.0, same_cells ds k.1)
cells_changed f h (cell c cs) (suc i) k = (k.0, cells_changed f h cs i k.1)

same_trees : (ts : Trees) → TreesAreTokens ts → TreesAreTokens (to_trees (from_trees ts))
same_trees no_trees k = k
same_trees (tree t ts) k = (k.0, same_trees ts k.1)

trees_changed : (f : Tree → Tree) → ((t : Tree) → AreTokens t → AreTokens (f t)) → (ts : Trees) (i : ℕ) → TreesAreTokens ts → TreesAreTokens (to_trees (changed_at f (from_trees ts) i))
trees_changed f h no_trees i k = k
trees_changed f h (tree t ts) zero k = (h t k.0, same_trees ts k.1)
trees_changed f h (tree t ts) (suc i) k = (k.0, trees_changed f h ts i k.1)

trees_inserted : (new : Tree) → AreTokens new → (ts : Trees) (i : ℕ) → TreesAreTokens ts → TreesAreTokens (to_trees (insert (from_trees ts) i new))
trees_inserted new h ts zero k = (h, same_trees ts k)
trees_inserted new h no_trees (suc i) k = (h, k)
trees_inserted new h (tree t ts) (suc i) k = (k.0, trees_inserted new h ts i k.1)

trees_removed : (ts : Trees) (i : ℕ) → TreesAreTokens ts → TreesAreTokens (to_trees (remove (from_trees ts) i))
trees_removed no_trees zero k = k
trees_removed no_trees (suc i) k = k
trees_removed (tree t ts) zero k = same_trees ts k.1
trees_removed (tree t ts) (suc i) k = (k.0, trees_removed ts i k.1)

child_changed : (f : Tree → Tree) → ((t : Tree) → AreTokens t → AreTokens (f t)) → (i : ℕ) (c : Cell) → CellIsTokens c → CellIsTokens (with_child f i c)
child_changed f h zero (One t) k = h t k
child_changed f h (suc i) (One t) k = k
child_changed f h i (Many ts) k = trees_changed f h ts i k
child_changed f h i Empty k = k
child_changed f h zero (Filled t) k = h t k
child_changed f h (suc i) (Filled t) k = k
child_changed f h i (Holds v) k = k

cell_changed : (f : Cell → Cell) → ((c : Cell) → CellIsTokens c → CellIsTokens (f c)) → (part : ℕ) (t : Tree) → AreTokens t → AreTokens (with_cell f part t)
cell_changed f h part (trees.Node c cells) k = cells_changed f h cells part k

node_changed : (f : Tree → Tree) → ((t : Tree) → AreTokens t → AreTokens (f t)) → (t : Tree) (n : Node) → AreTokens t → AreTokens (with_node f t n)
node_changed f h t [] k = h t k
node_changed f h t (s ∷ ss) k = cell_changed (with_child (λ u. with_node f u ss) s.1) (child_changed (λ u. with_node f u ss) (λ u g. node_changed f h u ss g) s.1) s.0 t k

child_removed : (i : ℕ) (c : Cell) → CellIsTokens c → CellIsTokens (without_child i c)
child_removed i (One t) k = k
child_removed i (Many ts) k = trees_removed ts i k
child_removed i Empty k = k
child_removed zero (Filled t) k = tt
child_removed (suc i) (Filled t) k = k
child_removed i (Holds v) k = k

child_inserted : (new : Tree) → AreTokens new → (i : ℕ) (c : Cell) → CellIsTokens c → CellIsTokens (with_one_more new i c)
child_inserted new h i (One t) k = k
child_inserted new h i (Many ts) k = trees_inserted new h ts i k
child_inserted new h i Empty k = k
child_inserted new h i (Filled t) k = k
child_inserted new h i (Holds v) k = k

-- what an edit brings can be written
abbrev Brings : Edit → Type 0
Brings (Set n new) = AreTokens new
Brings (Put n part new) = AreTokens new
Brings (Drop n) = Unit {0}
Brings (Insert n part index new) = AreTokens new
Brings (Token n part v) = IsToken v
Brings (Move n to part index) = Unit {0}

dropped : (t : Tree) (o : Option (Node × (ℕ × ℕ))) → AreTokens t → AreTokens (elim o [ None ↦ t | Some p ↦ with_node (with_cell (without_child p.1.1) p.1.0) t p.0 ])
dropped t None k = k
dropped t (Some p) k = node_changed (with_cell (without_child p.1.1) p.1.0) (cell_changed (without_child p.1.1) (child_removed p.1.1) p.1.0) t p.0 k

-- what stands at a node of a tree whose tokens can be written
in_trees : (ts : Trees) (i : ℕ) (u : Tree) → TreesAreTokens ts → slice_get (from_trees ts) i ≡ Some u → AreTokens u
in_trees no_trees i u k e = absurd cc
in_trees (tree t ts) zero u k e = let same : t ≡ u = cc in subst AreTokens same k.0
in_trees (tree t ts) (suc i) u k e = in_trees ts i u k.1 e

in_cell : (c : Cell) (i : ℕ) (u : Tree) → CellIsTokens c → slice_get (children c) i ≡ Some u → AreTokens u
in_cell (One t) zero u k e = let same : t ≡ u = cc in subst AreTokens same k
in_cell (One t) (suc i) u k e = absurd cc
in_cell (Many ts) i u k e = in_trees ts i u k e
in_cell Empty i u k e = absurd cc
in_cell (Filled t) zero u k e = let same : t ≡ u = cc in subst AreTokens same k
in_cell (Filled t) (suc i) u k e = absurd cc
in_cell (Holds v) i u k e = absurd cc

in_cells : (cs : Cells) (part i : ℕ) (u : Tree) → CellsAreTokens cs → slice_get (elim (slice_get (from_cells cs) part) as (λ _. List Tree) [ None ↦ [] | Some c ↦ children c ]) i ≡ Some u → AreTokens u
in_cells no_cells part i u k e = absurd cc
in_cells (cell c cs) zero i u k e = in_cell c i u k.0 e
in_cells (cell c cs) (suc part) i u k e = in_cells cs part i u k.1 e

below : (t : Tree) (n : Node) (u : Tree) → AreTokens t → tree_at t n ≡ Some u → AreTokens u
below t [] u k e = let same : t ≡ u = cc in subst AreTokens same k
below (trees.Node c cells) (s ∷ ss) u k e = let (v, child, under) = led (λ x. tree_at x ss)
    (slice_get (children_at (trees.Node c cells) s.0) s.1) u e in below v ss u (in_cells cells s.0 s.1 v k child) under

moved : (t : Tree) (node : Node) (part index : ℕ) (o : Option Tree) (r : Option Node) → tree_at t node ≡ o → AreTokens t
    → AreTokens (elim o [ None ↦ t | Some u ↦ elim r [ None ↦ t | Some q ↦ put_in (taken_out t node) q part index u ] ])
moved t node part index None r is k = k
moved t node part index (Some u) None is k = k
moved t node part index (Some u) (Some q) is k = node_changed (with_cell (with_one_more u index) part)
    (cell_changed (with_one_more u index) (child_inserted u (below t node u k is) index) part) (taken_out t node) q
    (dropped t (parent_of node) k)

left : (t : Tree) (e : Edit) → Brings e → AreTokens t → AreTokens (left_by t e)
left t (Set n new) h k = node_changed (λ u. new) (λ u g. h) t n k
left t (Put n part new) h k = node_changed (with_cell (λ c. Filled new) part) (cell_changed (λ c. Filled new) (λ c g. h) part) t n k
left t (Drop n) h k = dropped t (parent_of n) k
left t (Insert n part index new) h k = node_changed (with_cell (with_one_more new index) part) (cell_changed (with_one_more new index) (child_inserted new h index) part) t n k
left t (Token n part v) h k = node_changed (with_cell (λ c. Holds v) part) (cell_changed (λ c. Holds v) (λ c g. h) part) t n k
left t (Move n to part index) h k = moved t n part index (tree_at t n) (past_taking n to) refl k

is_left : (classes : Classes) (t u : Tree) (e : Edit) → edited classes t e ≡ Ok u → left_by t e ≡ u
is_left classes t u e is = (is_accepted classes t e u is).left

-- lines ---------------------------------------------------------------------------------------------------------------

module _ (classes : Classes) (sound : AreSound classes) where
  mutual
    of_term : (d : ℕ) (t : Tree) (b : ℕ) → conforms classes t b ≡ true → IsTermWithin d (term_of classes t) → AreTokens t
    of_term d (trees.Node c cells) b e h =
        let (fit, conform, stand) = conforming_parts classes c cells b e in
        of_cells (d - 1) (parts classes c) cells (recursion_from_All (IsComponentSound (length classes)) (parts classes c) (parts_sound classes sound c)) conform stand h.2

    of_cells : (d : ℕ) (ps : List Component) (cs : Cells) → AllByRecursion (IsComponentSound (length classes)) ps → cells_conform classes cs ps ≡ true
        → fixed_stand ps cs ≡ true → AreCellsWithin d (written ps (cells_of classes cs)) → CellsAreTokens cs
    of_cells d [] no_cells fixed e stand h = tt
    of_cells d [] (cell c cs) fixed e stand h = absurd cc
    of_cells d (p ∷ ps) no_cells fixed e stand h = tt
    of_cells d (p ∷ ps) (cell c cs) fixed e stand h =
        let (here, rest) = both (cell_conforms classes c p.shape) (cells_conform classes cs ps) e in
        let (same, others) = both _ (fixed_stand ps cs) stand in
        by_fixed p.fixed fixed.0.fixed same (λ x. of_cell d c p.shape here x) (λ x. of_cells d ps cs fixed.1 rest others x) h
      where
        by_fixed : (o : Option Cell) → IfSome o CellIsTokens → elim o as (λ _. Bool) [ None ↦ true | Some x ↦ cell_eq x c ] ≡ true
            → (IsCellWithin d (cell_of classes c) → CellIsTokens c) → (AreCellsWithin d (written ps (cells_of classes cs)) → CellsAreTokens cs)
            → AreCellsWithin d (if is_some o then written ps (cells_of classes cs) else term.cell (cell_of classes c) (written ps (cells_of classes cs)))
            → CellIsTokens c × CellsAreTokens cs
        by_fixed None k same one rest h = (one h.0, rest h.1)
        by_fixed (Some x) k same one rest h = (subst CellIsTokens (cell_eq-sound x c same) k, rest h)

    of_cell : (d : ℕ) (c : Cell) (s : Shape) → cell_conforms classes c s ≡ true → IsCellWithin d (cell_of classes c) → CellIsTokens c
    of_cell d (One t) (class.One b) e h = of_term d t b e h
    of_cell d (One t) (class.Many b) e h = absurd cc
    of_cell d (One t) (class.Maybe b) e h = absurd cc
    of_cell d (One t) (class.Token kind) e h = absurd cc
    of_cell d (Many ts) (class.One b) e h = absurd cc
    of_cell d (Many ts) (class.Many b) e h = of_terms d ts b e h
    of_cell d (Many ts) (class.Maybe b) e h = absurd cc
    of_cell d (Many ts) (class.Token kind) e h = absurd cc
    of_cell d Empty s e h = tt
    of_cell d (Filled t) (class.One b) e h = absurd cc
    of_cell d (Filled t) (class.Many b) e h = absurd cc
    of_cell d (Filled t) (class.Maybe b) e h = of_term d t b e h
    of_cell d (Filled t) (class.Token kind) e h = absurd cc
    of_cell d (Holds v) s e h = h

    of_terms : (d : ℕ) (ts : Trees) (b : ℕ) → trees_conform classes ts b ≡ true → AreTermsWithin d (terms_of classes ts) → TreesAreTokens ts
    of_terms d no_trees b e h = tt
    of_terms d (tree t ts) b e h =
        let (one, rest) = both (conforms classes t b) (trees_conform classes ts b) e in
        (of_term d t b one h.0, of_terms d ts b rest h.1)

  -- the tokens of a tree that conforms and whose term can be written can be written
  pub written_tokens : (t : Tree) (b : ℕ) → conforms classes t b ≡ true → IsTerm (term_of classes t) → AreTokens t
  written_tokens t b e h = of_term max_depth t b e h

  of_class : (t : Tree) (o : Option ℕ) → fits_class classes t o ≡ true → IsTerm (term_of classes t) → AreTokens t
  of_class t None e h = absurd cc
  of_class t (Some b) e h = written_tokens t b e h

  brings : (s : State) (session : ℕ) (c : Command) (e : Edit) (u : Tree) → IsEditOf classes s session c e → edited classes s.tree e ≡ Ok u → IsCommand c → Brings e
  brings s session c e u (set place n new named) is h = of_class new _ (is_accepted classes s.tree e u is).fit h.1
  brings s session c e u (put place name n part new named has) is h = of_class new _ (is_accepted classes s.tree e u is).fit h.2
  brings s session c e u (drop place n named) is h = tt
  brings s session c e u (inserted place name n part index new named has) is h = of_class new _ (is_accepted classes s.tree e u is).fit h.3
  brings s session c e u (token place name n part v named has) is h = h.2
  brings s session c e u (move place to name n m part index named also has) is h = tt

tokens_after : (rules : Rules) → AreSound rules.classes → (s : State) (l : Line) (v : Verdict) → IsCommand l.command → IsChangeOf rules.classes s l.session l.command v → AreTokens s.tree → AreTokens (after s v).tree
tokens_after rules sound s l v h (refused c) k = k
tokens_after rules sound s l v h (accepted e t asked is) k = subst AreTokens (is_left rules.classes s.tree t e is) (left s.tree e (brings rules.classes sound s l.session l.command e t asked is h) k)

tokens_step : (rules : Rules) → AreSound rules.classes → (old : State) (l : Line) (new : State) (reply : Reply) (b : Bool) → is_edit l.command ≡ b
    → IsCommand l.command → Step rules old l new reply → AreTokens old.tree → AreTokens new.tree
tokens_step rules sound old l new reply true is h step k =
    let P : State → Type 0 = λ x. AreTokens x.tree in
    subst P (sym step.state) (tokens_after rules sound old l (verdict rules old l) h (whole (IsChangeOf rules.classes old
    l.session l.command) refused rules old l (edit_of rules old l.session l.command is)) k)
tokens_step rules sound old l new reply false is h step k = let same = other_step rules old l new reply is step in subst AreTokens (sym same.0) k

tokens_handled : (rules : Rules) → AreSound rules.classes → (old : State) (bytes : List ℕ) (new : State) (said : Bool × Reply) → AreTokens old.tree → Handles rules old bytes new said → AreTokens new.tree
tokens_handled rules sound old bytes new _ k (obeys l {reply = reply} spells step) = tokens_step rules sound old l new reply (is_edit l.command) refl spells.is_line.command step k
tokens_handled rules sound old bytes new said k (waits l number spells is answered) =
    let w = waited rules number old new said answered in
    let P : State → Type 0 = λ x. AreTokens x.tree in subst P (sym w.state) k
tokens_handled rules sound old bytes _ _ k (refuses none session) = k

pub tokens_served : (rules : Rules) → AreSound rules.classes → (old : State) (bytes : List ℕ) (new : State) (said : Bool × Reply) → AreTokens old.tree → Serves rules old bytes new said → AreTokens new.tree
tokens_served rules sound old bytes new said k (handles h) = tokens_handled rules sound old bytes new said k h
tokens_served rules sound old bytes _ _ k (runs_out session) = k
