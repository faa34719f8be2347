-- What the writer of trees has written.
use Rattle.std.proofs.Common.{◌≡◌, ℕ, ◌+◌, ◌<◌, ◌≤◌, Bool, true, false, List, [], ◌∷◌, ◌++◌, length, take, get_or, map, refl, ap, sym, ◌∙◌, append_assoc, arith, take_all, add-one, length-take-le}
use Rattle.std.proofs.Math.Seq.{take-suc}
use Rattle.std.proofs.lemmas.List.{map-append, length-map, take-take, length-append}
use Rattle.at_model.specs.Classes.{Classes, Component, name_of, parts}
use Rattle.at_model.specs.Trees.{Many, to_cells, to_trees}
use Rattle.at_model.specs.Terms.{with_commas, tree_text, cell_text, cell_texts, cell_of, cells_of, term_texts, terms_of, written}
use Rattle.at_tree.specs.Fixed.{is_fixed_at}
use Rattle.at_tree.specs.Separated.{separator}
use Rattle.at_class.specs.TreeView.{tree_view, cell_view}
use Rattle.at_class.specs.declared.tree.Tree.{Tree as TreeValue, out-Tree}
use Rattle.at_class.specs.declared.tree.Cell.{Cell as CellValue}
use Rattle.at_tree.proofs.TreeLoops.{tree_view_out}
use Rattle.at_tree.proofs.Unfixed.{unfixed, first_unfixed, first_unfixed-same, first_unfixed-more, unfixed-none, written_texts}

pub with_commas-push : (ys : List (List ℕ)) (y : List ℕ) → with_commas (ys ++ y ∷ []) ≡ with_commas ys ++ (separator (length ys) ++ y)
with_commas-push [] y = refl
with_commas-push (z ∷ []) y = refl
with_commas-push (z ∷ w ∷ ws) y = rw (with_commas-push (w ∷ ws) y) (simp append_assoc)

-- a text more, behind so many
pub one_text_more : (ts us : List (List ℕ)) (y : List ℕ) (n : ℕ) → n ≡ length ts → us ≡ ts ++ y ∷ [] → with_commas us ≡ with_commas ts ++ (separator n ++ y)
one_text_more ts us y n size is = ap with_commas is ∙ with_commas-push ts y ∙ ap (λ k. with_commas ts ++ (separator k ++ y)) (sym size)

pub one_longer : (ts us : List (List ℕ)) (y : List ℕ) (n : ℕ) → n ≡ length ts → us ≡ ts ++ y ∷ [] → n + 1 ≡ length us
one_longer ts us y n size is = omega (arith, size, ap length is, length-append ts (y ∷ []))

-- the texts so far, with one more
pub commas-more : {A : Type 0} (f : A → List ℕ) (xs : List A) (i : ℕ) (x : A) → i < length xs → x ≡ get_or xs i x → with_commas (map f (take (i + 1) xs)) ≡ with_commas (map f (take i xs)) ++ (separator i ++ f x)
commas-more f xs i x less is =
    let e : take (i + 1) xs ≡ take i xs ++ x ∷ [] = rw (add-one, take-suc xs i x less, ← is) refl in
    let n : length (map f (take i xs)) ≡ i = simp length-map (length-take-le i xs (omega arith)) in
    rw (e, map-append f (take i xs) (x ∷ []), with_commas-push (map f (take i xs)) (f x), n) refl

cell_texts-view : (classes : Classes) (xs : List CellValue) → cell_texts (cells_of classes (to_cells (map cell_view xs))) ≡ map (λ x. cell_text (cell_of classes (cell_view x))) xs
cell_texts-view classes [] = refl
cell_texts-view classes (x ∷ xs) = ap (λ ys. cell_text (cell_of classes (cell_view x)) ∷ ys) (cell_texts-view classes xs)

term_texts-view : (classes : Classes) (xs : List TreeValue) → term_texts (terms_of classes (to_trees (map tree_view xs))) ≡ map (λ x. tree_text classes (tree_view x)) xs
term_texts-view classes [] = refl
term_texts-view classes (x ∷ xs) = ap (λ ys. tree_text classes (tree_view x) ∷ ys) (term_texts-view classes xs)

-- the cells of a tree so far, but for what is fixed
abbrev pub written_so_far : Classes → List Component → List CellValue → ℕ → List (List ℕ)
written_so_far classes ps xs i = first_unfixed ps (λ x. cell_text (cell_of classes (cell_view x))) xs i

abbrev pub cells_so_far : Classes → List Component → List CellValue → ℕ → List ℕ
cells_so_far classes ps xs i = with_commas (written_so_far classes ps xs i)

pub none_written : (classes : Classes) (ps : List Component) (xs : List CellValue) → written_so_far classes ps xs 0 ≡ []
none_written classes ps xs = unfixed-none ps

-- of one that is fixed nothing is written
pub written-same : (classes : Classes) (ps : List Component) (xs : List CellValue) (i : ℕ) (x : CellValue) → i < length xs → x ≡ get_or xs i x → is_fixed_at ps i ≡ true
    → written_so_far classes ps xs (i + 1) ≡ written_so_far classes ps xs i
written-same classes ps xs i x less is fixed = first_unfixed-same ps (λ x. cell_text (cell_of classes (cell_view x))) xs i x less is fixed

pub written-more : (classes : Classes) (ps : List Component) (xs : List CellValue) (i : ℕ) (x : CellValue) → i < length xs → x ≡ get_or xs i x → is_fixed_at ps i ≡ false
    → written_so_far classes ps xs (i + 1) ≡ written_so_far classes ps xs i ++ cell_text (cell_of classes (cell_view x)) ∷ []
written-more classes ps xs i x less is free = first_unfixed-more ps (λ x. cell_text (cell_of classes (cell_view x))) xs i x less is free

abbrev pub trees_so_far : Classes → List TreeValue → ℕ → List ℕ
trees_so_far classes xs i = with_commas (map (λ x. tree_text classes (tree_view x)) (take i xs))

pub tree_text-whole : (classes : Classes) (t : TreeValue) (xs : List CellValue) (ps : List Component) (i : ℕ) → length xs ≤ i → xs ≡ (out-Tree t).cells.items → ps ≡ parts classes (out-Tree t).class
    → tree_text classes (tree_view t) ≡ name_of classes (out-Tree t).class ++ 40 ∷ (cells_so_far classes ps xs i ++ 41 ∷ [])
tree_text-whole classes t xs ps i most is all =
    let c = (out-Tree t).class in
    let around : List (List ℕ) → List ℕ = λ ts. name_of classes c ++ 40 ∷ (with_commas ts ++ 41 ∷ []) in
    ap (tree_text classes) (tree_view_out t)
    ∙ ap (λ ys. around (cell_texts (written (parts classes c) (cells_of classes (to_cells (map cell_view ys)))))) (sym is)
    ∙ ap (λ qs. around (cell_texts (written qs (cells_of classes (to_cells (map cell_view xs)))))) (sym all)
    ∙ ap around (written_texts ps (cells_of classes (to_cells (map cell_view xs))) ∙ ap (unfixed ps) (cell_texts-view classes xs))
    ∙ ap (λ ys. around (unfixed ps (map (λ x. cell_text (cell_of classes (cell_view x))) ys))) (sym (take_all i xs most))

pub list_text-whole : (classes : Classes) (xs : List TreeValue) (i : ℕ) → length xs ≤ i → cell_text (cell_of classes (Many (to_trees (map tree_view xs)))) ≡ 91 ∷ (trees_so_far classes xs i ++ 93 ∷ [])
list_text-whole classes xs i most =
    ap (λ ts. 91 ∷ (with_commas ts ++ 93 ∷ [])) (term_texts-view classes xs)
    ∙ ap (λ ys. 91 ∷ (with_commas (map (λ x. tree_text classes (tree_view x)) ys) ++ 93 ∷ [])) (sym (take_all i xs most))

-- what stood before stays in front
pub front_stays : (old s new : List ℕ) → take (length (old ++ s)) new ≡ old ++ s → take (length old) new ≡ old
front_stays old s new e =
    let shorter : take (length old) (take (length (old ++ s)) new) ≡ take (length old) new = take-take (length old) (length (old ++ s)) new (omega (arith, length-append old s)) in
    sym shorter ∙ ap (take (length old)) e ∙ front old s
  where
    front : (old s : List ℕ) → take (length old) (old ++ s) ≡ old
    front [] s = refl
    front (x ∷ xs) s = ap (λ ys. x ∷ ys) (front xs s)

pub stays : (old s out new : List ℕ) → out ≡ old ++ s → take (length out) new ≡ out → take (length old) new ≡ old
stays old s out new e kept = front_stays old s new (ap (λ ys. take (length ys) new) (sym e) ∙ kept ∙ e)

-- one more element, behind what stands before it
pub one_more : (old h so sep f out mid new next : List ℕ) → out ≡ old ++ (h ++ so) → mid ≡ out ++ sep → new ≡ mid ++ f → next ≡ so ++ (sep ++ f) → new ≡ old ++ (h ++ next)
one_more old h so sep f out mid new next a b c d = c ∙ ap (λ ys. ys ++ f) (b ∙ ap (λ ys. ys ++ sep) a) ∙ simp append_assoc (ap (λ ys. old ++ (h ++ ys)) (sym d))

pub one_sep : (old h so sep out mid : List ℕ) → out ≡ old ++ (h ++ so) → mid ≡ out ++ sep → mid ≡ old ++ ((h ++ so) ++ sep)
one_sep old h so sep out mid a b = b ∙ ap (λ ys. ys ++ sep) a ∙ append_assoc old (h ++ so) sep

pub closed : (old h so out new end : List ℕ) → out ≡ old ++ (h ++ so) → new ≡ out ++ end → new ≡ old ++ (h ++ (so ++ end))
closed old h so out new end a b = b ∙ ap (λ ys. ys ++ end) a ∙ append_assoc old (h ++ so) end ∙ ap (λ ys. old ++ ys) (append_assoc h so end)
