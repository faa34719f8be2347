-- Trees and cells that are taken from the front of a text.
use Rattle.std.proofs.Common.{◌≡◌, ℕ, ◌+◌, ◌-◌, ◌<◌, ◌≤◌, zero, List, [], ◌∷◌, ◌++◌, if◌then◌else◌, is_some, length, take, get_or, map, refl, ap, sym, ◌∙◌, subst, append_assoc, arith, suc, take_all, Some, None, Option}
use Rattle.std.specs.Prelude.{Bool, true, false, ◌&&◌}
use Rattle.std.specs.List.{slice_get}
use Rattle.std.specs.Str.{bytes_eq}
use Rattle.std.proofs.lemmas.List.{length-append, length-map, map_more, take-map}
use Rattle.std.proofs.lemmas.List.Quantifiers.{position-Some}
use Rattle.std.proofs.lemmas.Option.{slice_get-get_or, same_Some}
use Rattle.at_model.specs.Classes.{Classes, Class, Component, Shape, class_of_name, name_of, is_fixed, fits, parts}
use Rattle.at_model.specs.Classes as class
use Rattle.at_model.specs.Names.{IsName}
use Rattle.at_model.specs.Terms.{IsTermWithin, AreCellsWithin, IsCellWithin, AreTermsWithin, term_of, cells_of, cell_of, terms_of, written, tree_text, cell_text, cell_texts, term_texts, with_commas}
use Rattle.at_model.specs.Terms.{no_cells as no_terms_cells, cell as term_cell}
use Rattle.at_model.specs.SyntaxTrees.{cell_eq}
use Rattle.at_model.specs.Trees.{Tree, Node, Cells, Cell, Many, no_cells, to_cells, to_trees, conforms, cells_conform, cell_conforms, trees_conform, fixed_stand}
use Rattle.at_model.proofs.of_texts.ConformingParts.{conforming_whole}
use Rattle.at_model.proofs.Options.{both as and_both, and_true}
use Rattle.at_model.proofs.of_texts.SameTrees.{cell_eq-refl}
use Rattle.at_model.proofs.of_texts.Shaped.{same_bytes}
use Rattle.at_class.specs.View.{part_view, shape_view}
use Rattle.at_class.specs.declared.part.Part.{Part}
use Rattle.at_tree.specs.Fixed.{is_fixed_at, stands}
use Rattle.at_tree.specs.Separated.{separator}
use Rattle.at_tree.specs.Fronts.{IsTreeFront, IsCellFront, AreCellsFront}
use Rattle.at_tree.proofs.TreeTexts.{with_commas-push, one_longer}
use Rattle.at_tree.proofs.Unfixed.{unfixed, unfixed-more, written_texts, component_at}

-- a class's name ------------------------------------------------------------------------------------------------------

pub name_found : (classes : Classes) (name : List ℕ) (c : ℕ) → class_of_name classes name ≡ Some c → name_of classes c ≡ name
name_found classes name c e =
    let (inside, test, first) = position-Some (λ k. bytes_eq name k.name) classes c spare e in
    let P : Option Class → Type 0 = λ o. elim o [ None ↦ [] | Some k ↦ k.name ] ≡ name in
    subst P (sym (slice_get-get_or classes c spare inside)) (sym (same_bytes _ _ test))
  where
    spare : Class
    spare = record { name = []; is_abstract = false; parent = None; own = [] }

-- trees and cells -----------------------------------------------------------------------------------------------------

pub begun : (text name mid texts rest : List ℕ) → text ≡ name ++ 40 ∷ mid → mid ≡ texts ++ 41 ∷ rest → text ≡ (name ++ 40 ∷ (texts ++ 41 ∷ [])) ++ rest
begun text name mid texts rest begins inside =
    begins ∙ ap (λ ys. name ++ 40 ∷ ys) (inside ∙ sym (append_assoc texts (41 ∷ []) rest)) ∙ sym (append_assoc name (40 ∷ (texts ++ 41 ∷ [])) rest)

pub tree_front : (classes : Classes) (text mid rest : List ℕ) (b c levels : ℕ) (ps : List Component) (cs : Cells) (t : Tree) → 0 < levels → IsName (name_of classes c) → fits classes c b ≡ true
    → text ≡ name_of classes c ++ 40 ∷ mid → ps ≡ parts classes c → AreCellsFront classes mid rest ps (levels - 1) cs → t ≡ Node c cs → IsTreeFront classes text rest b levels t
tree_front classes text mid rest b c levels ps cs t some named fit begins all inside is =
    let (texts, conform, stand, within) = subst (λ qs. AreCellsFront classes mid rest qs (levels - 1) cs) all inside in
    let front = begun text (name_of classes c) mid (with_commas (cell_texts (written (parts classes c) (cells_of classes cs)))) rest begins texts in
    subst (IsTreeFront classes text rest b levels) (sym is) (front, conforming_whole classes c cs b fit conform stand, (some, named, within))

-- the cells so far ----------------------------------------------------------------------------------------------------

-- the cells of the first so many components, of which so many are written
pub record HasCells (classes : Classes) (text rest : List ℕ) (ps : List Component) (levels i n : ℕ) (cs : List Cell) : Type 0 where
  pub count : length cs ≡ i
  pub taken : n ≡ length (cell_texts (written ps (cells_of classes (to_cells cs))))
  pub few : n ≤ i
  pub texts : text ≡ with_commas (cell_texts (written ps (cells_of classes (to_cells cs)))) ++ rest
  pub conform : cells_conform classes (to_cells cs) (take i ps) ≡ true
  pub stand : fixed_stand ps (to_cells cs) ≡ true
  pub within : AreCellsWithin levels (written ps (cells_of classes (to_cells cs)))

nothing_written : (ps : List Component) → written ps no_terms_cells ≡ no_terms_cells
nothing_written [] = refl
nothing_written (p ∷ ps) = refl

nothing_stands : (ps : List Component) → fixed_stand ps no_cells ≡ true
nothing_stands [] = refl
nothing_stands (p ∷ ps) = refl

pub has_none : (classes : Classes) (text : List ℕ) (ps : List Component) (levels : ℕ) (cs : List Cell) → cs ≡ [] → HasCells classes text text ps levels 0 0 cs
has_none classes text ps levels cs none = subst (HasCells classes text text ps levels 0 0) (sym none) (record {
  count = refl;
  taken = sym (ap (λ ts. length (cell_texts ts)) (nothing_written ps));
  few = omega arith;
  texts = ap (λ ts. with_commas (cell_texts ts) ++ text) (sym (nothing_written ps));
  conform = refl;
  stand = nothing_stands ps;
  within = subst (AreCellsWithin levels) (sym (nothing_written ps)) tt;
})

texts-push : (classes : Classes) (cs : List Cell) (c : Cell) → cell_texts (cells_of classes (to_cells (cs ++ c ∷ []))) ≡ cell_texts (cells_of classes (to_cells cs)) ++ cell_text (cell_of classes c) ∷ []
texts-push classes [] c = refl
texts-push classes (x ∷ xs) c = ap (λ ys. cell_text (cell_of classes x) ∷ ys) (texts-push classes xs c)

texts-length : (classes : Classes) (cs : List Cell) → length (cell_texts (cells_of classes (to_cells cs))) ≡ length cs
texts-length classes [] = refl
texts-length classes (x ∷ xs) = ap suc (texts-length classes xs)

conform-push : (classes : Classes) (cs : List Cell) (ps : List Component) (c : Cell) (p : Component) → cells_conform classes (to_cells cs) ps ≡ true → cell_conforms classes c p.shape ≡ true → cells_conform classes (to_cells (cs ++ c ∷ [])) (ps ++ p ∷ []) ≡ true
conform-push classes [] [] c p h k = and_true _ _ k refl
conform-push classes [] (q ∷ qs) c p h k = absurd (cc)
conform-push classes (x ∷ xs) [] c p h k = absurd (cc)
conform-push classes (x ∷ xs) (q ∷ qs) c p h k = let both = and_both (cell_conforms classes x q.shape) (cells_conform classes (to_cells xs) qs) h in and_true _ _ both.0 (conform-push classes xs qs c p both.1 k)

-- with one more cell: the one behind these is fixed, or isn't
written-same : (classes : Classes) (ps : List Component) (cs : List Cell) (c : Cell) → is_fixed_at ps (length cs) ≡ true
    → written ps (cells_of classes (to_cells (cs ++ c ∷ []))) ≡ written ps (cells_of classes (to_cells cs))
written-same classes [] cs c e = absurd cc
written-same classes (p ∷ ps) [] c e = ap (λ b. if b then written ps no_terms_cells else term_cell (cell_of classes c) (written ps no_terms_cells)) e ∙ nothing_written ps
written-same classes (p ∷ ps) (x ∷ xs) c e = ap (λ ys. if is_fixed p then ys else term_cell (cell_of classes x) ys) (written-same classes ps xs c e)

texts-more : (classes : Classes) (ps : List Component) (cs : List Cell) (c : Cell) → is_fixed_at ps (length cs) ≡ false
    → cell_texts (written ps (cells_of classes (to_cells (cs ++ c ∷ [])))) ≡ cell_texts (written ps (cells_of classes (to_cells cs))) ++ cell_text (cell_of classes c) ∷ []
texts-more classes ps cs c free =
    let so_far = cells_of classes (to_cells cs) in
    written_texts ps (cells_of classes (to_cells (cs ++ c ∷ []))) ∙ ap (unfixed ps) (texts-push classes cs c)
    ∙ unfixed-more ps (cell_texts so_far) (cell_text (cell_of classes c)) (ap (is_fixed_at ps) (texts-length classes cs) ∙ free)
    ∙ ap (λ ys. ys ++ cell_text (cell_of classes c) ∷ []) (sym (written_texts ps so_far))

within-push : (classes : Classes) (levels : ℕ) (ps : List Component) (cs : List Cell) (c : Cell) → AreCellsWithin levels (written ps (cells_of classes (to_cells cs)))
    → IsCellWithin levels (cell_of classes c)
    → AreCellsWithin levels (written ps (cells_of classes (to_cells (cs ++ c ∷ []))))
within-push classes levels [] [] c h k = (k, tt)
within-push classes levels [] (x ∷ xs) c h k = (h.0, within-push classes levels [] xs c h.1 k)
within-push classes levels (p ∷ ps) [] c h k = by_fixed (is_fixed p)
  where
    by_fixed : (b : Bool) → AreCellsWithin levels (if b then written ps no_terms_cells else term_cell (cell_of classes c) (written ps no_terms_cells))
    by_fixed true = subst (AreCellsWithin levels) (sym (nothing_written ps)) tt
    by_fixed false = (k, subst (AreCellsWithin levels) (sym (nothing_written ps)) tt)
within-push classes levels (p ∷ ps) (x ∷ xs) c h k = by_fixed (is_fixed p) (λ below. within-push classes levels ps xs c below k) h
  where
    by_fixed : (b : Bool) → (AreCellsWithin levels (written ps (cells_of classes (to_cells xs))) → AreCellsWithin levels (written ps (cells_of classes (to_cells (xs ++ c ∷ [])))))
        → AreCellsWithin levels (if b then written ps (cells_of classes (to_cells xs)) else term_cell (cell_of classes x) (written ps (cells_of classes (to_cells xs))))
        → AreCellsWithin levels (if b then written ps (cells_of classes (to_cells (xs ++ c ∷ []))) else term_cell (cell_of classes x) (written ps (cells_of classes (to_cells (xs ++ c ∷ [])))))
    by_fixed true more below = more below
    by_fixed false more below = (below.0, more below.1)

stand-push : (ps : List Component) (cs : List Cell) (c : Cell) (p : Component) → slice_get ps (length cs) ≡ Some p → stands p c ≡ true → fixed_stand ps (to_cells cs) ≡ true
    → fixed_stand ps (to_cells (cs ++ c ∷ [])) ≡ true
stand-push [] cs c p is here e = absurd cc
stand-push (q ∷ qs) [] c p is here e = and_true _ _ (ap (λ (r : Component). stands r c) (same_Some q p is) ∙ here) (nothing_stands qs)
stand-push (q ∷ qs) (x ∷ xs) c p is here e = let (first, rest) = and_both (stands q x) (fixed_stand qs (to_cells xs)) e in and_true _ _ first (stand-push qs xs c p is here rest)

-- one more element behind a comma, if any stands before it
pub longer : (text old mid new : List ℕ) (ys : List (List ℕ)) (y : List ℕ) (n : ℕ) → n ≡ length ys → text ≡ with_commas ys ++ old → old ≡ separator n ++ mid → mid ≡ y ++ new → text ≡ with_commas (ys ++ y ∷ []) ++ new
longer text old mid new ys y n size front comma one =
    front ∙ ap (λ zs. with_commas ys ++ zs) (comma ∙ ap (λ zs. separator n ++ zs) one ∙ sym (append_assoc (separator n) y new)) ∙ sym (append_assoc (with_commas ys) (separator n ++ y) new)
    ∙ ap (λ zs. zs ++ new) (ap (λ k. with_commas ys ++ (separator k ++ y)) size ∙ sym (with_commas-push ys y))

one_component_more : (ps : List Part) (i : ℕ) (p : Part) → i < length ps → p ≡ get_or ps i p → take (i + 1) (map part_view ps) ≡ take i (map part_view ps) ++ part_view p ∷ []
one_component_more ps i p less is =
    take-map part_view (i + 1) ps ∙ map_more part_view ps i p less ∙ ap (λ q. map part_view (take i ps) ++ part_view q ∷ []) (sym is) ∙ ap (λ qs. qs ++ part_view p ∷ []) (sym (take-map part_view i ps))

-- one more, which is fixed
pub one_fixed_more : (classes : Classes) (text rest : List ℕ) (ps : List Part) (levels i n : ℕ) (cs : List Cell) (p : Part) (d c : Cell) → i < length ps → p ≡ get_or ps i p
    → (part_view p).fixed ≡ Some d
    → HasCells classes text rest (map part_view ps) levels i n cs → cell_conforms classes c (shape_view p.shape) ≡ true → c ≡ d
    → HasCells classes text rest (map part_view ps) levels (i + 1) n (cs ++ c ∷ [])
one_fixed_more classes text rest ps levels i n cs p d c less is fixed so_far conform same =
    let qs = map part_view ps in
    let at' : slice_get qs (length cs) ≡ Some (part_view p) = ap (slice_get qs) so_far.count ∙ component_at ps i p less is in
    let kept = written-same classes qs cs c (ap (λ (o : Option Component). elim o as (λ _. Bool) [ None ↦ false | Some q ↦ is_fixed q ]) at' ∙ ap is_some fixed) in
    let stood : stands (part_view p) c ≡ true = ap (λ (o : Option Cell). elim o as (λ _. Bool) [ None ↦ true | Some x ↦ cell_eq x c ]) fixed ∙ ap (cell_eq d) same ∙ cell_eq-refl d in
    record {
      count = omega (arith, length-append cs (c ∷ []), so_far.count);
      taken = so_far.taken ∙ ap (λ ts. length (cell_texts ts)) (sym kept);
      few = omega (arith, so_far.few);
      texts = so_far.texts ∙ ap (λ ts. with_commas (cell_texts ts) ++ rest) (sym kept);
      conform = ap (cells_conform classes (to_cells (cs ++ c ∷ []))) (one_component_more ps i p less is) ∙ conform-push classes cs (take i qs) c (part_view p) so_far.conform conform;
      stand = stand-push qs cs c (part_view p) at' stood so_far.stand;
      within = subst (AreCellsWithin levels) (sym kept) so_far.within;
    }

-- one more, which is written
pub one_cell_more : (classes : Classes) (text old mid new : List ℕ) (ps : List Part) (levels i n : ℕ) (cs : List Cell) (p : Part) (c : Cell) → i < length ps → p ≡ get_or ps i p
    → (part_view p).fixed ≡ None
    → HasCells classes text old (map part_view ps) levels i n cs → old ≡ separator n ++ mid → IsCellFront classes mid new (shape_view p.shape) levels c
    → HasCells classes text new (map part_view ps) levels (i + 1) (n + 1) (cs ++ c ∷ [])
one_cell_more classes text old mid new ps levels i n cs p c less is free so_far comma one =
    let qs = map part_view ps in
    let at' : slice_get qs (length cs) ≡ Some (part_view p) = ap (slice_get qs) so_far.count ∙ component_at ps i p less is in
    let more = texts-more classes qs cs c (ap (λ (o : Option Component). elim o as (λ _. Bool) [ None ↦ false | Some q ↦ is_fixed q ]) at' ∙ ap is_some free) in
    let stood : stands (part_view p) c ≡ true = ap (λ (o : Option Cell). elim o as (λ _. Bool) [ None ↦ true | Some x ↦ cell_eq x c ]) free in
    let before = cell_texts (written qs (cells_of classes (to_cells cs))) in
    record {
      count = omega (arith, length-append cs (c ∷ []), so_far.count);
      taken = one_longer before _ (cell_text (cell_of classes c)) n so_far.taken more;
      few = omega (arith, so_far.few);
      texts = longer text old mid new before (cell_text (cell_of classes c)) n so_far.taken so_far.texts comma one.0 ∙ ap (λ ys. with_commas ys ++ new) (sym more);
      conform = ap (cells_conform classes (to_cells (cs ++ c ∷ []))) (one_component_more ps i p less is) ∙ conform-push classes cs (take i qs) c (part_view p) so_far.conform one.1;
      stand = stand-push qs cs c (part_view p) at' stood so_far.stand;
      within = within-push classes levels qs cs c so_far.within one.2;
    }

pub all_cells : (classes : Classes) (text old new : List ℕ) (ps : List Part) (levels i n : ℕ) (cs : List Cell) → length ps ≤ i → HasCells classes text old (map part_view ps) levels i n cs
    → old ≡ 41 ∷ new → AreCellsFront classes text new (map part_view ps) levels (to_cells cs)
all_cells classes text old new ps levels i n cs most so_far ends =
    let all : take i (map part_view ps) ≡ map part_view ps = take_all i (map part_view ps) (omega (arith, length-map ps part_view, most)) in (
      so_far.texts ∙ ap (λ ys. with_commas (cell_texts (written (map part_view ps) (cells_of classes (to_cells cs)))) ++ ys) ends,
      sym (ap (cells_conform classes (to_cells cs)) all) ∙ so_far.conform,
      so_far.stand,
      so_far.within,
    )

-- the trees of a list so far ------------------------------------------------------------------------------------------

abbrev pub HasTrees : Classes → List ℕ → List ℕ → ℕ → ℕ → List Tree → Type 0
HasTrees classes text rest b levels ts =
    (0 < length ts) × (text ≡ 91 ∷ (with_commas (term_texts (terms_of classes (to_trees ts))) ++ rest)) × (trees_conform classes (to_trees ts) b ≡ true) × AreTermsWithin levels (terms_of classes (to_trees ts))

trees-push : (classes : Classes) (ts : List Tree) (t : Tree) → term_texts (terms_of classes (to_trees (ts ++ t ∷ []))) ≡ term_texts (terms_of classes (to_trees ts)) ++ tree_text classes t ∷ []
trees-push classes [] t = refl
trees-push classes (x ∷ xs) t = ap (λ ys. tree_text classes x ∷ ys) (trees-push classes xs t)

trees-length : (classes : Classes) (ts : List Tree) → length (term_texts (terms_of classes (to_trees ts))) ≡ length ts
trees-length classes [] = refl
trees-length classes (x ∷ xs) = ap suc (trees-length classes xs)

all_conform-push : (classes : Classes) (b : ℕ) (ts : List Tree) (t : Tree) → trees_conform classes (to_trees ts) b ≡ true → conforms classes t b ≡ true → trees_conform classes (to_trees (ts ++ t ∷ [])) b ≡ true
all_conform-push classes b [] t h k = and_true _ _ k refl
all_conform-push classes b (x ∷ xs) t h k = let both = and_both (conforms classes x b) (trees_conform classes (to_trees xs) b) h in and_true _ _ both.0 (all_conform-push classes b xs t both.1 k)

all_within-push : (classes : Classes) (levels : ℕ) (ts : List Tree) (t : Tree) → AreTermsWithin levels (terms_of classes (to_trees ts)) → IsTermWithin levels (term_of classes t) → AreTermsWithin levels (terms_of classes (to_trees (ts ++ t ∷ [])))
all_within-push classes levels [] t h k = (k, tt)
all_within-push classes levels (x ∷ xs) t h k = (h.0, all_within-push classes levels xs t h.1 k)

pub first_tree : (classes : Classes) (text mid new : List ℕ) (b levels : ℕ) (ts : List Tree) (t : Tree) → text ≡ 91 ∷ mid → IsTreeFront classes mid new b levels t → ts ≡ t ∷ [] → HasTrees classes text new b levels ts
first_tree classes text mid new b levels ts t begins one is = subst (HasTrees classes text new b levels) (sym is) (omega arith, begins ∙ ap (λ ys. 91 ∷ ys) one.0, and_true _ _ one.1 refl, (one.2, tt))

pub one_tree_more : (classes : Classes) (text old mid new : List ℕ) (b levels : ℕ) (ts : List Tree) (t : Tree) → HasTrees classes text old b levels ts → old ≡ 44 ∷ mid → IsTreeFront classes mid new b levels t → HasTrees classes text new b levels (ts ++ t ∷ [])
one_tree_more classes text old mid new b levels ts t so_far comma one =
    let texts = longer (with_commas (term_texts (terms_of classes (to_trees ts))) ++ old) old mid new (term_texts (terms_of classes (to_trees ts))) (tree_text classes t) (length ts) (sym (trees-length classes ts)) refl (comma ∙ ap (λ zs. zs ++ mid) (sym (behind (length ts) so_far.0))) one.0 in (
      omega (arith, length-append ts (t ∷ [])),
      so_far.1 ∙ ap (λ ys. 91 ∷ ys) (texts ∙ ap (λ ys. with_commas ys ++ new) (sym (trees-push classes ts t))),
      all_conform-push classes b ts t so_far.2 one.1,
      all_within-push classes levels ts t so_far.3 one.2,
    )
  where
    behind : (n : ℕ) → 0 < n → separator n ≡ 44 ∷ []
    behind zero h = absurd (omega (arith, h))
    behind (suc n) h = refl

pub whole_list : (classes : Classes) (text old new : List ℕ) (b levels : ℕ) (ts : List Tree) → HasTrees classes text old b levels ts → old ≡ 93 ∷ new → IsCellFront classes text new (class.Many b) levels (Many (to_trees ts))
whole_list classes text old new b levels ts so_far ends =
    let texts = with_commas (term_texts (terms_of classes (to_trees ts))) in
    (so_far.1 ∙ ap (λ ys. 91 ∷ (texts ++ ys)) ends ∙ ap (λ ys. 91 ∷ ys) (sym (append_assoc texts (93 ∷ []) new)), so_far.2, so_far.3)

pub empty_list : (classes : Classes) (text mid new : List ℕ) (b levels : ℕ) (ts : List Tree) → text ≡ 91 ∷ mid → mid ≡ 93 ∷ new → ts ≡ [] → IsCellFront classes text new (class.Many b) levels (Many (to_trees ts))
empty_list classes text mid new b levels ts begins ends none = subst (λ (us : List Tree). IsCellFront classes text new (class.Many b) levels (Many (to_trees us))) (sym none) (begins ∙ ap (λ ys. 91 ∷ ys) ends, refl, tt)

-- what is left is shorter
pub shorter : (classes : Classes) (old mid new : List ℕ) (b levels : ℕ) (t : Tree) → old ≡ 44 ∷ mid → IsTreeFront classes mid new b levels t → length new < length old
shorter classes old mid new b levels t comma one = omega (arith, ap length comma, ap length one.0, length-append (tree_text classes t) new)

-- numbers -------------------------------------------------------------------------------------------------------------
