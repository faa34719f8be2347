-- What the terms of constants make of classes.
use Rattle.std.proofs.Common.{◌≡◌, ◌∙◌, ℕ, ◌+◌, ◌<◌, ◌≤◌, Bool, true, false, ◌&&◌, List, [], ◌∷◌, ◌++◌, length, get_or, Option, Some, None, is_none, is_some, not, Result, if◌then◌else◌, refl, sym, ap, subst, true≢false, add-one}
use Rattle.std.specs.Option.{option_map, option_and_then}
use Rattle.std.proofs.Math.Seq.{drop-cons}
use Rattle.std.proofs.lemmas.List.{drop_all}
use Rattle.std.proofs.lemmas.Option.{none-some, same_Some}
use Rattle.at_model.specs.Classes.{Classes, AreSound, class_of_name}
use Rattle.at_model.specs.Terms.{Term}
use Rattle.at_model.specs.Trees.{Tree, Trees, Cell, to_trees, tree}
use Rattle.at_model.specs.Shaping.{cell_names_classes, names_classes, shaped}
use Rattle.at_model.proofs.of_texts.Shaped.{shaped_conforms, conforms_shaped}
use Rattle.at_tree.specs.Shape.{IsShaped}
use Rattle.at_tree.specs.View.{term_view}
use Rattle.at_tree.specs.declared.term.Term.{Term as TermValue}
use Rattle.at_tree.proofs.ShapeLaws.{found-is}
use Rattle.at_tree.proofs.Shaping.{onto_trees, terms_known_from, trees_from, trees_from-end, trees_from-more}
use Rattle.at_start.specs.Constants.{Placed, cell_under}
use Rattle.at_start.specs.ConstantFaults.{Finds, Refusal, misfit, misshapen, refusal, term_code, unknown_at}
use Rattle.at_start.specs.Unmade.{IsUnknown, IsUnmade}
use Rattle.at_start.specs.declared.constants.shaping.CellFault.{CellFault}
use Rattle.at_start.specs.declared.constants.shaping.CellFault.TheVariants.{Class, Fit, Memory}
use Rattle.at_start.specs.declared.code.Code.TheVariants as code
use Rattle.at_start.specs.declared.fault.StartFault.{StartFault}

pub shaped_is : (classes : Classes) → AreSound classes → (t : Term) (b : ℕ) (u : Tree) → IsShaped classes t b u → shaped classes t b ≡ Some u
shaped_is classes sound t b u s = ap (λ w. shaped classes w b) (sym s.written) ∙ (conforms_shaped classes sound.distinct u b s.conforms).0

-- what is shaped names classes
known : (classes : Classes) → AreSound classes → (t : Term) (b : ℕ) (u : Tree) → shaped classes t b ≡ Some u → names_classes classes t ≡ true
known classes sound t b u is =
    let both = shaped_conforms classes t b u is in
    ap (names_classes classes) (sym both.1) ∙ (conforms_shaped classes sound.distinct u b both.0).1

pub unknown_none : (classes : Classes) → AreSound classes → (t : Term) (b : ℕ) → names_classes classes t ≡ false → shaped classes t b ≡ None
unknown_none classes sound t b unknown = by (shaped classes t b) refl
  where
    by : (o : Option Tree) → shaped classes t b ≡ o → o ≡ None
    by None is = refl
    by (Some u) is = absurd (true≢false (sym (known classes sound t b u is) ∙ unknown))

pub unfit_none : (classes : Classes) (t : Term) (b : ℕ) → ((u : Tree) → ¬ (IsShaped classes t b u)) → shaped classes t b ≡ None
unfit_none classes t b none = by (shaped classes t b) refl
  where
    by : (o : Option Tree) → shaped classes t b ≡ o → o ≡ None
    by None is = refl
    by (Some u) is = absurd (none u (found-is classes t b u is))

-- ---- lists of terms

-- the names of the terms in front are known; and these are their trees, or one of them makes none
abbrev pub AreMade : Classes → List TermValue → ℕ → ℕ → Bool → List Tree → Type 0
AreMade classes xs b i fit done =
    (terms_known_from classes xs 0 ≡ terms_known_from classes xs i)
    × (trees_from classes xs b 0 ≡ (if fit then option_map (onto_trees done) (trees_from classes xs b i) else None))

module _ (classes : Classes) (xs : List TermValue) (b : ℕ) where
  pub made_first : AreMade classes xs b 0 true []
  made_first = (refl, by (trees_from classes xs b 0))
    where
      by : (o : Option Trees) → o ≡ option_map (onto_trees []) o
      by None = refl
      by (Some us) = refl

  module _ (i : ℕ) (x : TermValue) (less : i < length xs) (is : x ≡ get_or xs i x) where
    known_here : terms_known_from classes xs i ≡ (names_classes classes (term_view x) && terms_known_from classes xs (i + 1))
    known_here = rw (drop-cons xs i x less, ← is, add-one) refl

    trees_here : trees_from classes xs b i ≡ option_and_then (λ u. option_map (tree u) (trees_from classes xs b (i + 1))) (shaped classes (term_view x) b)
    trees_here = rw (drop-cons xs i x less, ← is, add-one) refl

    known_more : names_classes classes (term_view x) ≡ true → terms_known_from classes xs 0 ≡ terms_known_from classes xs i
        → terms_known_from classes xs 0 ≡ terms_known_from classes xs (i + 1)
    known_more named so_far = so_far ∙ known_here ∙ ap (λ t. t && terms_known_from classes xs (i + 1)) named

    -- what isn't made leaves nothing made
    none_here : (fit : Bool) (done : List Tree) → shaped classes (term_view x) b ≡ None
        → trees_from classes xs b 0 ≡ (if fit then option_map (onto_trees done) (trees_from classes xs b i) else None) → trees_from classes xs b 0 ≡ None
    none_here false done none so_far = so_far
    none_here true done none so_far =
        so_far ∙ ap (option_map (onto_trees done)) (trees_here ∙ ap (option_and_then (λ u. option_map (tree u) (trees_from classes xs b (i + 1)))) none)

    -- one more is made
    pub made_more : (fit made : Bool) (done more : List Tree) → made ≡ true → names_classes classes (term_view x) ≡ true
        → option_map (λ u. done ++ u ∷ []) (shaped classes (term_view x) b) ≡ (if made then Some more else None)
        → AreMade classes xs b i fit done → AreMade classes xs b (i + 1) fit more
    made_more fit false done more is_made named added so_far = absurd (true≢false (sym is_made))
    made_more fit true done more is_made named added so_far = (known_more named so_far.0, by fit (shaped classes (term_view x) b) refl added so_far.1)
      where
        by : (fit : Bool) (o : Option Tree) → shaped classes (term_view x) b ≡ o → option_map (λ u. done ++ u ∷ []) o ≡ Some more
            → trees_from classes xs b 0 ≡ (if fit then option_map (onto_trees done) (trees_from classes xs b i) else None)
            → trees_from classes xs b 0 ≡ (if fit then option_map (onto_trees more) (trees_from classes xs b (i + 1)) else None)
        by false o found added' all = all
        by true None found added' all = absurd (none-some more added')
        by true (Some u) found added' all =
            trees_from-more classes xs b i x done u _ less is found all
            ∙ ap (λ ts. option_map (onto_trees ts) (trees_from classes xs b (i + 1))) (same_Some _ _ added')

    -- it makes none
    pub made_none : (fit made : Bool) (done more : List Tree) → made ≡ false → names_classes classes (term_view x) ≡ true
        → option_map (λ u. done ++ u ∷ []) (shaped classes (term_view x) b) ≡ (if made then Some more else None)
        → AreMade classes xs b i fit done → AreMade classes xs b (i + 1) false more
    made_none fit true done more is_made named added so_far = absurd (true≢false is_made)
    made_none fit false done more is_made named added so_far =
        (known_more named so_far.0, none_here fit done (by (shaped classes (term_view x) b) added) so_far.1)
      where
        by : (o : Option Tree) → option_map (λ u. done ++ u ∷ []) o ≡ None → o ≡ None
        by None none = refl
        by (Some u) none = absurd (none-some _ (sym none))

    -- a name in it isn't known
    pub made_unknown : (fit : Bool) (done : List Tree) (e : CellFault) → AreMade classes xs b i fit done
        → IsUnknown (names_classes classes (term_view x)) (shaped classes (term_view x) b) e
        → IsUnmade (terms_known_from classes xs 0) (trees_from classes xs b 0) e
    made_unknown fit done Class so_far unknown =
        (so_far.0 ∙ known_here ∙ ap (λ t. t && terms_known_from classes xs (i + 1)) unknown.0, none_here fit done unknown.1 so_far.1)
    made_unknown fit done Fit so_far unknown = absurd unknown
    made_unknown fit done Memory so_far unknown = tt

  module _ (i : ℕ) (past : length xs ≤ i) (fit : Bool) (done : List Tree) (so_far : AreMade classes xs b i fit done) where
    pub made_all : fit ≡ true → trees_from classes xs b 0 ≡ Some (to_trees done)
    made_all is =
        trees_from-end classes xs b i done _ past
        (so_far.1 ∙ ap (λ t. if t then option_map (onto_trees done) (trees_from classes xs b i) else None) is)

    pub made_not_all : fit ≡ false → (terms_known_from classes xs 0 ≡ true) × (trees_from classes xs b 0 ≡ None)
    made_not_all is = (
      so_far.0 ∙ rw (drop_all i xs past) refl,
      so_far.1 ∙ ap (λ t. if t then option_map (onto_trees done) (trees_from classes xs b i) else None) is,
    )

-- ---- what is told of a cell

module _ (classes : Classes) (k : Placed) (b : ℕ) (there : class_of_name classes k.constant.kind.text ≡ Some b) where
  by_kind : misfit classes k ≡ (if is_none (cell_under classes k.constant.cell b) then Some (refusal k (term_code classes k.constant) k.constant.at) else None)
  by_kind = ap (λ (o : Option ℕ). elim o as (λ _. Option Refusal) [
    | None ↦ Some (refusal k code.UnknownName k.constant.kind.at)
    | Some c ↦ if is_none (cell_under classes k.constant.cell c) then Some (refusal k (term_code classes k.constant) k.constant.at) else None
  ]) there

  pub fit : (d : Cell) → cell_under classes k.constant.cell b ≡ Some d → misfit classes k ≡ None
  fit d is = by_kind ∙ ap (λ (o : Option Cell). if is_none o then Some (refusal k (term_code classes k.constant) k.constant.at) else None) is

  unfit : cell_under classes k.constant.cell b ≡ None → misfit classes k ≡ Some (refusal k (term_code classes k.constant) k.constant.at)
  unfit is = by_kind ∙ ap (λ (o : Option Cell). if is_none o then Some (refusal k (term_code classes k.constant) k.constant.at) else None) is

  pub unfit_unknown : cell_under classes k.constant.cell b ≡ None → cell_names_classes classes k.constant.cell ≡ false
      → misfit classes k ≡ Some (refusal k code.UnknownName k.constant.at)
  unfit_unknown is unknown = unfit is ∙ ap (λ t. Some (refusal k (if t then code.Kind else code.UnknownName) k.constant.at)) unknown

  pub unfit_kind : cell_under classes k.constant.cell b ≡ None → cell_names_classes classes k.constant.cell ≡ true
      → misfit classes k ≡ Some (refusal k code.Kind k.constant.at)
  unfit_kind is known = unfit is ∙ ap (λ t. Some (refusal k (if t then code.Kind else code.UnknownName) k.constant.at)) known

-- ---- its class

-- what is told of a constant whose class is that one, or none
abbrev by_class : Classes → Placed → Option ℕ → Option Refusal
by_class classes k o = elim o as (λ _. Option Refusal) [
  | None ↦ Some (refusal k code.UnknownName (unknown_at classes k.constant))
  | Some c ↦ misfit classes k
]

module _ (classes : Classes) (k : Placed) (class : Option ℕ) (none : Bool)
    (is : class_of_name classes k.constant.class.text ≡ class) (some : is_some class ≡ not none) where
  pub where_declared : {T : Type 0} (result : Result T StartFault) → none ≡ false → Finds (misfit classes k) result
      → Finds (misshapen classes k) result
  where_declared result off found = by class refl
    where
      by : (o : Option ℕ) → class ≡ o → Finds (misshapen classes k) result
      by None at = absurd (true≢false (sym (ap is_some (sym at) ∙ some ∙ ap not off)))
      by (Some c) at = subst (λ (o : Option Refusal). Finds o result) (sym (ap (by_class classes k) (is ∙ at))) found

  pub unknown_class : none ≡ true
      → misshapen classes k ≡ Some (refusal k code.UnknownName (unknown_at classes k.constant))
  unknown_class on = by class refl
    where
      by : (o : Option ℕ) → class ≡ o
          → misshapen classes k ≡ Some (refusal k code.UnknownName (unknown_at classes k.constant))
      by None at = ap (by_class classes k) (is ∙ at)
      by (Some c) at = absurd (true≢false (ap is_some (sym at) ∙ some ∙ ap not on))
