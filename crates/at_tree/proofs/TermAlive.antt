-- Each partial term can be completed.
use Rattle.std.proofs.Common.{◌≡◌, ℕ, ◌<◌, Bool, true, false, ◌&&◌, ◌||◌, nat_eq, List, [], ◌∷◌, ◌++◌, length, take, drop, Option, Some, None, refl, ap, sym, ◌∙◌, subst, append_assoc, append-nil, lit<, arith}
use Rattle.std.specs.Prelude.{IsUtf8, codes}
use Rattle.std.specs.List.{flat_map, starts_with}
use Rattle.std.proofs.lemmas.Grind.{flat_map-append}
use Rattle.std.proofs.lemmas.List.{take-append-drop}
use Rattle.std.proofs.lemmas.Slice.Eq.{bytes_eq-Decides}
use Rattle.std.proofs.lemmas.Str.{IsUtf8-append}
use Rattle.at_model.specs.Names.{is_name}
use Rattle.at_model.specs.Texts.{escaped}
use Rattle.at_model.specs.Trees.{Text, Int, Truth}
use Rattle.at_model.specs.Terms.{Term, Node, no_cells, Cell, One, Many, Empty, Holds, no_terms, term_text, cell_text, token_text, IsTerm, IsTermWithin, IsCellWithin, AreTermsWithin}
use Rattle.at_model.proofs.Options.{both}
use Rattle.at_tree.specs.Stops.{IsFront}
use Rattle.at_tree.specs.View.{to_cells, to_terms}
use Rattle.at_tree.specs.Partial.{Level, Place, Start, InWord, Dash, Digits, InText, Escape, Whole, Item, Done, Partial, integer, takes_cell, can_open, begins_truth}
use Rattle.at_tree.proofs.Machine.{IsTextOf}
use Rattle.at_tree.proofs.Pieces.{utf8_ascii, longer_name, shortest_name}
use Rattle.at_tree.proofs.TermSpelled.{openings, place_text, spelled, cell_texts_of, term_texts_of}
use Rattle.at_tree.proofs.TermSteps.{room, LevelsFit, TakesCell, PlaceFits, PartialFits, cells_fit_push, terms_fit_push, node_fits, opens, takes, integer_text, integer_fits}

-- the text goes on to that of a whole term
pub record GoesOn (front : List ℕ) : Type 0 where
  pub whole : Term
  pub rest : List ℕ
  pub fits : IsTerm whole
  pub text : term_text whole ≡ front ++ rest

goes_by : (front more : List ℕ) (same : List ℕ) → GoesOn same → same ≡ front ++ more → GoesOn front
goes_by front more same g e = record { whole = g.whole; rest = more ++ g.rest; fits = g.fits; text = g.text ∙ rw e (simp append_assoc) }

cell_in : (f : Level) (fs : List Level) (x : Cell) → f.items ≡ None → LevelsFit (f ∷ fs) → IsCellWithin (room (f ∷ fs)) x → ((u : Term) → IsTermWithin (room fs) u → GoesOn (openings fs ++ term_text u)) → GoesOn (openings (f ∷ fs) ++ cell_text x)
cell_in f fs x is l h more =
    let u : Term = Node f.name (to_cells (f.cells ++ x ∷ [])) in
    goes_by _ (41 ∷ []) (openings fs ++ term_text u) (more u (node_fits fs f.name _ l.0 l.1.name l.1.utf8 (cells_fit_push _ f.cells x l.1.cells h)))
    (rw (is, cell_texts_of f.cells x) (simp append_assoc))

term_in : (f : Level) (fs : List Level) (t : Term) (items : Option (List Term)) → f.items ≡ items → LevelsFit (f ∷ fs) → IsTermWithin (room (f ∷ fs)) t → ((u : Term) → IsTermWithin (room fs) u → GoesOn (openings fs ++ term_text u)) → GoesOn (openings (f ∷ fs) ++ term_text t)
term_in f fs t None is l h more = cell_in f fs (One t) is l h more
term_in f fs t (Some ts) is l h more =
    let x : Cell = Many (to_terms (ts ++ t ∷ [])) in
    let u : Term = Node f.name (to_cells (f.cells ++ x ∷ [])) in
    let fit : AreTermsWithin (room (f ∷ fs)) (to_terms ts) = rw is at l.1.items in
    goes_by _ (93 ∷ 41 ∷ []) (openings fs ++ term_text u) (more u (node_fits fs f.name _ l.0 l.1.name l.1.utf8 (cells_fit_push _ f.cells x l.1.cells (terms_fit_push _ ts t fit h))))
    (rw (is, cell_texts_of f.cells x, term_texts_of ts t) (simp append_assoc))

-- an empty list
list_in : (f : Level) (fs : List Level) → f.items ≡ Some [] → LevelsFit (f ∷ fs) → ((u : Term) → IsTermWithin (room fs) u → GoesOn (openings fs ++ term_text u)) → GoesOn (openings (f ∷ fs) ++ [])
list_in f fs is l more =
    let u : Term = Node f.name (to_cells (f.cells ++ Many no_terms ∷ [])) in
    goes_by _ (93 ∷ 41 ∷ []) (openings fs ++ term_text u) (more u (node_fits fs f.name _ l.0 l.1.name l.1.utf8 (cells_fit_push _ f.cells (Many no_terms) l.1.cells tt)))
    (rw (is, cell_texts_of f.cells (Many no_terms)) (simp append_assoc))

after_term : (fs : List Level) (t : Term) → LevelsFit fs → IsTermWithin (room fs) t → GoesOn (openings fs ++ term_text t)
after_term [] t l h = record { whole = t; rest = []; fits = h; text = sym (simp append-nil) }
after_term (f ∷ fs) t l h = term_in f fs t f.items refl l h (λ u g. after_term fs u l.2 g)

after_cell : (fs : List Level) (x : Cell) → LevelsFit fs → TakesCell fs → IsCellWithin (room fs) x → GoesOn (openings fs ++ cell_text x)
after_cell [] x l takes h = absurd takes
after_cell (f ∷ fs) x l takes h = cell_in f fs x takes l h (λ u g. after_term fs u l.2 g)

-- words: a name by an underscore and parentheses, and else true or false by the rest of it
after_name : (fs : List Level) (name : List ℕ) → LevelsFit fs → is_name name ≡ true → IsUtf8 name → length fs < 512 → GoesOn (openings fs ++ name)
after_name fs name l n u less = goes_by _ (40 ∷ 41 ∷ []) (openings fs ++ term_text (Node name no_cells)) (after_term fs (Node name no_cells) l (node_fits fs name no_cells less n u tt)) (simp append_assoc)

begun : (word truth : List ℕ) → starts_with nat_eq truth word ≡ true → truth ≡ word ++ drop (length word) truth
begun word truth e =
    let front : word ≡ take (length word) truth = (bytes_eq-Decides word (take (length word) truth)).0 e in
    sym (take-append-drop (length word) truth) ∙ ap (λ y. y ++ drop (length word) truth) (sym front)

after_truth : (fs : List Level) (word : List ℕ) (b : Bool) → LevelsFit fs → TakesCell fs → starts_with nat_eq (token_text (Truth b)) word ≡ true → GoesOn (openings fs ++ word)
after_truth fs word b l takes e = goes_by _ (drop (length word) (token_text (Truth b))) (openings fs ++ token_text (Truth b)) (after_cell fs (Holds (Truth b)) l takes tt)
    (ap (λ y. openings fs ++ y) (begun word (token_text (Truth b)) e) ∙ sym (append_assoc (openings fs) word _))

after_word : (fs : List Level) (word : List ℕ) → LevelsFit fs → PlaceFits fs (InWord word) → GoesOn (openings fs ++ word)
after_word fs word l p = decide (can_open fs) refl p.2
  where
    either : (a b : Bool) → a ≡ starts_with nat_eq (codes "true") word → (a || b) ≡ true → b ≡ starts_with nat_eq (codes "false") word → TakesCell fs → GoesOn (openings fs ++ word)
    either true b is e so t = after_truth fs word true l t (sym is)
    either false b is e so t = after_truth fs word false l t (sym so ∙ e)

    decide : (b : Bool) → can_open fs ≡ b → (b || (takes_cell fs && begins_truth word)) ≡ true → GoesOn (openings fs ++ word)
    decide true e h = goes_by _ (95 ∷ []) (openings fs ++ (word ++ 95 ∷ [])) (after_name fs (word ++ 95 ∷ []) l (longer_name word p.1 p.0) (IsUtf8-append word (95 ∷ []) p.1 (utf8_ascii 95 (lit< tt))) (opens fs e)) (simp append_assoc)
    decide false e h = let q = both (takes_cell fs) (begins_truth word) h in either (starts_with nat_eq (codes "true") word) (starts_with nat_eq (codes "false") word) refl q.1 refl (takes fs q.0)

after_text : (fs : List Level) (text more : List ℕ) → LevelsFit fs → TakesCell fs → IsUtf8 (text ++ more) → GoesOn (openings fs ++ (34 ∷ (flat_map escaped text ++ flat_map escaped more)))
after_text fs text more l takes u = goes_by _ (34 ∷ []) (openings fs ++ cell_text (Holds (Text (text ++ more)))) (after_cell fs (Holds (Text (text ++ more))) l takes u) (rw (flat_map-append escaped text more) (simp append_assoc))

start_in : (f : Level) (fs : List Level) (items : Option (List Term)) → f.items ≡ items → LevelsFit (f ∷ fs) → GoesOn (openings (f ∷ fs) ++ [])
start_in f fs None is l = goes_by _ (45 ∷ []) (openings (f ∷ fs) ++ cell_text Empty) (after_cell (f ∷ fs) Empty l is tt) (simp append_assoc)
start_in f fs (Some []) is l = list_in f fs is l (λ u g. after_term fs u l.2 g)
start_in f fs (Some (t ∷ ts)) is l =
    let fit : AreTermsWithin (room (f ∷ fs)) (to_terms (t ∷ ts)) = rw is at l.1.items in
    goes_by _ (term_text t) (openings (f ∷ fs) ++ term_text t) (after_term (f ∷ fs) t l fit.0) (simp append_assoc)

alive_at : (fs : List Level) (place : Place) → LevelsFit fs → PlaceFits fs place → GoesOn (openings fs ++ place_text place)
alive_at [] Start l p = goes_by _ (95 ∷ []) (95 ∷ []) (after_name [] (95 ∷ []) l shortest_name (utf8_ascii 95 (lit< tt)) (omega arith)) refl
alive_at (f ∷ fs) Start l p = start_in f fs f.items refl l
alive_at fs (InWord word) l p = after_word fs word l p
alive_at fs Dash l p = after_cell fs Empty l p tt
alive_at fs (Digits minus n) l p = subst (λ y. GoesOn (openings fs ++ y)) (integer_text minus n p.2) (after_cell fs (Holds (Int (integer minus n))) l p.0 (integer_fits minus n p.1 p.2))
alive_at fs (InText text) l p = subst (λ y. GoesOn (openings fs ++ (34 ∷ y))) (append-nil (flat_map escaped text)) (after_text fs text [] l p.0 (rw (append-nil text) p.1))
alive_at fs (Escape text) l p = goes_by _ (110 ∷ []) (openings fs ++ (34 ∷ (flat_map escaped text ++ 92 ∷ 110 ∷ []))) (after_text fs text (10 ∷ []) l p.0 (IsUtf8-append text (10 ∷ []) p.1 (utf8_ascii 10 (lit< tt)))) (simp append_assoc)
alive_at fs (Whole x) l p = after_cell fs x l p.0 p.1
alive_at fs (Item t) l p = after_term fs t l p.1
alive_at [] (Done t) l p = after_term [] t l p.1
alive_at (f ∷ fs) (Done t) l p = absurd p.0

pub alive : (p : Partial) → PartialFits p → IsFront (IsTextOf IsTerm term_text) (spelled p)
alive p f = let g = alive_at p.levels p.place f.levels f.place in (g.rest, (g.whole, g.fits, g.text))
