-- Where the nodes of a tree come from after a change of one cell, and where the numbers stand then.
use Rattle.std.proofs.Common.{◌≡◌, ℕ, Bool, true, false, nat_eq, if◌then◌else◌, [], ◌∷◌, ◌++◌, Option, Some, None, ◌⊎◌, inl, inr, refl, sym, ap, ◌∙◌, subst, option_and_then, option_map}
use Rattle.std.specs.List.{slice_get}
use Rattle.std.proofs.lemmas.Bool.{eqb-true}
use Rattle.at_model.specs.Trees.{Tree, Cell, class_of, children}
use Rattle.at_model.specs.Paths.{Node, tree_at, cell_at, children_at, step_eq}
use Rattle.at_model.specs.Edits.{with_child, with_cell, with_node, moved_under}
use Rattle.at_model.proofs.Options.{led}
use Rattle.at_model.proofs.Nodes.{step_eq-sound, step_eq-refl}
use Rattle.at_model.proofs.of_edits.Moving.{Way, KeepsParts, moved-nil}
use Rattle.at_model.proofs.of_edits.Untouched.{in_cell as kids, cell-same, cell-other, step-same, step-other, by_nat, FitsAt, cell_there}
use Rattle.at_store.specs.Numbers.{path_in, IsApart}
use Rattle.at_store.proofs.Found.{number_found, named}

module _ (g : Cell → Cell) (part : ℕ) (past : Way → Option Way) (IsNew : Tree → ℕ → Type 0) where
  -- each child was a child that is moved there, or is new there
  abbrev pub OriginsOf : Cell → Type 0
  OriginsOf c = (j : ℕ) (x : Tree) → slice_get (children (g c)) j ≡ Some x → ((i : ℕ) × (slice_get (children c) i ≡ Some x) × (past (part, i) ≡ Some (part, j))) ⊎ IsNew x j

  abbrev pub OriginsAt : Tree → Node → Type 0
  OriginsAt t p = (u : Tree) (c : Cell) → tree_at t p ≡ Some u → cell_at u part ≡ Some c → OriginsOf c

  -- where the tree at a node comes from
  pub data From (t : Tree) (p m : Node) (w : Tree) : Type 0 where
    old : (n : Node) (v : Tree) → moved_under p past n ≡ Some m → tree_at t n ≡ Some v → From t p m w
    new : (x : Tree) (j : ℕ) (rest : Node) → IsNew x j → m ≡ p ++ (part, j) ∷ rest → tree_at x rest ≡ Some w → From t p m w

  at_part : (j : ℕ) (ss : Node) (t w : Tree) → OriginsAt t [] → tree_at (with_cell g part t) ((part, j) ∷ ss) ≡ Some w → From t [] ((part, j) ∷ ss) w
  at_part j ss t w o e =
      let (x, child, under) = led (λ v. tree_at v ss) (slice_get (children_at (with_cell g part t) part) j) w e in
      at_cell x under (cell_at t part) refl (ap (λ c. slice_get (kids c) j) (sym (cell-same g part t)) ∙ child)
    where
      by_source : (x : Tree) → tree_at x ss ≡ Some w → (c : Cell) → cell_at t part ≡ Some c
          → ((i : ℕ) × (slice_get (children c) i ≡ Some x) × (past (part, i) ≡ Some (part, j))) ⊎ IsNew x j
          → From t [] ((part, j) ∷ ss) w
      by_source x under c is (inl (i, was, moves)) =
          old ((part, i) ∷ ss) w (ap (option_map (λ (u : Way). u ∷ ss)) moves)
          (ap (λ c. option_and_then (λ v. tree_at v ss) (slice_get (kids c) i)) is ∙ ap (option_and_then (λ v. tree_at v ss)) was ∙ under)
      by_source x under c is (inr fresh) = new x j ss fresh refl under

      at_cell : (x : Tree) → tree_at x ss ≡ Some w → (c : Option Cell) → cell_at t part ≡ c → slice_get (kids (option_map g c)) j ≡ Some x → From t [] ((part, j) ∷ ss) w
      at_cell x under None is child = absurd cc
      at_cell x under (Some c) is child = by_source x under c is (o t c refl is j x child)

  module _ (keeps : KeepsParts past part) where
    not_eq : (a b : ℕ) → (a ≡ b → ⊥) → nat_eq a b ≡ false
    not_eq a b h = by_test (nat_eq a b) refl
      where
        by_test : (t : Bool) → nat_eq a b ≡ t → t ≡ false
        by_test true e = absurd (h (eqb-true a b e))
        by_test false e = refl

    pub origin : (p m : Node) (t w : Tree) → OriginsAt t p → tree_at (with_node (with_cell g part) t p) m ≡ Some w → From t p m w
    origin p [] t w o e = old [] t (moved-nil past p) refl
    origin [] (s ∷ ss) t w o e =
        by_nat part s.0 _
        (λ same. let way : (let x : Way = (part, s.1) in x) ≡ s = λ i. (same i, s.1) in
        subst (λ (r : Way). From t [] (r ∷ ss) w) way
        (at_part s.1 ss t w o (subst (λ (r : Way). tree_at (with_cell g part t) (r ∷ ss) ≡ Some w) (sym way) e)))
        (λ n. old (s ∷ ss) w (ap (option_map (λ (u : Way). u ∷ ss)) (keeps.other s (not_eq part s.0 n))) (ap (λ c.
        option_and_then (λ v. tree_at v ss) (slice_get (kids c) s.1)) (sym (cell-other g part s.0 t n)) ∙ e))
    origin (a ∷ p) (s ∷ ss) t w o e = by_step (step_eq a s) refl (λ v h. origin p ss v w h)
      where
        H : Tree → Tree
        H v = with_node (with_cell g part) v p

        within : (v : Tree) → slice_get (children_at t a.0) a.1 ≡ Some v → From v p ss w → From t (a ∷ p) (a ∷ ss) w
        within v is (old n x moves found) =
            old (a ∷ n) x (ap (λ (b : Bool). if b then option_map (λ (us : Node). a ∷ us) (moved_under p past n) else Some (a ∷ n)) (step_eq-refl a) ∙ ap (option_map (λ (us : Node). a ∷ us)) moves)
            (ap (option_and_then (λ u. tree_at u n)) is ∙ found)
        within v is (new x j rest fresh at' found) = new x j rest fresh (ap (λ (us : Node). a ∷ us) at') found

        at_child : (c : Option Tree) → slice_get (children_at t a.0) a.1 ≡ c
            → option_and_then (λ v. tree_at v ss) (option_map H c) ≡ Some w
            → ((v : Tree) → OriginsAt v p → tree_at (H v) ss ≡ Some w → From v p ss w) → From t (a ∷ p) (a ∷ ss) w
        at_child None is f more = absurd cc
        at_child (Some v) is f more = within v is (more v (λ u c found here. o u c (ap (option_and_then (λ x. tree_at x p)) is ∙ found) here) f)

        by_step : (b : Bool) → step_eq a s ≡ b → ((v : Tree) → OriginsAt v p → tree_at (H v) ss ≡ Some w → From v p ss w) → From t (a ∷ p) (s ∷ ss) w
        by_step true same more =
            let way = step_eq-sound a s same in
            let e' = subst (λ (r : Way). tree_at (with_cell (with_child H a.1) a.0 t) (r ∷ ss) ≡ Some w) (sym way) e in
            subst (λ (r : Way). From t (a ∷ p) (r ∷ ss) w) way (at_child (slice_get (children_at t a.0) a.1) refl (ap (option_and_then (λ v. tree_at v ss)) (sym (step-same H a t)) ∙ e') more)
        by_step false same more =
            old (s ∷ ss) w (ap (λ (b : Bool). if b then option_map (λ (us : Node). s ∷ us) (moved_under p past ss) else Some (s ∷ ss)) same)
            (ap (option_and_then (λ v. tree_at v ss)) (sym (step-other H a s t same)) ∙ e)

    -- the new trees are one at most, its numbers are apart, and none of them stands in the tree
    pub record AreNew (t : Tree) : Type 0 where
      pub one : (x y : Tree) (i j : ℕ) → IsNew x i → IsNew y j → (x ≡ y) × (i ≡ j)
      pub apart : (x : Tree) (i : ℕ) → IsNew x i → IsApart x
      pub fresh : (x : Tree) (i : ℕ) → IsNew x i → (n m : Node) (u v : Tree) → tree_at t n ≡ Some u → tree_at x m ≡ Some v → class_of u ≡ class_of v → ⊥

    module _ (t : Tree) (p : Node) (apart : IsApart t) (fits : FitsAt g part past t p) (origins : OriginsAt t p) (news : AreNew t) where
      abbrev after : Tree
      after = with_node (with_cell g part) t p

      pub same_number : (n m : Node) (v w : Tree) → moved_under p past n ≡ Some m → tree_at t n ≡ Some v → tree_at after m ≡ Some w → class_of w ≡ class_of v
      same_number n m v w moves was is =
          let (x, there, number, same) = cell_there g part past keeps t p n m v fits moves was in
          let e : Some w ≡ Some x = sym is ∙ there in
          let f : w ≡ x = cc in
          ap class_of f ∙ number

      pub apart_after : IsApart after
      apart_after n m u v is at' same = both (origin p n t u origins is) (origin p m t v origins at')
        where
          both : From t p n u → From t p m v → n ≡ m
          both (old a x moves was) (old b y goes here) =
              let e = apart a b x y was here (sym (same_number a n x u moves was is) ∙ same ∙ same_number b m y v goes here at') in
              let f : Some n ≡ Some m = sym moves ∙ ap (moved_under p past) e ∙ goes in
              cc
          both (old a x moves was) (new y j rest h at'' found) = absurd (news.fresh y j h a rest x v was found (sym (same_number a n x u moves was is) ∙ same))
          both (new x i rest h at'' found) (old b y goes here) = absurd (news.fresh x i h b rest y u here found (sym (same_number b m y v goes here at') ∙ sym same))
          both (new x i rest h at1 found) (new y j more k at2 here) =
              let (e, f) = news.one x y i j h k in
              let found' = subst (λ z. tree_at z rest ≡ Some u) e found in
              let r = news.apart y j k rest more u v found' here same in
              at1 ∙ (λ l. p ++ (part, f l) ∷ r l) ∙ sym at2

      -- a number goes where its node goes
      pub number_kept : (k : ℕ) (n m : Node) → path_in k t ≡ Some n → moved_under p past n ≡ Some m → path_in k after ≡ Some m
      number_kept k n m e moves =
          let (v, was, number) = number_found t k n e in
          let (x, there, same, rest) = cell_there g part past keeps t p n m v fits moves was in
          ap (λ j. path_in j after) (sym number ∙ sym same) ∙ named after apart_after m x there

      -- and stands nowhere if that goes nowhere
      pub number_gone : (k : ℕ) (n : Node) → path_in k t ≡ Some n → moved_under p past n ≡ None → path_in k after ≡ None
      number_gone k n e gone = at_path (path_in k after) refl
        where
          by_origin : (m : Node) (v w : Tree) → tree_at t n ≡ Some v → class_of v ≡ k → tree_at after m ≡ Some w → class_of w ≡ k → From t p m w → Some m ≡ None
          by_origin m v w was number is same (old a x moves here) =
              let f = apart a n x v here was (sym (same_number a m x w moves here is) ∙ same ∙ sym number) in
              sym moves ∙ ap (moved_under p past) f ∙ gone
          by_origin m v w was number is same (new x j rest h at' found) = absurd (news.fresh x j h n rest v w was found (number ∙ sym same))

          at_path : (o : Option Node) → path_in k after ≡ o → o ≡ None
          at_path None f = refl
          at_path (Some m) f =
              let (v, was, number) = number_found t k n e in
              let (w, is, same) = number_found after k m f in
              by_origin m v w was number is same (origin p m t w origins is)

      -- a number that stands neither in the tree nor in what is new stands nowhere
      pub number_absent : (k : ℕ) → path_in k t ≡ None → ((x : Tree) (j : ℕ) → IsNew x j → path_in k x ≡ None) → path_in k after ≡ None
      number_absent k e none = at_path (path_in k after) refl
        where
          by_origin : (m : Node) (w : Tree) → tree_at after m ≡ Some w → class_of w ≡ k → From t p m w → Some m ≡ None
          by_origin m w is same (old a x moves here) =
              let f : path_in k t ≡ Some a = ap (λ j. path_in j t) (sym same ∙ same_number a m x w moves here is) ∙ named t apart a x here in
              let g : None ≡ Some a = sym e ∙ f in absurd cc
          by_origin m w is same (new x j rest h at' found) =
              let f : path_in k x ≡ Some rest = ap (λ j. path_in j x) (sym same) ∙ named x (news.apart x j h) rest w found in
              let g : None ≡ Some rest = sym (none x j h) ∙ f in absurd cc

          at_path : (o : Option Node) → path_in k after ≡ o → o ≡ None
          at_path None f = refl
          at_path (Some m) f = let (w, is, same) = number_found after k m f in by_origin m w is same (origin p m t w origins is)

      -- where a number stands after the change
      pub number_after : (k : ℕ) → ((x : Tree) (j : ℕ) → IsNew x j → path_in k x ≡ None) → path_in k after ≡ option_and_then (moved_under p past) (path_in k t)
      number_after k none = at_path (path_in k t) refl
        where
          goes : (n : Node) → path_in k t ≡ Some n → (o : Option Node) → moved_under p past n ≡ o → path_in k after ≡ o
          goes n e None f = number_gone k n e f
          goes n e (Some m) f = number_kept k n m e f

          at_path : (o : Option Node) → path_in k t ≡ o → path_in k after ≡ option_and_then (moved_under p past) o
          at_path None e = number_absent k e none
          at_path (Some n) e = goes n e (moved_under p past n) refl
