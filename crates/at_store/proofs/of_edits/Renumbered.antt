-- The indexes of children after their cell was changed.
use Rattle.std.proofs.Common.{◌≡◌, ℕ, zero, suc, ◌+◌, ◌-◌, ◌<◌, ◌≤◌, Bool, true, false, ◌&&◌, nat_eq, nat_lt, cond, if◌then◌else◌, List, [], ◌∷◌, ◌++◌, Option, Some, None, ◌⊎◌, inl, inr, refl, sym, ap, ◌∙◌, arith, option_and_then, option_map}
use Rattle.std.specs.Prelude.{map}
use Rattle.std.specs.List.{slice_get}
use Rattle.std.proofs.lemmas.Bool.{eqb-true, eq-eqb}
use Rattle.std.proofs.lemmas.Bool.Decides.{nat_tests}
use Rattle.std.proofs.lemmas.Option.{slice_get-map}
use Rattle.at_model.specs.Trees.{Tree, Cell, class_of, children}
use Rattle.at_model.specs.Paths.{Node, tree_at, cell_at, children_at, node_eq}
use Rattle.at_model.specs.Edits.{with_cell, with_node, moved_under}
use Rattle.at_model.proofs.Nodes.{node_eq-sound, step_eq-refl}
use Rattle.at_model.proofs.Options.{mapped, both}
use Rattle.at_model.proofs.WayUp.{snoc, parent_of-snoc}
use Rattle.at_model.proofs.WithinTree.{tree_at-snoc}
use Rattle.at_model.proofs.of_edits.Moving.{Way, KeepsParts, moved-nil, moved-snoc}
use Rattle.at_model.proofs.of_edits.Untouched.{tree_at-append, changed_there, in_cell as kids, cell-same, FitsAt, cell_there}
use Rattle.at_store.specs.Numbers.{IsApart}
use Rattle.at_store.specs.Memory.{Info, with_index, renumbered}
use Rattle.at_store.proofs.of_edits.Origins.{OriginsAt, AreNew, apart_after}
use Rattle.at_store.proofs.of_edits.Stored.{index_at}

pub not_eq : (a b : ℕ) → (a ≡ b → ⊥) → nat_eq a b ≡ false
not_eq a b h = by_test (nat_eq a b) refl
  where
    by_test : (t : Bool) → nat_eq a b ≡ t → t ≡ false
    by_test true e = absurd (h (eqb-true a b e))
    by_test false e = refl

-- what is kept of a number that is none of these is not renumbered
pub renumbered_absent : (ns : List ℕ) (i k : ℕ) (o : Option Info) → ((j : ℕ) → slice_get ns j ≡ Some k → ⊥) → renumbered ns i k o ≡ o
renumbered_absent [] i k o h = refl
renumbered_absent (n ∷ ns) i k o h =
    let e : nat_eq k n ≡ false = not_eq k n (λ e. h 0 (ap Some (sym e))) in
    ap (λ b. renumbered ns (suc i) k (cond b (with_index i o) o)) e ∙ renumbered_absent ns (suc i) k o (λ j. h (suc j))

renumbered_present : (ns : List ℕ) (i k j : ℕ) (o : Option Info) → slice_get ns j ≡ Some k → ((a : ℕ) → slice_get ns a ≡ Some k → a ≡ j) → renumbered ns i k o ≡ with_index (i + j) o
renumbered_present [] i k j o e h = absurd cc
renumbered_present (n ∷ ns) i k zero o e h =
    let f : n ≡ k = cc in
    let z : i ≡ i + 0 = omega arith in
    ap (λ b. renumbered ns (suc i) k (cond b (with_index i o) o)) (eq-eqb k n (sym f)) ∙ renumbered_absent ns (suc i) k
    (with_index i o) (λ a q. let y : suc a ≡ 0 = h (suc a) q in absurd (omega arith)) ∙ ap (λ x. with_index x o) z
renumbered_present (n ∷ ns) i k (suc j) o e h =
    let d : nat_eq k n ≡ false = not_eq k n (λ q. let y : 0 ≡ suc j = h 0 (ap Some (sym q)) in absurd (omega arith)) in
    let z : suc i + j ≡ i + suc j = omega arith in
    ap (λ b. renumbered ns (suc i) k (cond b (with_index i o) o)) d ∙ renumbered_present ns (suc i) k j o e (λ a q. let y : suc a ≡ suc j = h (suc a) q in omega arith) ∙ ap (λ x. with_index x o) z

-- it stands in the list, or nowhere in it
standing : (ns : List ℕ) (k : ℕ) → ((j : ℕ) × (slice_get ns j ≡ Some k)) ⊎ ((j : ℕ) → slice_get ns j ≡ Some k → ⊥)
standing [] k = inr (λ j e. let f : None ≡ Some k = e in cc)
standing (n ∷ ns) k = first (nat_eq n k) refl (standing ns k)
  where
    first : (b : Bool) → nat_eq n k ≡ b → ((j : ℕ) × (slice_get ns j ≡ Some k)) ⊎ ((j : ℕ) → slice_get ns j ≡ Some k
        → ⊥) → ((j : ℕ) × (slice_get (n ∷ ns) j ≡ Some k)) ⊎ ((j : ℕ) → slice_get (n ∷ ns) j ≡ Some k → ⊥)
    first true e rest = inl (0, ap Some (eqb-true n k e))
    first false e (inl (j, is)) = inl (suc j, is)
    first false e (inr none) = inr nowhere
      where
        nowhere : (j : ℕ) → slice_get (n ∷ ns) j ≡ Some k → ⊥
        nowhere zero q = let f : n ≡ k = cc in let g : true ≡ false = sym (eq-eqb n k f) ∙ e in cc
        nowhere (suc j) q = none j q

pub index_snoc : (root : ℕ) (p : Node) (s : Way) → index_at root (p ++ s ∷ []) ≡ s.1
index_snoc root p s = ap (λ (o : Option (Node × Way)). elim o as (λ _. ℕ) [ None ↦ root | Some p ↦ p.1.1 ]) (parent_of-snoc p s)

-- where a child of the node goes
moved_child : (past : Way → Option Way) (p : Node) (s : Way) → moved_under p past (p ++ s ∷ []) ≡ option_map (λ (w : Way). p ++ w ∷ []) (past s)
moved_child past [] s = refl
moved_child past (a ∷ p) s = ap (λ (b : Bool). if b then option_map (λ (us : Node). a ∷ us)
    (moved_under p past (p ++ s ∷ [])) else Some (a ∷ (p ++ s ∷ []))) (step_eq-refl a)
    ∙ ap (option_map (λ (us : Node). a ∷ us)) (moved_child past p s) ∙ twice (past s)
  where
    twice : (o : Option Way) → option_map (λ (us : Node). a ∷ us) (option_map (λ (w : Way). p ++ w ∷ []) o) ≡ option_map (λ (w : Way). (a ∷ p) ++ w ∷ []) o
    twice None = refl
    twice (Some w) = refl

some_root : (o : Option Tree) → option_and_then (λ v. tree_at v []) o ≡ o
some_root None = refl
some_root (Some v) = refl

module _ (g : Cell → Cell) (part : ℕ) (past : Way → Option Way) (IsNew : Tree → ℕ → Type 0)
    (keeps : KeepsParts past part) (t : Tree) (p : Node) (apart : IsApart t) (fits : FitsAt g part past t p)
    (origins : OriginsAt g part past IsNew t p) (news : AreNew g part past IsNew keeps t)
    (u : Tree) (c : Cell) (found : tree_at t p ≡ Some u) (here : cell_at u part ≡ Some c) (from : ℕ) (behind : List ℕ)
    (behind_is : (j : ℕ) → slice_get behind j ≡ slice_get (map class_of (children (g c))) (from + j))
    (before : (s w : Way) → s.0 ≡ part → past s ≡ Some w → w.1 < from → w.1 ≡ s.1) where
  abbrev after : Tree
  after = with_node (with_cell g part) t p

  is_apart : IsApart after
  is_apart = apart_after g part past IsNew keeps t p apart fits origins news

  -- the children of the changed cell
  child_at : (j : ℕ) → tree_at after (p ++ (part, j) ∷ []) ≡ slice_get (children (g c)) j
  child_at j =
      tree_at-append after p ((part, j) ∷ []) ∙ ap (option_and_then (λ v. tree_at v ((part, j) ∷ []))) (changed_there (with_cell g part) t p ∙ ap (option_map (with_cell g part)) found) ∙
      some_root (slice_get (children_at (with_cell g part u) part) j) ∙ ap (λ o. slice_get (kids o) j) (cell-same g part u ∙ ap (option_map g) here)

  -- a number of those behind stands at its place
  pub there : (j k : ℕ) → slice_get behind j ≡ Some k → (y : Tree) × (slice_get (children (g c)) (from + j) ≡ Some y) × (class_of y ≡ k)
  there j k is = mapped class_of (slice_get (children (g c)) (from + j)) k (sym (slice_get-map class_of (children (g c)) (from + j)) ∙ sym (behind_is j) ∙ is)

  stands : (m : Node) (w : Tree) (j : ℕ) → tree_at after m ≡ Some w → slice_get behind j ≡ Some (class_of w) → m ≡ p ++ (part, from + j) ∷ []
  stands m w j is at' =
      let (y, child, same) = there j (class_of w) at' in
      is_apart m (p ++ (part, from + j) ∷ []) w y is (child_at (from + j) ∙ child) (sym same)

  once : (k a j : ℕ) → slice_get behind a ≡ Some k → slice_get behind j ≡ Some k → a ≡ j
  once k a j e f =
      let (y, child, same) = there a k e in
      let q = stands (p ++ (part, from + a) ∷ []) y j (child_at (from + a) ∙ child) (f ∙ ap Some (sym same)) in
      let z : from + a ≡ from + j = sym (index_snoc 0 p (part, from + a)) ∙ ap (index_at 0) q ∙ index_snoc 0 p (part, from + j) in
      omega arith

  -- a node that is none of those behind keeps its index
  same_index : (n m : Node) (v w : Tree) → tree_at t n ≡ Some v → moved_under p past n ≡ Some m
      → tree_at after m ≡ Some w → ((j : ℕ) → slice_get behind j ≡ Some (class_of w) → ⊥) → index_at 0 n ≡ index_at 0 m
  same_index n m v w was moves is none = by_end (snoc n)
    where
      at_child : (s : Way) → n ≡ p ++ s ∷ [] → part ≡ s.0 → s.1 ≡ index_at 0 m
      at_child s e same =
          let (x, step, f) = mapped (λ (w : Way). p ++ w ∷ []) (past s) m (sym (moved_child past p s) ∙ ap (moved_under p past) (sym e) ∙ moves) in
          sym (by_test x step f (nat_lt x.1 from) refl) ∙ sym (index_snoc 0 p x) ∙ ap (index_at 0) f
        where
          by_test : (x : Way) → past s ≡ Some x → p ++ x ∷ [] ≡ m → (b : Bool) → nat_lt x.1 from ≡ b → x.1 ≡ s.1
          by_test x step f true h = let less : x.1 < from = grind (arith, nat_tests) in before s x (sym same) step less
          by_test x step f false h =
              let more : from ≤ x.1 = grind (arith, nat_tests) in
              let j : ℕ = x.1 - from in
              let at' : from + (x.1 - from) ≡ x.1 = omega arith in
              let x_part : x.0 ≡ part = keeps.same s x step ∙ sym same in
              let way : p ++ (part, x.1) ∷ [] ≡ m = (λ i. p ++ (sym x_part i, x.1) ∷ []) ∙ f in
              let child : slice_get (children (g c)) x.1 ≡ Some w = sym (child_at x.1) ∙ ap (tree_at after) way ∙ is in
              let kid : slice_get (map class_of (children (g c))) x.1 ≡ Some (class_of w) = slice_get-map class_of (children (g c)) x.1 ∙ ap (option_map class_of) child in
              absurd (none (x.1 - from) (behind_is (x.1 - from) ∙ ap (slice_get (map class_of (children (g c)))) at' ∙ kid))

      by_end : (n ≡ []) ⊎ ((k : Node) × (s : Way) × (n ≡ k ++ s ∷ [])) → index_at 0 n ≡ index_at 0 m
      by_end (inl none) =
          let e : Some m ≡ Some [] = sym moves ∙ ap (moved_under p past) none ∙ moved-nil past p in
          let f : m ≡ [] = cc in
          ap (index_at 0) none ∙ sym (ap (index_at 0) f)
      by_end (inr (k, s, e)) = by_test (node_eq p k && nat_eq part s.0) refl
        where
          by_test : (b : Bool) → (node_eq p k && nat_eq part s.0) ≡ b → index_at 0 n ≡ index_at 0 m
          by_test true h =
              let (a, b) = both (node_eq p k) (nat_eq part s.0) h in
              let n_is : n ≡ p ++ s ∷ [] = e ∙ ap (λ z. z ++ s ∷ []) (sym (node_eq-sound p k a)) in
              ap (index_at 0) e ∙ index_snoc 0 k s ∙ at_child s n_is (eqb-true part s.0 b)
          by_test false h =
              let x = moved-snoc past part keeps p k s m (ap (moved_under p past) (sym e) ∙ moves) in
              ap (index_at 0) e ∙ index_snoc 0 k s ∙ sym (x.index_same (λ q. let z : true ≡ false = sym q ∙ h in absurd cc)) ∙ sym (index_snoc 0 x.parent x.step) ∙ ap (index_at 0) (sym x.is)

  -- what is kept of a node that goes on has the index to which the node is moved
  pub renumbered_moved : (n m : Node) (v : Tree) → tree_at t n ≡ Some v → moved_under p past n ≡ Some m → (o : Option
      Info) → with_index (index_at 0 n) o ≡ o → renumbered behind from (class_of v) o ≡ with_index (index_at 0 m) o
  renumbered_moved n m v was moves o own =
      let (w, is, number, rest) = cell_there g part past keeps t p n m v fits moves was in
      by_place w is number (standing behind (class_of v))
    where
      by_place : (w : Tree) → tree_at after m ≡ Some w → class_of w ≡ class_of v →
          ((j : ℕ) × (slice_get behind j ≡ Some (class_of v))) ⊎ ((j : ℕ) → slice_get behind j ≡ Some (class_of v) → ⊥)
          → renumbered behind from (class_of v) o ≡ with_index (index_at 0 m) o
      by_place w is number (inl (j, at')) =
          let m_is = stands m w j is (at' ∙ ap Some (sym number)) in
          renumbered_present behind from (class_of v) j o at' (λ a e. once (class_of v) a j e at') ∙ ap (λ z. with_index z o) (sym (ap (index_at 0) m_is ∙ index_snoc 0 p (part, from + j)))
      by_place w is number (inr none) =
          renumbered_absent behind from (class_of v) o none ∙ sym own ∙ ap (λ z. with_index z o) (same_index n m v w was moves is (λ j e. none j (e ∙ ap Some number)))

  -- no number of what is new is among them, where that stands in front
  pub renumbered_new : (x : Tree) (i : ℕ) → IsNew x i → ((y : Tree) (j : ℕ) → IsNew y j → j < from)
      → (m : Node) (v : Tree) → tree_at x m ≡ Some v → (o : Option Info) → renumbered behind from (class_of v) o ≡ o
  renumbered_new x i new front m v is o = renumbered_absent behind from (class_of v) o nowhere
    where
      nowhere : (j : ℕ) → slice_get behind j ≡ Some (class_of v) → ⊥
      nowhere j e =
          let (y, child, same) = there j (class_of v) e in
          by_source y same (origins u c found here (from + j) y child)
        where
          by_source : (y : Tree) → class_of y ≡ class_of v → ((i : ℕ) × (slice_get (children c) i ≡ Some y) × (past (part, i) ≡ Some (part, from + j))) ⊎ IsNew y (from + j) → ⊥
          by_source y same (inl (a, was, moves)) =
              let old : tree_at t (p ++ (part, a) ∷ []) ≡ Some y = tree_at-snoc t p (part, a) u found ∙ ap (λ o. slice_get (kids o) a) here ∙ was in
              news.fresh x i new (p ++ (part, a) ∷ []) m y v old is same
          by_source y same (inr also) = let less : from + j < from = front y (from + j) also in omega arith

pub from_renumbered : (ns : List ℕ) (i k : ℕ) (o : Option Info) (x : Info) → renumbered ns i k o ≡ Some x → (y : Info) × (o ≡ Some y)
from_renumbered [] i k o x e = (x, e)
from_renumbered (n ∷ ns) i k o x e = let (y, is) = from_renumbered ns (suc i) k (cond (nat_eq k n) (with_index i o) o) x e in by_test (nat_eq k n) o y is
  where
    by_index : (o : Option Info) (y : Info) → with_index i o ≡ Some y → (z : Info) × (o ≡ Some z)
    by_index None y e = absurd cc
    by_index (Some z) y e = (z, refl)

    by_test : (b : Bool) (o : Option Info) (y : Info) → cond b (with_index i o) o ≡ Some y → (z : Info) × (o ≡ Some z)
    by_test true o y e = by_index o y e
    by_test false o y e = (y, e)
