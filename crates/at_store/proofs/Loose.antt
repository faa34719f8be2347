-- Whether an edit changes what is fixed, in the memory and in the tree.
use Rattle.std.proofs.Common.{◌≡◌, ◌≤◌, ◌<◌, ◌+◌, ◌-◌, ℕ, zero, suc, Bool, true, false, ◌||◌, not, [], ◌∷◌, ◌++◌, length, Option, Some, None, refl, sym, ap, ◌∙◌, arith, option_and_then, option_map}
use Rattle.std.specs.List.{slice_get}
use Rattle.std.proofs.lemmas.List.{length-append}
use Rattle.at_model.specs.Classes.{Classes}
use Rattle.at_model.specs.Terms.{max_depth}
use Rattle.at_model.specs.Trees.{Tree, class_of}
use Rattle.at_model.specs.Paths.{Node, tree_at, children_at}
use Rattle.at_model.specs.Edits.{is_fixed_part, is_planted, is_planted_in, is_loose}
use Rattle.at_model.proofs.Options.{or_false, or_off}
use Rattle.at_store.specs.Memory.{Info, Keeps, class_in, index_in, up_in}
use Rattle.at_store.specs.Numbers.{path_in, relabel}
use Rattle.at_store.specs.Told.{fixed_told, planted_told, planted_in_told, loose_told}
use Rattle.at_store.specs.Refusing.{edit_at, node_of, target_of}
use Rattle.at_store.specs.declared.edit.Edit.{Edit}
use Rattle.at_store.specs.declared.edit.Edit.TheVariants.{Set, Put, Drop, Insert, Token, Move}
use Rattle.at_store.proofs.Found.{number_found}
use Rattle.at_store.proofs.Relabelled.{relabel-class, relabelled-tree_at}
use Rattle.at_store.proofs.Upward.{up_none, up_some}

or_turned : (a b : Bool) → (a || b) ≡ (b || a)
or_turned true true = refl
or_turned true false = refl
or_turned false true = refl
or_turned false false = refl

or_grouped : (a b c : Bool) → (a || (b || c)) ≡ ((a || b) || c)
or_grouped true b c = refl
or_grouped false b c = refl

-- what is told of a node, by the place above it
abbrev planted_by : (ℕ × ℕ → Bool) → Option (ℕ × ℕ) → Bool
planted_by f o = elim o as (λ _. Bool) [ None ↦ false | Some p ↦ f p ]

pub planted_none : (classes : Classes) (memory : ℕ → Option Info) (most k : ℕ) → most ≡ 0 → planted_told classes memory most k ≡ false
unfolding planted_told
planted_none classes memory zero k e = refl
planted_none classes memory (suc most) k e = absurd (omega (arith, e))

pub planted_root : (classes : Classes) (memory : ℕ → Option Info) (most k : ℕ) → up_in (memory k) ≡ None → planted_told classes memory most k ≡ false
unfolding planted_told
planted_root classes memory zero k e = refl
planted_root classes memory (suc most) k e = ap (planted_by (λ p. fixed_told classes (memory p.0) p.1 || planted_told classes memory most p.0)) e

pub planted_above : (classes : Classes) (memory : ℕ → Option Info) (most k : ℕ) (p : ℕ × ℕ) → 0 < most → up_in (memory k) ≡ Some p
    → planted_told classes memory most k ≡ (fixed_told classes (memory p.0) p.1 || planted_told classes memory (most - 1) p.0)
unfolding planted_told
planted_above classes memory zero k p h e = absurd (omega (arith, h))
planted_above classes memory (suc most) k p h e =
    let g : suc most - 1 ≡ most = omega arith in
    ap (planted_by (λ p. fixed_told classes (memory p.0) p.1 || planted_told classes memory most p.0)) e
    ∙ ap (λ z. fixed_told classes (memory p.0) p.1 || planted_told classes memory z p.0) (sym g)

-- where no component of a class is fixed nothing is
module _ (classes : Classes) (memory : ℕ → Option Info) (none : (c part : ℕ) → is_fixed_part classes c part ≡ false) where
  none_fixed : (o : Option Info) (part : ℕ) → fixed_told classes o part ≡ false
  none_fixed None part = refl
  none_fixed (Some i) part = none i.class part

  none_planted : (most k : ℕ) → planted_told classes memory most k ≡ false
  unfolding planted_told
  none_planted zero k = refl
  none_planted (suc most) k = by_up (up_in (memory k)) (none_planted most)
    where
      by_up : (o : Option (ℕ × ℕ)) → ((j : ℕ) → planted_told classes memory most j ≡ false)
          → planted_by (λ p. fixed_told classes (memory p.0) p.1 || planted_told classes memory most p.0) o ≡ false
      by_up None above = refl
      by_up (Some p) above = or_off _ _ (none_fixed (memory p.0) p.1) (above p.0)

  none_planted_in : (k part : ℕ) → planted_in_told classes memory k part ≡ false
  none_planted_in k part = or_off _ _ (none_fixed (memory k) part) (none_planted max_depth k)

  pub all_loose : (e : Edit) → loose_told classes memory e ≡ true
  all_loose (Set node tree) = ap not (none_planted max_depth node)
  all_loose (Put node part tree) = ap not (none_planted_in node part)
  all_loose (Drop node) = ap not (none_planted max_depth node)
  all_loose (Insert node part index tree) = ap not (none_planted_in node part)
  all_loose (Token node part value) = ap not (none_planted_in node part)
  all_loose (Move node to part index) = ap not (or_off _ _ (none_planted max_depth node) (none_planted_in to part))

-- a component of a node of a tree is fixed
abbrev fixed_at : Classes → ℕ → Option Tree → Bool
fixed_at classes part o = elim o as (λ _. Bool) [ None ↦ false | Some u ↦ is_fixed_part classes (class_of u) part ]

-- what stands in a component stands in something fixed where the component is that or stands in it
planted_last : (classes : Classes) (t : Tree) (m : Node) (w : ℕ × ℕ) → is_planted classes t (m ++ w ∷ []) ≡ is_planted_in classes t m w.0
planted_last classes t [] w = below (slice_get (children_at t w.0) w.1)
  where
    below : (o : Option Tree) → (is_fixed_part classes (class_of t) w.0 || elim o as (λ _. Bool) [ None ↦ false | Some u ↦ false ]) ≡ is_fixed_part classes (class_of t) w.0
    below None = or_false (is_fixed_part classes (class_of t) w.0)
    below (Some u) = or_false (is_fixed_part classes (class_of t) w.0)
planted_last classes t (r ∷ m) w = below (slice_get (children_at t r.0) r.1) (λ u. planted_last classes u m w)
  where
    here : Bool
    here = is_fixed_part classes (class_of t) r.0

    below : (o : Option Tree) → ((u : Tree) → is_planted classes u (m ++ w ∷ []) ≡ is_planted_in classes u m w.0)
        → (here || elim o as (λ _. Bool) [ None ↦ false | Some u ↦ is_planted classes u (m ++ w ∷ []) ])
        ≡ ((here || elim o as (λ _. Bool) [ None ↦ false | Some u ↦ is_planted classes u m ]) || fixed_at classes w.0 (option_and_then (λ u. tree_at u m) o))
    below None more = sym (or_false (here || false))
    below (Some u) more = ap (λ b. here || b) (more u) ∙ or_grouped here (is_planted classes u m) (fixed_at classes w.0 (tree_at u m))

module _ (classes : Classes) (memory : ℕ → Option Info) (s : Tree) (h : Keeps memory s None) where
  abbrev f : ℕ → ℕ
  f = class_in memory

  abbrev shown : Tree
  shown = relabel f s

  fixed_is : (k : ℕ) (n : Node) → path_in k s ≡ Some n → (part : ℕ) → fixed_told classes (memory k) part ≡ fixed_at classes part (tree_at shown n)
  fixed_is k n p part =
      let (u, is, number) = number_found s k n p in
      let there = h.stored n u is in
      let here = ap memory (sym number) ∙ there.is in
      let class : class_of (relabel f u) ≡ there.class = relabel-class f u ∙ ap f number ∙ ap (λ o. elim o as (λ _. ℕ) [ None ↦ 0 | Some i ↦ i.class ]) here in
      ap (λ o. fixed_told classes o part) here ∙ ap (λ c. is_fixed_part classes c part) (sym class)
      ∙ sym (ap (fixed_at classes part) (relabelled-tree_at f s n ∙ ap (option_map (relabel f)) is))

  above_is : (most k : ℕ) (n : Node) → path_in k s ≡ Some n → length n ≤ most → planted_told classes memory most k ≡ is_planted classes shown n
  above_is zero k n p low = planted_none classes memory zero k refl ∙ sym (no_steps n low)
    where
      no_steps : (n : Node) → length n ≤ 0 → is_planted classes shown n ≡ false
      no_steps [] low = refl
      no_steps (x ∷ n) low = absurd (omega (arith, low))
  above_is (suc most) k n p low = by_up (up_in (memory k)) refl (λ j m q l. above_is most j m q l)
    where
      by_up : (o : Option (ℕ × ℕ)) → up_in (memory k) ≡ o → ((j : ℕ) (m : Node) → path_in j s ≡ Some m → length m ≤ most
          → planted_told classes memory most j ≡ is_planted classes shown m) → planted_told classes memory (suc most) k ≡ is_planted classes shown n
      by_up None e more = planted_root classes memory (suc most) k e ∙ sym (ap (is_planted classes shown) (up_none memory s h k n p e))
      by_up (Some w) e more =
          let a = up_some memory s h k w.0 w.1 n p e in
          let long : length n ≡ length a.node + 1 = ap length a.steps ∙ length-append a.node ((w.1, index_in (memory k)) ∷ []) in
          let g : suc most - 1 ≡ most = omega arith in
          let below = ap (λ z. planted_told classes memory z w.0) g ∙ more w.0 a.node a.stands (omega (arith, long, low)) in
          planted_above classes memory (suc most) k w (omega arith) e ∙ (λ i. fixed_is w.0 a.node a.stands w.1 i || below i)
          ∙ or_turned (fixed_at classes w.1 (tree_at shown a.node)) (is_planted classes shown a.node)
          ∙ sym (ap (is_planted classes shown) a.steps ∙ planted_last classes shown a.node (w.1, index_in (memory k)))

  planted_is : (k : ℕ) (n : Node) → path_in k s ≡ Some n → planted_told classes memory max_depth k ≡ is_planted classes shown n
  planted_is k n p =
      let (u, is, number) = number_found s k n p in
      let low = h.shallow n u is in
      above_is max_depth k n p (omega (arith, low))

  planted_in_is : (k : ℕ) (n : Node) → path_in k s ≡ Some n → (part : ℕ) → planted_in_told classes memory k part ≡ is_planted_in classes shown n part
  planted_in_is k n p part = (λ i. fixed_is k n p part i || planted_is k n p i) ∙ or_turned (fixed_at classes part (tree_at shown n)) (is_planted classes shown n)

  pub loose_is : (e : Edit) (n m : Node) → path_in (node_of e) s ≡ Some n → path_in (target_of e) s ≡ Some m → loose_told classes memory e ≡ is_loose classes shown (edit_at n m e)
  loose_is (Set node tree) n m p q = ap not (planted_is node n p)
  loose_is (Put node part tree) n m p q = ap not (planted_in_is node n p part)
  loose_is (Drop node) n m p q = ap not (planted_is node n p)
  loose_is (Insert node part index tree) n m p q = ap not (planted_in_is node n p part)
  loose_is (Token node part value) n m p q = ap not (planted_in_is node n p part)
  loose_is (Move node to part index) n m p q = λ i. not (planted_is node n p i || planted_in_is to m q part i)
