-- Values that words name suit by the numbers of nodes as they do by the nodes.
use Rattle.std.proofs.Common.{◌≡◌, ℕ, ℤ, pos, negsuc, ◌≤◌, Bool, true, false, nat_le, arith, ◌&&◌, List, [], ◌∷◌, Option, Some, None, refl, sym, ap, ◌∙◌}
use Rattle.std.specs.List.{list_all}
use Rattle.std.proofs.lemmas.Bool.Decides.{nat_tests}
use Rattle.at_model.specs.Bodies.{may_pass, max_step}
use Rattle.at_model.specs.Classes.{Classes, is_sub}
use Rattle.at_model.specs.Trees.{Tree, class_of}
use Rattle.at_model.specs.Paths.{Node, tree_at}
use Rattle.at_model.specs.Run.{Value, Ref, Contents, Location, Is}
use Rattle.at_model.specs.Run as run
use Rattle.at_model.specs.Rules.{Kind, Int, Truth, Text, Class, Nodes}
use Rattle.at_model.specs.Meaning.{content}
use Rattle.at_model.specs.Machine.{fits_int, fits_parameter, fit_parameters, is_near}
use Rattle.at_model.specs.Alike.{neither, both, ListLike, end, more, ValueLike, int, truth, text, ref, nodes, AlikeAt, Names, is}
use Rattle.at_engine.specs.Fitting.{fits_number, fit_numbers}

crossed : (a b c d : Bool) → ((a && b) && (c && d)) ≡ ((a && c) && (b && d))
crossed false b c d = refl
crossed true true c d = refl
crossed true false true d = refl
crossed true false false d = refl

with_true : (b : Bool) → b ≡ (b && true)
with_true true = refl
with_true false = refl

-- an int that may be passed has 32 bits
near_fits : (n : ℕ) (a b : Bool) → nat_le n max_step ≡ a → nat_le n 2147483647 ≡ b → a ≡ (b && a)
near_fits n a true e f = refl
near_fits n false false e f = refl
near_fits n true false e f =
    let less : n ≤ 1048576 = grind (arith, nat_tests, e) in
    let g : nat_le n 2147483647 ≡ true = grind (arith, nat_tests, less) in
    absurd (let h : true ≡ false = sym g ∙ f in cc)

near : (n : ℤ) → may_pass {N = ℕ} (run.Int n) ≡ (fits_int n && may_pass {N = Node} (run.Int n))
near (pos n) = near_fits n (nat_le n max_step) (nat_le n 2147483647) refl refl
near (negsuc n) = near_fits n (nat_le n max_step) (nat_le n 2147483647) refl refl

module _ (classes : Classes) (path : ℕ → Option Node) (look : Contents ℕ) (t : Tree)
    (alike : (l : Location ℕ) → AlikeAt (Names path) look (content t) l)
    (found : (k : ℕ) (n : Node) → path k ≡ Some n → (u : Tree) × (tree_at t n ≡ Some u)) where
  -- the class of a number is that of its node
  pub class_at : (k : ℕ) (n : Node) (u : Tree) → path k ≡ Some n → tree_at t n ≡ Some u → look (Is k) ≡ class_of u
  class_at k n u p there = alike (Is k) (Is n) (is p) ∙ ap (λ (o : Option Tree). elim o as (λ _. ℕ) [ None ↦ 0 | Some v ↦ class_of v ]) there

  by_class : (b k : ℕ) (n : Node) → path k ≡ Some n → fits_number classes look (Class b) (Ref (Some k)) ≡ fits_parameter classes t (Class b) (Ref (Some n))
  by_class b k n p = let (u, there) = found k n p in
      ap (λ c. is_sub classes c b) (class_at k n u p there) ∙ sym (ap (λ (o : Option Tree). elim o as (λ _. Bool) [ None ↦ false | Some v ↦ is_sub classes (class_of v) b ]) there)

  -- a value fits by its number where it fits by its node, and is no int that is too far from 0
  fits_like : (k : Kind) {v : Value ℕ} {w : Value Node} → ValueLike (Names path) v w
      → fits_number classes look k v ≡ (fits_parameter classes t k w && is_near w)
  fits_like Int (int n) = near n
  fits_like Int (truth b) = refl
  fits_like Int (text bytes) = refl
  fits_like Int (ref o) = refl
  fits_like Int (nodes ns) = refl
  fits_like Truth (int n) = refl
  fits_like Truth (truth b) = refl
  fits_like Truth (text bytes) = refl
  fits_like Truth (ref o) = refl
  fits_like Truth (nodes ns) = refl
  fits_like Text (int n) = refl
  fits_like Text (truth b) = refl
  fits_like Text (text bytes) = refl
  fits_like Text (ref o) = refl
  fits_like Text (nodes ns) = refl
  fits_like (Class b) (int n) = refl
  fits_like (Class b) (truth c) = refl
  fits_like (Class b) (text bytes) = refl
  fits_like (Class b) (ref neither) = refl
  fits_like (Class b) (ref (both p)) = by_class b _ _ p ∙ with_true _
  fits_like (Class b) (nodes ns) = refl
  fits_like (Nodes b) (int n) = refl
  fits_like (Nodes b) (truth c) = refl
  fits_like (Nodes b) (text bytes) = refl
  fits_like (Nodes b) (ref o) = refl
  fits_like (Nodes b) (nodes ns) = refl

  pub suit_like : (ks : List Kind) {vs : List (Value ℕ)} {ws : List (Value Node)}
      → ListLike (ValueLike (Names path)) vs ws
      → fit_numbers classes look ks vs ≡ (fit_parameters classes t ks ws && list_all is_near ws)
  suit_like [] end = refl
  suit_like [] (more l ls) = refl
  suit_like (k ∷ ks) end = refl
  suit_like (k ∷ ks) (more {b = w} {as' = vs} {bs = ws} l ls) =
      ap (λ c. c && fit_numbers classes look ks vs) (fits_like k l)
      ∙ ap (λ c. (fits_parameter classes t k w && is_near w) && c) (suit_like ks ls)
      ∙ crossed (fits_parameter classes t k w) (is_near w) (fit_parameters classes t ks ws) (list_all is_near ws)
