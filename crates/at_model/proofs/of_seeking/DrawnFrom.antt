-- In a drawer of a tree stand the children of the component that stand under the mark.
use Rattle.std.proofs.Common.{◌≡◌, ℕ, suc, ◌+◌, Bool, true, false, cond, List, [], ◌∷◌, ◌++◌, Option, Some, None, refl, sym, ap, ◌∙◌, subst, arith}
use Rattle.std.specs.List.{slice_get}
use Rattle.at_model.specs.Drawers.{Key, stands_under}
use Rattle.at_model.specs.Trees.{Tree, Token, class_of}
use Rattle.at_model.specs.Trees as tree
use Rattle.at_model.specs.Paths.{Node, tree_at, cell_at, children_at}
use Rattle.at_model.specs.Meaning.{token_in, is_marked, child_nodes, chosen_nodes, content}
use Rattle.at_model.specs.Seeking.{those, is_in_drawer, AreDrawn}
use Rattle.at_model.proofs.of_edits.Untouched.{at_child}

-- a node stands under the mark where its tree does
node_marked : (t : Tree) (n : Node) (x : Tree) (key : Key) (m : ℕ) → tree_at t n ≡ Some x → is_in_drawer (content t) key m n ≡ is_marked key m x
node_marked t n x key m found =
    ap (λ (o : Option Tree). stands_under key m (elim o [ None ↦ 0 | Some u ↦ class_of u ]) (elim o [ None ↦ tree.Truth false | Some u ↦ token_in (cell_at u key.token) ])) found

one_of : (b c : Bool) (n : Node) (xs ys : List Node) → c ≡ b → xs ≡ ys → cond b (n ∷ xs) xs ≡ cond c (n ∷ ys) ys
one_of true true n xs ys e f = ap (λ (z : List Node). n ∷ z) f
one_of false false n xs ys e f = f
one_of true false n xs ys e f = absurd cc
one_of false true n xs ys e f = absurd cc

drawn_from : (t : Tree) (n : Node) (part : ℕ) (key : Key) (m k : ℕ) (ts : List Tree) → ((j : ℕ) (x : Tree) → slice_get ts j ≡ Some x → tree_at t (n ++ (part, k + j) ∷ []) ≡ Some x)
    → chosen_nodes (is_marked key m) n part k ts ≡ those (is_in_drawer (content t) key m) (child_nodes n part k ts)
drawn_from t n part key m k [] there = refl
drawn_from t n part key m k (x ∷ xs) there =
    let e : k + 0 ≡ k = omega arith in
    one_of (is_marked key m x) (is_in_drawer (content t) key m (n ++ (part, k) ∷ [])) (n ++ (part, k) ∷ []) _ _
    (node_marked t (n ++ (part, k) ∷ []) x key m (subst (λ (z : ℕ). tree_at t (n ++ (part, z) ∷ []) ≡ Some x) e (there 0 x refl)))
    (drawn_from t n part key m (suc k) xs (λ j y f. let g : k + suc j ≡ suc k + j = omega arith in subst (λ (z : ℕ). tree_at t (n ++ (part, z) ∷ []) ≡ Some y) g (there (suc j) y f)))

pub are_drawn : (t : Tree) → AreDrawn (content t)
are_drawn t n part key m = by_tree (tree_at t n) refl
  where
    by_tree : (o : Option Tree) → tree_at t n ≡ o → elim o [ None ↦ [] | Some u ↦ chosen_nodes (is_marked key m) n part 0 (children_at u part) ]
        ≡ those (is_in_drawer (content t) key m) (elim o [ None ↦ [] | Some u ↦ child_nodes n part 0 (children_at u part) ])
    by_tree None found = refl
    by_tree (Some u) found = drawn_from t n part key m 0 (children_at u part)
        (λ j x e. let g : 0 + j ≡ j = omega arith in subst (λ (z : ℕ). tree_at t (n ++ (part, z) ∷ []) ≡ Some x) (sym g) (at_child t n (part, j) u found ∙ e))
