-- Each node of a tree that conforms is of one of the classes.
use Rattle.std.proofs.Common.{◌≡◌, ℕ, ◌<◌, true, false, not, length, arith, Option, Some, None, slice_get, subst, refl}
use Rattle.std.proofs.lemmas.Option.{slice_get_within}
use Rattle.std.proofs.lemmas.Bool.{and_parts}
use Rattle.at_model.specs.Classes.{Classes, Class, is_concrete}
use Rattle.at_model.specs.Trees.{Tree, class_of, conforms}
use Rattle.at_model.specs.Paths.{Node, tree_at}
use Rattle.at_model.specs.Run.{Is}
use Rattle.at_model.specs.Meaning.{content}
use Rattle.at_model.proofs.Complete.{conforms_at, fits_there}
use Rattle.at_store.specs.Shown.{Shown, contents, path, tree}

concrete_there : (classes : Classes) (c : ℕ) (o : Option Class) → slice_get classes c ≡ o → is_concrete classes c ≡ true → c < length classes
concrete_there classes c None is concrete = let e = subst (λ o. elim o [ None ↦ false | Some k ↦ not k.is_abstract ] ≡ true) is concrete in absurd cc
concrete_there classes c (Some k) is concrete = slice_get_within classes c k is

class_within : (classes : Classes) (u : Tree) (b : ℕ) → conforms classes u b ≡ true → class_of u < length classes
class_within classes u b h = concrete_there classes (class_of u) (slice_get classes (class_of u)) refl (and_parts _ _ (fits_there classes u b h)).0

root_within : (classes : Classes) (t : Tree) → conforms classes t 0 ≡ true → 0 < length classes
root_within classes t h = omega (arith, class_within classes t 0 h)

by_tree : (classes : Classes) (t : Tree) → conforms classes t 0 ≡ true → (n : Node) (o : Option Tree) → tree_at t n ≡ o → elim o [ None ↦ 0 | Some u ↦ class_of u ] < length classes
by_tree classes t h n None is = root_within classes t h
by_tree classes t h n (Some u) is = let (b, f) = conforms_at classes t 0 n u h is in class_within classes u b f

by_path : (classes : Classes) (t : Tree) → conforms classes t 0 ≡ true → (o : Option Node) → elim o [ None ↦ 0 | Some n ↦ content t (Is n) ] < length classes
by_path classes t h None = root_within classes t h
by_path classes t h (Some n) = by_tree classes t h n (tree_at t n) refl

-- so is what a store shows as the class of any number
pub shown_within : (classes : Classes) (s : Shown) (k : ℕ) → conforms classes (tree s) 0 ≡ true → contents s (Is k) < length classes
shown_within classes s k h = by_path classes (tree s) h (path s k)
