-- The nodes of a world, and their classes.
use Rattle.std.proofs.Common.{◌≡◌, ℕ, [], ◌++◌, Option, Some, None, refl, sym, ap, ◌∙◌, subst}
use Rattle.std.specs.Prelude.{IsSome}
use Rattle.at_model.specs.Classes.{Classes}
use Rattle.at_model.specs.Trees.{Tree, class_of}
use Rattle.at_model.specs.Paths.{Node, Path, tree_at}
use Rattle.at_model.specs.Run.{Is}
use Rattle.at_model.specs.TypedRuns.{class_at}
use Rattle.at_model.proofs.Options.{led, mapped}
use Rattle.at_store.specs.Led.{Led}
use Rattle.at_store.specs.Shown.{Shown, contents, numbers, path, tree}
use Rattle.at_store.proofs.Reading.{shown_there}
use Rattle.at_body.specs.Typed.{class_shown}

-- what has a path has a class
pub number_there : (s : Shown) (k : ℕ) (n : Node) → path s k ≡ Some n → IsSome (class_shown s k)
number_there s k n p = let (u, is, number, there) = shown_there s k n p in rw (p, there) refl

-- the node to which steps lead is there
pub led_there : (s : Shown) (classes : Classes) (steps : Path) (root k : ℕ) (r : Option ℕ) → path s root ≡ Some [] → ((n : Node) (u : Tree) → path s root ≡ Some n → tree_at (tree s) n ≡ Some u → Led (numbers s) classes n u steps r) → r ≡ Some k → IsSome (class_shown s k)
led_there s classes steps root k None p leads e = absurd cc
led_there s classes steps root k (Some m) p leads e =
    let same : m ≡ k = cc in
    let h : Led (numbers s) classes [] (tree s) steps (Some m) = leads [] (tree s) p refl in
    subst (λ j. IsSome (class_shown s j)) same (number_there s m ([] ++ h.0) h.2)

-- what is shown as the class of a node that is there is its class
pub class_is : (s : Shown) (k c : ℕ) → class_shown s k ≡ Some c → contents s (Is k) ≡ c
class_is s k c e =
    let (n, p, at) = led (class_at (tree s)) (path s k) c e in
    let (u, there, is) = mapped class_of (tree_at (tree s) n) c at in
    ap (λ (o : Option Node). elim o as (λ _. ℕ) [ None ↦ 0 | Some m ↦ elim (tree_at (tree s) m) as (λ _. ℕ) [ None ↦ 0 | Some v ↦ class_of v ] ]) p ∙ ap (λ (o : Option Tree). elim o as (λ _. ℕ) [ None ↦ 0 | Some v ↦ class_of v ]) there ∙ is

pub class_of_there : (s : Shown) (k : ℕ) → IsSome (class_shown s k) → class_shown s k ≡ Some (contents s (Is k))
class_of_there s k there = by_class (class_shown s k) refl there
  where
    by_class : (o : Option ℕ) → class_shown s k ≡ o → IsSome o → class_shown s k ≡ Some (contents s (Is k))
    by_class None e h = absurd cc
    by_class (Some c) e h = e ∙ ap Some (sym (class_is s k c e))
