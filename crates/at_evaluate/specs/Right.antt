-- What is kept of the values of a store's instances is right.
use Rattle.std.specs.Prelude.{◌≡◌, ℕ, true, Some}
use Rattle.at_model.specs.Paths.{Node}
use Rattle.at_model.specs.Run.{Value, Instance, Location, Contents}
use Rattle.at_model.specs.Rules.{Rules}
use Rattle.at_model.specs.of_fixpoints.Fixpoints.{HasValue}
use Rattle.at_evaluate.specs.Meant.{AreRightValues}
use Rattle.at_model.specs.of_fixpoints.Resting.{Supports}
use Rattle.at_model.specs.Alike.{InstanceLike, Names}
use Rattle.at_store.specs.Shown.{Shown, contents, path}
use Rattle.at_cache.specs.Kept.{Kept, Entries}
use Rattle.at_evaluate.specs.Valued.{meaning, kept_values, ArePlain}

-- the instance is one of the tree: its node stands there, and so do the nodes among its arguments
abbrev pub IsThere : Shown → Instance ℕ → Type 0
IsThere s i = (j : Instance Node) × InstanceLike (Names (path s)) i j

-- it has a value
abbrev pub IsValued : Rules → Shown → Instance ℕ → Type 0
IsValued rules s i = (v : Value ℕ) × HasValue (contents s) (meaning rules) i v

-- each entry stands for all that supports its instance
abbrev pub AreCovered : Rules → Contents ℕ → Entries → Type 0
AreCovered rules look entries = (i : Instance ℕ) (k : Kept) → entries i ≡ Some k → (l : Location ℕ) → Supports look (meaning rules) l i → k.covers l ≡ true

-- Each kept value is its instance's; each entry is of an instance of the tree that has a value, and stands for all that supports it;
-- and it is without a value only where the attribute isn't lazy.
pub record AreRight (rules : Rules) (s : Shown) (entries : Entries) : Type 0 where
  pub values : AreRightValues (contents s) (meaning rules) (kept_values entries)
  pub valued : (i : Instance ℕ) (k : Kept) → entries i ≡ Some k → IsValued rules s i
  pub there : (i : Instance ℕ) (k : Kept) → entries i ≡ Some k → IsThere s i
  pub covers : (i : Instance ℕ) (k : Kept) → entries i ≡ Some k → (l : Location ℕ) → Supports (contents s) (meaning rules) l i → k.covers l ≡ true
  pub plain : ArePlain rules entries
