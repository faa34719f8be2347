-- Instances that the test finds the same are equal.
use Rattle.std.proofs.Common.{◌≡◌, ℕ, true, false}
use Rattle.std.proofs.lemmas.Bool.{false_from_ne_true}
use Rattle.at_model.specs.Run.{Instance}
use Rattle.at_body.specs.Same.{same_instance}
use Rattle.at_body.specs.Sameness.{instances_equiv}
pub use Rattle.at_body.proofs.SamenessLemmas.{same_true}

pub same_refl : (i : Instance ℕ) → same_instance i i ≡ true
same_refl i = instances_equiv.refl i

pub apart : (i j : Instance ℕ) → (i ≡ j → ⊥) → same_instance i j ≡ false
apart i j other = false_from_ne_true (same_instance i j) (λ e. other (same_true i j e))
