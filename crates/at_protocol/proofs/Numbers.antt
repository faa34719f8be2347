-- Texts that are compared.
use Rattle.std.proofs.Common.{◌≡◌, Bool, true, List, ℕ, sym, ◌∙◌}
use Rattle.std.specs.Str.{bytes_eq}
use Rattle.std.proofs.lemmas.Slice.Eq.{bytes_eq-Decides}

pub equal : (s t : List ℕ) (r : Bool) → r ≡ bytes_eq s t → r ≡ true → s ≡ t
equal s t r is true_is = (bytes_eq-Decides s t).0 (sym is ∙ true_is)
