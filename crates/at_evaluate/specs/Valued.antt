-- What instances come to, and which of their values are kept.
use Rattle.std.specs.Prelude.{◌≡◌, ℕ, nat_eq, false, List, Some, None, IsSome, Contains}
use Rattle.at_model.specs.Run.{Instance, Known}
use Rattle.at_model.specs.Rules.{Rules, evaluation, is_lazy}
use Rattle.at_model.specs.of_fixpoints.Evaluations.{evaluation as formulas}
use Rattle.at_model.specs.of_fixpoints.Formulas.{Forms}
use Rattle.at_model.specs.Meaning.{Equations}
use Rattle.at_cache.specs.Kept.{Kept, Entries, value_at}

-- what the instances of a store come to: by their formulas
abbrev pub meaning : Rules → Forms ℕ
meaning rules = formulas rules nat_eq

-- how one is evaluated whose attribute isn't circular
abbrev pub equations : Rules → Equations ℕ
equations rules i = evaluation rules nat_eq i

-- the values that are kept
abbrev pub kept_values : Entries → Known ℕ
kept_values entries i = value_at (entries i)

-- a value of the instance is kept
abbrev pub IsKept : Entries → Instance ℕ → Type 0
IsKept entries i = IsSome (kept_values entries i)

-- so it is of each of these
abbrev pub AreValued : Entries → List (Instance ℕ) → Type 0
AreValued entries is = (i : Instance ℕ) → Contains is i → IsKept entries i

-- an entry without a value is of an attribute that isn't lazy
abbrev pub ArePlain : Rules → Entries → Type 0
ArePlain rules entries = (i : Instance ℕ) (k : Kept) → entries i ≡ Some k → k.value ≡ None → is_lazy rules i.attribute ≡ false

-- `new` has the entries of `old`
abbrev pub KeepsEntries : (old new : Entries) → Type 0
KeepsEntries old new = (i : Instance ℕ) → IsSome (old i) → new i ≡ old i
