-- What comes to be kept is demanded by the instance that is asked for.
use Rattle.std.specs.Prelude.{◌≡◌, ℕ, None, IsSome}
use Rattle.at_model.specs.Run.{Instance, Contents, Known}
use Rattle.at_model.specs.Meaning.{Reaches}
use Rattle.at_model.specs.Rules.{Rules}
use Rattle.at_model.specs.of_fixpoints.Fixpoints.{HasValue}
use Rattle.at_model.specs.of_fixpoints.Formulas.{Forms}
use Rattle.at_store.specs.Shown.{Shown, contents}
use Rattle.at_cache.specs.Kept.{Entries}
use Rattle.at_evaluate.specs.Valued.{kept_values, meaning}

-- from one on by demands alone, each past demands that have values
pub data DemandsOn {N : Type 0} (look : Contents N) (forms : Forms N) : Instance N → Instance N → Type 0 where
  stays : (i : Instance N) → DemandsOn look forms i i
  goes : (i j k : Instance N) → Reaches look (HasValue look forms) (forms.formula i) j → DemandsOn look forms j k → DemandsOn look forms i k

-- demands lead to all that has come to be known
abbrev pub AddsDemanded : {N : Type 0} → Contents N → Forms N → Instance N → (old new : Known N) → Type 0
AddsDemanded {N} look forms i old new = (j : Instance N) → old j ≡ None → IsSome (new j) → DemandsOn look forms i j

-- so it is of all that has come to be kept
abbrev pub AreLed : Rules → Shown → Instance ℕ → (old new : Entries) → Type 0
AreLed rules s i old new = AddsDemanded (contents s) (meaning rules) i (kept_values old) (kept_values new)
