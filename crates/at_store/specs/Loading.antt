-- Why a tree is not loaded.
use Rattle.std.specs.Prelude.{◌≡◌, ⊤, ℕ, true, false}
use Rattle.at_model.specs.Classes.{Classes}
use Rattle.at_model.specs.Edits.{is_within_nodes}
use Rattle.at_model.specs.Trees.{Tree, conforms}
use Rattle.at_store.specs.declared.edit.LoadFault.{LoadFault}
use Rattle.at_store.specs.declared.edit.LoadFault.TheVariants.{Fit, Limit, Memory}

-- it doesn't conform to the start class, or else a limit would be passed, where it may have so many nodes
abbrev pub IsNotLoaded : Classes → (limit : ℕ) → Tree → LoadFault → Type 0
IsNotLoaded classes limit t Fit = conforms classes t 0 ≡ false
IsNotLoaded classes limit t Limit = (conforms classes t 0 ≡ true) × (is_within_nodes limit t ≡ false)
IsNotLoaded classes limit t Memory = ⊤
