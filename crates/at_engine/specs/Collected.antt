-- Values that are collected one after the other.
use Rattle.std.specs.Prelude.{◌≡◌, List, ◌++◌, Option, option_map}
use Rattle.at_model.specs.Machine.{each}
use Rattle.at_model.specs.Alike.{ListLike}

-- those before the rest are there, and these stand for them
abbrev pub Collected : {A B : Type 0} → (A → B → Type 0) → (all : List (Option B)) → List A → (rest : List (Option B)) → Type 0
Collected {A} {B} R all vs rest = (ws : List B) × ListLike R vs ws × (each all ≡ option_map (λ ys. ws ++ ys) (each rest))
